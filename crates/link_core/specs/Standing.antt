-- A link between two batches: what came to it, and what is so of it.
use Rattle.std.specs.Prelude.{◌≡◌, ◌++◌, ◌∷◌, [], List, Option, map}
use Rattle.link_flags.specs.declared.value_flags.RawFlags.{RawFlags}
use Rattle.link_flags.specs.FlagWords.{words_of}
use Rattle.link_input.specs.declared.options.Options.{Options}
use Rattle.link_input.specs.declared.platform.Platform.{Ghosts}
use Rattle.link_input.specs.declared.world.Scripts.{Scripts}
use Rattle.link_input.specs.InputFiles.{Batch}
use Rattle.link_rules.specs.FoundRoots.{Passes}
use Rattle.link_rules.specs.Places.{Bytes}
use Rattle.link_rules.specs.Rules.{PlatformRules}
use Rattle.link_rules.specs.Selection.{Selection}
use Rattle.link_rules.specs.World.{Stage, World, world_of}
use Rattle.link_db.specs.Database.{Database}
use Rattle.link_db.specs.Seen.{seen}
use Rattle.link_resolve.specs.Resolving.{Resolving}
use Rattle.link_resolve_roots.specs.Found.{AreFound, Found}
use Rattle.link_core.specs.declared.batch_size.BatchSize.{BatchSize}
use Rattle.link_core.specs.declared.standing_link.StandingLink.{StandingLink}
use Rattle.link_core.specs.Given.{given_in_batches, world_of_batches}
use Rattle.link_core.specs.Sizes.{batches_in, size_of}
use Rattle.link_core.specs.Steps.{IsOpenWith, IsSteady}

-- this was found for root names at the stages that a link of these batches passes
abbrev pub HaveNoted : PlatformRules → (Bytes → Bytes) → Options → Scripts → List Batch → Found → Type 0
HaveNoted platform demangle options texts [] found = AreFound [] found
HaveNoted platform demangle options texts (b ∷ bs) found =
    (ws : List Stage) (last : Selection) → Passes (world_of platform demangle (given_in_batches b bs options texts)) ws last → AreFound ws found

-- the batches of these sizes came to its link, with these texts, and this was found for root names
pub record IsStanding {P : Type 0} (platform : PlatformRules) (demangle : Bytes → Bytes) (texts : Scripts) (sizes : List BatchSize) (db : Database P) (words : List RawFlags) (r : Resolving) (found : Found) : Type 0 where
  pub came : IsOpenWith platform demangle db.options texts (batches_in sizes db.mapping.files.groups) db words r
  pub steady : IsSteady db words r.known
  pub sizes_are : map size_of (batches_in sizes db.mapping.files.groups) ≡ sizes
  pub noted : HaveNoted platform demangle db.options texts (batches_in sizes db.mapping.files.groups) found

-- it stands
abbrev pub Stands : {P : Type 0} {G : Ghosts P} → PlatformRules → (Bytes → Bytes) → StandingLink P G → Type 0
Stands platform demangle s = IsStanding platform demangle s.texts s.sizes.items (seen s.link.db) (words_of s.link.flags) s.link.resolver s.found

-- the batches that came to it
abbrev pub came_to : {P : Type 0} {G : Ghosts P} → StandingLink P G → List Batch
came_to s = batches_in s.sizes.items (seen s.link.db).mapping.files.groups

-- the world of these batches
abbrev pub standing_world : {P : Type 0} {G : Ghosts P} → PlatformRules → (Bytes → Bytes) → StandingLink P G → Option World
standing_world platform demangle s = world_of_batches platform demangle (seen s.link.db).options s.texts (came_to s)

-- and of these with one more
abbrev pub next_world : {P : Type 0} {G : Ghosts P} → PlatformRules → (Bytes → Bytes) → StandingLink P G → Batch → Option World
next_world platform demangle s b = world_of_batches platform demangle (seen s.link.db).options s.texts (came_to s ++ b ∷ [])

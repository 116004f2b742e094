-- A link to which batches come while it stands.
use Rattle.std.specs.Prelude.{◌++◌, List, [], ◌∷◌, Option}
use Rattle.std.specs.List.{flat_map}
use Rattle.std.specs.Option.{option_map_or}
use Rattle.link_input.specs.declared.options.Options.{Options}
use Rattle.link_input.specs.declared.world.Scripts.{Scripts}
use Rattle.link_input.specs.InputFiles.{Batch}
use Rattle.link_input.specs.ObjectFile.{ObjectFile}
use Rattle.link_rules.specs.Places.{Bytes}
use Rattle.link_rules.specs.Rules.{PlatformRules}
use Rattle.link_rules.specs.World.{World}
use Rattle.link_core.specs.Given.{world_of_batches}

-- what a session holds: what demangles names, the options and texts, and the batches that came
pub record Held (D : Type 0) : Type 0 where
  pub demangler : D
  pub options : Options
  pub texts : Scripts
  pub batches : List Batch

-- the same with one batch more
abbrev pub with_batch : {D : Type 0} → Held D → Batch → Held D
with_batch h b = record h { batches = h.batches ++ b ∷ [] }

-- the world of what a session holds
abbrev pub held_world : {D : Type 0} → PlatformRules → (Bytes → Bytes) → Held D → Option World
held_world platform demangle h = world_of_batches platform demangle h.options h.texts h.batches

-- the batches of a session; one that has ended holds none
abbrev pub batches_of : {D : Type 0} → Option (Held D) → List Batch
batches_of s = option_map_or (λ h. h.batches) s []

-- the objects in them, one after another
abbrev pub objects_of : {D : Type 0} → Option (Held D) → List ObjectFile
objects_of s = flat_map (λ b. b.objects) (batches_of s)

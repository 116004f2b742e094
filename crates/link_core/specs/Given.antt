-- What a link is given.
use Rattle.std.specs.Prelude.{List, [], ◌∷◌, Option, None, Some}
use Rattle.link_input.specs.declared.options.Options.{Options}
use Rattle.link_input.specs.declared.world.Scripts.{Scripts}
use Rattle.link_input.specs.InputFiles.{Batch}
use Rattle.link_rules.specs.Places.{Bytes}
use Rattle.link_rules.specs.Rules.{PlatformRules}
use Rattle.link_rules.specs.World.{Given, World, world_of}

-- batches, one after another, with options and texts
abbrev pub given_in_batches : Batch → List Batch → Options → Scripts → Given
given_in_batches first later options texts = record { first = first; later = later; options = options; texts = texts }

-- the world of some batches on a platform and with a demangler, if there is a batch
abbrev pub world_of_batches : PlatformRules → (Bytes → Bytes) → Options → Scripts → List Batch → Option World
world_of_batches platform demangle options texts [] = None
world_of_batches platform demangle options texts (b ∷ bs) = Some (world_of platform demangle (given_in_batches b bs options texts))

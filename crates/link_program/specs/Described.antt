-- What a manifest describes, and the line that tells an error.
use Rattle.std.specs.Prelude.{List, ◌∷◌, ◌++◌, map, codes}
use Rattle.std.specs.List.{flat_map}
use Rattle.link_core.specs.Given.{given_in_batches}
use Rattle.link_rules.specs.Places.{Bytes}
use Rattle.link_input.specs.InputFiles.{batch_of}
use Rattle.link_input.specs.ObjectFile.{ObjectFile}
use Rattle.link_rules.specs.World.{Given, World, world_of}
use Rattle.link_rules.specs.Rules.{PlatformRules, elf_like, mach_like}
use Rattle.link_manifest.specs.declared.manifest.Manifest.{Manifest as Described}
use Rattle.link_manifest.specs.declared.manifest.PlatformWorld.{PlatformWorld}
use Rattle.link_manifest.specs.declared.manifest.PlatformWorld.TheVariants.{Elf, Mach}

-- the line that tells an error
abbrev pub error_line : Bytes → Bytes
error_line what = codes "error: " ++ what ++ codes "\n"

-- what is given, whatever the platform: batches, with options and texts
abbrev pub given_in : PlatformWorld → Given
given_in (Elf world) = given_in_batches (batch_of world.inputs) (map batch_of world.later) world.options world.scripts
given_in (Mach world) = given_in_batches (batch_of world.inputs) (map batch_of world.later) world.options world.scripts

-- what a manifest gives
abbrev pub given_of : Described → Given
given_of m = given_in m.world

-- the objects that are given, batch after batch
abbrev pub objects_given : Given → List ObjectFile
objects_given given = flat_map (λ b. b.objects) (given.first ∷ given.later)

-- the rules of the platform
abbrev pub platform_in : PlatformWorld → PlatformRules
platform_in (Elf world) = elf_like
platform_in (Mach world) = mach_like

-- what is given for a platform, as a world; each name is shown as it is
abbrev pub world_in : PlatformWorld → World
world_in described = world_of (platform_in described) (λ name. name) (given_in described)

-- what a manifest describes, as a world
abbrev pub world_of_manifest : Described → World
world_of_manifest m = world_in m.world

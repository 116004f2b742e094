-- What a link on a platform is given, as the rules of a link see it.
use Rattle.std.specs.Prelude.{map}
use Rattle.link_input.specs.declared.platform.Platform.{Ghosts}
use Rattle.link_input.specs.declared.world.World.{World}
use Rattle.link_input.specs.InputFiles.{batch_of}
use Rattle.link_rules.specs.Rules.{PlatformRules}
use Rattle.link_rules.specs.World.{Given}

-- the rules of a platform, by its trait
abbrev pub platform_of : {P : Type 0} → Ghosts P → PlatformRules
platform_of p = record {
  weak_overrides_common = p.WEAK_SYMBOLS_OVERRIDE_COMMON;
  is_non_interposable = p.is_non_interposable;
  read_export_list = p.read_export_list;
}

-- the batches, the options and the texts
abbrev pub given_of : {P : Type 0} → World P → Given
given_of world = record { first = batch_of world.inputs; later = map batch_of world.later; options = world.options; texts = world.scripts }

-- What references stand for and ask for at the first stage of a link, by their ids.
use Rattle.std.specs.Prelude.{ℕ, ◌≡◌, List, Bool, Option, None, if◌then◌else◌}
use Rattle.link_rules.specs.Loading.{request_of}
use Rattle.link_rules.specs.Places.{each_from}
use Rattle.link_rules.specs.Targets.{kept_target}
use Rattle.link_rules.specs.World.{Stage, is_reference, nothing_earlier}
use Rattle.link_check_names.specs.Named.{Named}

-- a stage with these symbols, wrapped names and rule on weak symbols, before which no batch came
pub record IsFirstStage (weak_overrides_common : Bool) (n : Named) (w : Stage) : Type 0 where
  pub symbols : w.symbols ≡ n.symbols
  pub wrap : w.options.wrap ≡ n.wrap
  pub weak : w.rules.weak_overrides_common ≡ weak_overrides_common
  pub first : w.earlier ≡ nothing_earlier

-- what each reference stands for
abbrev pub stage_targets : Stage → List (Option ℕ)
stage_targets w = each_from (λ s u. if is_reference u then kept_target w s u else None) 0 w.symbols

-- the object that each symbol asks for
abbrev pub stage_requests : Stage → List (Option ℕ)
stage_requests w = each_from (request_of w) 0 w.symbols

use Rattle.std.proofs.Common.{ap, ◌∙◌}
use Rattle.std.specs.Prelude.{option_map}
use Rattle.link_rules.specs.Places.{Bytes}
use Rattle.link_db_texts.proofs.Answered.{keeps_place}
use Rattle.link_db_texts.proofs.opening.is_non_interposable.Goals as goal

pub returns : goal.returns
returns g c = λ w are same_output.
    c.non_interposable.ensures
    ∙ keeps_place _ _ _ w c.args.row.now c.args.output c.is_exported.result are same_output
    (c.is_exported.ensures w.rules are ∙ ap (λ (n : Bytes). option_map (λ is_exported. is_exported n) w.rules.is_exported) (c.as_slice.ensures ∙ c.name.ensures))

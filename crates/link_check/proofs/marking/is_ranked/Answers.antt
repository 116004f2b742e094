use Rattle.std.proofs.Common.{◌∙◌, Option, ℕ, ap, sym}
use Rattle.std.specs.Prelude.{is_some}
use Rattle.link_check_loaded.proofs.Rising.{claimed-ranked}
use Rattle.link_check.proofs.marking.is_ranked.Goals as goal

pub returns : goal.returns
returns c = λ loaded told. c.contains_key.ensures ∙ (ap (λ (o : Option ℕ). is_some o) (told c.args.place) ∙ sym (claimed-ranked loaded c.args.place))

use Rattle.std.proofs.Common.{sym, ap, ◌∙◌}
use Rattle.std.specs.Prelude.{is_some}
use Rattle.link_db_texts.proofs.Answered.{hidden_by_rust, is_some-map}
use Rattle.link_db_texts.proofs.opening.script_flags.Goals as goal

pub returns-then-is_some : goal.returns-then-is_some
returns-then-is_some g c = λ w are.
    hidden_by_rust w c.args.row.now (sym c.is_settled.ensures ∙ c.if-is_settled.false)
    (sym (ap is_some (c.rust_names.ensures _ w.rules are)) ∙ is_some-map _ c.rust_names.result ∙ sym c.is_some.ensures ∙ c.if-is_some.true)

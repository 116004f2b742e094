use Rattle.std.proofs.Common.{subst, sym}
use Rattle.link_core_answer.specs.Parts.{Parts, answer_of}
use Rattle.link_core.proofs.Passing.{refused-through}
use Rattle.link_rules.specs.Answer.{IsLinked}
use Rattle.link_core.proofs.ending.end_link.Goals as goal

pub returns-in_err-undefined-clause-refused : goal.returns-in_err-undefined-clause-refused
returns-in_err-undefined-clause-refused g c = refused-through c.from_residual.result _ c.in_err-undefined.field-0.0 c.from_residual.ensures.1 c.in_err-undefined.ensures.refused

-- the answer is that of the parts
pub returns-clause-linked : goal.returns-clause-linked
returns-clause-linked g c =
    λ w l settled. subst (λ (x : Parts g.row.P.Denot). IsLinked w (answer_of x)) (sym c.new.ensures) (c.in_ok-undefined.ensures.linked w l c.args.roots.items settled)

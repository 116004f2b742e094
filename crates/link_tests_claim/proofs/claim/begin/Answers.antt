use Rattle.std.proofs.Common.{sym, refl, ◌∙◌, subst}
use Rattle.link_closure.specs.declared.workload.Workload.{Workload}
use Rattle.link_closure.specs.Workload.{HasItem}
use Rattle.link_claim.specs.Examples.{only_item}
use Rattle.link_tests_claim.proofs.claim.begin.Goals as goal

pub begin-requires-clause-may : goal.begin-requires-clause-may
begin-requires-clause-may c = (only_item, subst (λ (w : Workload). HasItem w 0 only_item) (sym (c.check.ensures.later.same ∙ c.requires.work)) refl, c.if-check.ensures.known)

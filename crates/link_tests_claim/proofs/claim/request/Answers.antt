use Rattle.std.proofs.Common.{inl, sym, subst}
use Rattle.link_closure.specs.declared.workload.Workload.{Workload}
use Rattle.link_closure.specs.Workload.{IsRoot}
use Rattle.link_claim.specs.Examples.{is_root_of_eight}
use Rattle.link_tests_claim.proofs.claim.request.Goals as goal

pub request_counted-requires-clause-asked : goal.request_counted-requires-clause-asked
request_counted-requires-clause-asked c = inl (subst (λ (w : Workload). IsRoot w c.args.file) (sym c.requires.work) (is_root_of_eight c.args.file c.requires.file))

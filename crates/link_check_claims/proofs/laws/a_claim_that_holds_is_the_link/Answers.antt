use Rattle.link_rules.specs.World.{first_stage}
use Rattle.link_check_claims.proofs.Holding.{marks-loaded}
use Rattle.link_check_claims.proofs.Linked.{same-kept, same-table}
use Rattle.link_check_claims.proofs.laws.a_claim_that_holds_is_the_link.Goals as goal

pub returns-clause-loaded : goal.returns-clause-loaded
returns-clause-loaded c = λ world claim marks holds least. marks-loaded (first_stage world) claim.loaded holds.loaded marks least

pub returns-clause-kept : goal.returns-clause-kept
returns-clause-kept c = λ world claim linked none holds is. same-kept world claim linked none holds is

pub returns-clause-table : goal.returns-clause-table
returns-clause-table c = λ world claim linked none holds is. same-table world claim linked none holds is

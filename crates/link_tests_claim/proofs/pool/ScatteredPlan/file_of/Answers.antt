use Rattle.std.proofs.Common.{ap}
use Rattle.link_closure.specs.declared.workload.Item.{Item}
use Rattle.link_claim_pool.specs.Examples.{item_is}
use Rattle.link_tests_claim.proofs.pool.ScatteredPlan.file_of.Goals as goal

pub returns : goal.returns
returns c it has = ap (λ (t : Item). t.file) (item_is c.args.self.now.chain c.args.self.now.files c.args.self.now.roots c.args.item it has).1

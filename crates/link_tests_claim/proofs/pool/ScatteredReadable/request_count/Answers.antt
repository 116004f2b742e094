use Rattle.std.proofs.Common.{length, ap}
use Rattle.link_closure.specs.declared.workload.Item.{Item}
use Rattle.link_claim_pool.specs.Examples.{item_is}
use Rattle.link_tests_claim.proofs.pool.ScatteredReadable.request_count.Goals as goal

pub returns : goal.returns
returns c it has = ap (λ (t : Item). length t.requests) (item_is c.args.self.now.chain c.args.self.now.files c.args.self.now.roots c.args._item it has).1

use Rattle.std.proofs.Common.{sym}
use Rattle.std.proofs.lemmas.List.FromFn.{length-map-range_with_len}
use Rattle.link_claim_pool.specs.Examples.{item_of}
use Rattle.link_tests_claim.proofs.pool.ScatteredPlan.items.Goals as goal

pub returns : goal.returns
returns c = sym (length-map-range_with_len (item_of c.args.self.now.chain c.args.self.now.files) 0 c.args.self.now.files)

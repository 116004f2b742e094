use Rattle.std.proofs.Common.{◌<◌, arith}
use Rattle.std.proofs.lemmas.Bool.Decides.{nat_tests}
use Rattle.link_claim_pool.specs.Examples.{root_below, below_root}
use Rattle.link_tests_claim.proofs.pool.ScatteredPlan.is_root.Goals as goal

pub returns : goal.returns
returns c = (
  λ on. let lt : c.args.file < c.args.self.now.roots = grind (arith, nat_tests) in below_root c.args.self.now.roots c.args.file lt,
  λ has. let lt = root_below c.args.self.now.roots c.args.file has in grind (arith, nat_tests),
)

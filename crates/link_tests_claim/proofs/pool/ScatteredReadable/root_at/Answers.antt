use Rattle.std.proofs.Common.{◌≡◌, ◌+◌, ◌<◌, ◌≤◌, Some, ap, ◌∙◌, arith}
use Rattle.std.proofs.lemmas.Bool.Decides.{nat_tests}
use Rattle.link_claim_pool.specs.Examples.{get_range, past_range}
use Rattle.link_tests_claim.proofs.pool.ScatteredReadable.root_at.Goals as goal

pub returns-then-index-self : goal.returns-then-index-self
returns-then-index-self c =
    let on = c.if-index-self.true in
    let lt : c.args.index < c.args.self.now.roots = grind (arith, nat_tests) in
    let same : c.args.index ≡ 0 + c.args.index = omega arith in
    ap Some same ∙ get_range 0 c.args.self.now.roots c.args.index lt

pub returns-else-index-self : goal.returns-else-index-self
returns-else-index-self c =
    let off = c.if-index-self.false in
    let past : c.args.self.now.roots ≤ c.args.index = grind (arith, nat_tests) in
    past_range 0 c.args.self.now.roots c.args.index past

use Rattle.std.proofs.Common.{arith}
use Rattle.std.proofs.lemmas.Grind.{common_steps}
use Rattle.link_input.proofs.checks.add_all.Goals as goal

pub loop-member-preserved : goal.loop-member-preserved
loop-member-preserved c = λ q. grind (arith, common_steps, c.loop-member.invariant q)

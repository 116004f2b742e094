use Rattle.std.proofs.Common.{arith, refl}
use Rattle.link_script_syntax.specs.Skip.{skip}
use Rattle.link_script_syntax.proofs.skip.skip_run.Goals as goal

pub bytes-init : goal.bytes-init
unfolding skip
bytes-init c = (refl, omega arith, omega arith)

use Rattle.std.proofs.Common.{arith}
use Rattle.link_script_syntax.proofs.LineByLine.{begin_lines}
use Rattle.link_script_syntax.proofs.macho_list.macho_list.Goals as goal

pub lines-init : goal.lines-init
lines-init c = record { reads = rw c.new-matchers.ensures (begin_lines c.args.text.now); shorter = omega arith }

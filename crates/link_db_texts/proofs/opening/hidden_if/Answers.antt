use Rattle.std.proofs.Common.{sym}
use lib.Bits.{or_zero_r}
use Rattle.link_db_texts.proofs.opening.hidden_if.Goals as goal

pub returns-else-hidden : goal.returns-else-hidden
returns-else-hidden c = rw c.if-hidden.false (sym (or_zero_r c.args.flags.0))

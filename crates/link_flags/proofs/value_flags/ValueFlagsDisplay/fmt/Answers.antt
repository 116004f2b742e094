use Rattle.link_flags.specs.FlagText.{flags_text}
use Rattle.link_flags.proofs.value_flags.ValueFlagsDisplay.fmt.Goals as goal

pub returns-clause-writes : goal.returns-clause-writes
unfolding flags_text
returns-clause-writes g c = λ plain ok. rw (c.flags.ensures tt) at (c.write_flags.ensures plain ok)

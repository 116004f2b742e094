use Rattle.std.proofs.Common.{refl}
use Rattle.link_flags.specs.FlagTable.{flag_table}
use Rattle.link_flags.proofs.value_flags.ValueFlagsFlags.flags.Goals as goal

pub returns : goal.returns
unfolding flag_table
returns c = λ _. refl

use Rattle.std.proofs.Common.{take_all, rules}
use Rattle.std.proofs.hash.Loops.{byte_more}
use Rattle.link_names.specs.NameHash.{fnv_1a_on}
use Rattle.link_names.proofs.fnv.extend_hash.Goals as goal

pub loop-byte-preserved : goal.loop-byte-preserved
loop-byte-preserved c = search (rules, byte_more)

pub returns : goal.returns
unfolding fnv_1a_on
returns c = search (rules, take_all)

use Rattle.std.proofs.Common.{take}
use Rattle.link_script.specs.VersionIndex.{IsIndexOf}
use Rattle.link_script.proofs.version_index.VersionIndex.of.Given as goal

abbrev pub invariant-loop-number : goal.invariant-loop-number
invariant-loop-number l = IsIndexOf (take l.number l.versions) l.index

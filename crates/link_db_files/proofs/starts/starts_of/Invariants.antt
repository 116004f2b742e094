use Rattle.std.proofs.Common.{◌≡◌, ◌++◌, drop}
use Rattle.link_db_files.specs.Starts.{starts_of}
use Rattle.link_db_files.proofs.starts.starts_of.Given as goal

abbrev pub invariant-loop-group : goal.invariant-loop-group
invariant-loop-group g l = l.starts.items ++ starts_of (drop l.group-index l.groups) ≡ starts_of l.groups

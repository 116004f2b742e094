use Rattle.std.proofs.Common.{◌≡◌, ◌++◌, drop}
use Rattle.link_db_files.specs.Outlines.{outlines_of}
use Rattle.link_db_files.proofs.outlines.outlines_of.Given as goal

abbrev pub invariant-loop-group : goal.invariant-loop-group
invariant-loop-group g l = l.outlines.items ++ outlines_of (drop l.group-index l.groups) ≡ outlines_of l.groups

use Rattle.std.proofs.Common.{◌≡◌, drop}
use Rattle.link_glob.specs.Glob.{is_in_ranges}
use Rattle.link_glob.proofs.matching.is_in_ranges.Given as goal

abbrev pub invariant-loop-range : goal.invariant-loop-range
invariant-loop-range l = is_in_ranges (drop l.range-index l.ranges) l.c ≡ is_in_ranges l.ranges l.c

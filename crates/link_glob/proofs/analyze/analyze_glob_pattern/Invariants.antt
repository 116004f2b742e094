use Rattle.std.proofs.Common.{◌≡◌, drop}
use Rattle.link_glob.specs.Analyze.{pattern_type}
use Rattle.link_glob.proofs.PatternKind.{type_from}
use Rattle.link_glob.proofs.analyze.analyze_glob_pattern.Given as goal

abbrev pub invariant-loop-byte : goal.invariant-loop-byte
invariant-loop-byte l = type_from l.escaped l.found (drop l.byte-index l.pattern) ≡ pattern_type l.pattern

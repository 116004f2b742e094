use Rattle.std.proofs.Common.{◌≡◌, ◌++◌, length}
use Rattle.link_glob.specs.Analyze.{unescaped}
use Rattle.link_glob.proofs.analyze.unescape_pattern.Given as goal

abbrev pub invariant-escapes : goal.invariant-escapes
invariant-escapes l = l.plain.items ++ unescaped l.rest ≡ unescaped l.fn.pattern

abbrev pub decreases-escapes : goal.decreases-escapes
decreases-escapes l = length l.rest

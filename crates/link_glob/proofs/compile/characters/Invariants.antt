use Rattle.std.proofs.Common.{◌≡◌, ◌++◌, length}
use denote.Text.{Utf8}
use denote.Shadow.{shadow}
use Rattle.std.specs.Str.{chars}
use Rattle.link_glob.specs.Grammar.{with_marks}
use Rattle.link_glob.specs.Reading.{marked}
use Rattle.link_glob.proofs.compile.characters.Given as goal

abbrev pub invariant-chars : goal.invariant-chars
invariant-chars l = shadow (Utf8 l.rest) × (l.out.items ++ marked l.opened (chars l.rest) ≡ with_marks (chars l.text))

abbrev pub decreases-chars : goal.decreases-chars
decreases-chars l = length (chars l.rest)

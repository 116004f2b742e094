use Rattle.std.proofs.Common.{◌≡◌, ◌≤◌, length}
use Rattle.link_glob.specs.Reading.{star_at}
use Rattle.link_glob.proofs.compile.star_at.Given as goal

abbrev pub invariant-stars : goal.invariant-stars
invariant-stars l = (star_at l.dialect l.rest ≡ star_at l.dialect l.text) × (length l.rest ≤ length l.text)

abbrev pub decreases-stars : goal.decreases-stars
decreases-stars l = length l.rest

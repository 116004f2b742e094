use Rattle.std.proofs.Common.{[], ◌≡◌, ◌<◌, ◌≤◌, length}
use Rattle.link_script_syntax.specs.Named.{version_turn}
use Rattle.link_script_syntax.specs.Many.{grow}
use Rattle.link_script_syntax.proofs.named.versions_at.Given as goal

abbrev pub invariant-versions : goal.invariant-versions
invariant-versions l = (grow (version_turn l.profile) l.versions l.rest ≡ grow (version_turn l.profile) [] l.text) × (length l.versions < 32767) × (length l.rest ≤ length l.text)

abbrev pub decreases-versions : goal.decreases-versions
decreases-versions l = length l.rest

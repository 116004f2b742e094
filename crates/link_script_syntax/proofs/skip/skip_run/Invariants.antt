use Rattle.std.proofs.Common.{◌≡◌, ◌≤◌, length}
use Rattle.link_script_syntax.specs.Skip.{skip, skip_from}
use Rattle.link_script_syntax.proofs.skip.skip_run.Given as goal

abbrev pub invariant-bytes : goal.invariant-bytes
invariant-bytes l = (skip_from l.mode l.opened l.rest ≡ skip l.text) × (length l.rest ≤ length l.text) × (l.opened ≤ length l.text)

abbrev pub decreases-bytes : goal.decreases-bytes
decreases-bytes l = length l.rest

use Rattle.std.proofs.Common.{◌≡◌, ◌+◌, ◌≤◌, drop}
use Rattle.link_script.specs.Regular.{parents}
use Rattle.link_script.proofs.regular.RegularVersionScript.parent_count.Given as goal

abbrev pub invariant-loop-version : goal.invariant-loop-version
invariant-loop-version l = (l.count + parents (drop l.version-index l.version-items) ≡ parents l.version-items) × (l.count ≤ l.version-index)

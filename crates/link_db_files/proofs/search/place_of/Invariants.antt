use Rattle.std.proofs.Common.{◌≡◌, ◌<◌, ◌≤◌, ◌-◌, length, get_or}
use Rattle.std.specs.Prelude.{slice_get, Some}
use Rattle.link_db_files.specs.declared.starts.FileStart.{FileStart}
use Rattle.link_db_files.proofs.search.place_of.Given as goal

abbrev pub invariant-loop-high : goal.invariant-loop-high
invariant-loop-high l = (l.low < l.high) × ((l.high ≤ length l.starts) × (((d : FileStart) → (get_or l.starts l.low d).start ≤ l.id) × ((y : FileStart) → slice_get l.starts l.high ≡ Some y → l.id < y.start)))

abbrev pub decreases-loop-high : goal.decreases-loop-high
decreases-loop-high l = l.high - l.low

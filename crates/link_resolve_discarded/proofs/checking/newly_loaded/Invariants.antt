use Rattle.std.proofs.Common.{◌≡◌, ◌++◌, drop, length}
use Rattle.link_rules.specs.Places.{each_from}
use Rattle.link_resolve_discarded.specs.Checked.{is_new}
use Rattle.link_resolve_discarded.proofs.checking.newly_loaded.Given as goal

-- the marks so far, and those that are left
abbrev pub invariant-loop-mark : goal.invariant-loop-mark
invariant-loop-mark l =
    l.marks.items ++ each_from (is_new l.earlier) (length l.marks.items) (drop l.mark-index l.loaded) ≡ each_from (is_new l.earlier) 0 l.loaded

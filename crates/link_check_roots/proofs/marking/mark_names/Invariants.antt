use Rattle.std.proofs.Common.{◌≡◌, drop}
use Rattle.std.specs.Prelude.{fold}
use Rattle.link_check_roots.specs.Marks.{marked_by}
use Rattle.link_check_roots.proofs.marking.mark_names.Given as goal

abbrev pub invariant-loop-name : goal.invariant-loop-name
invariant-loop-name l = fold (marked_by l.names) l.marks (drop l.name-index l.roots) ≡ fold (marked_by l.names) l.initial.marks l.roots

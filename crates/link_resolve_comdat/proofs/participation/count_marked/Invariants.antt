use Rattle.std.proofs.Common.{◌≡◌, ◌≤◌, take}
use Rattle.std.specs.Prelude.{count_by}
use Rattle.link_closure.specs.Closure.{is_marked}
use Rattle.link_resolve_comdat.proofs.participation.count_marked.Given as goal

abbrev pub invariant-loop-section : goal.invariant-loop-section
invariant-loop-section l = record {
  counted : l.count ≡ count_by (is_marked l.marks) (take l.section-index l.sections);
  below : l.count ≤ l.section-index;
}

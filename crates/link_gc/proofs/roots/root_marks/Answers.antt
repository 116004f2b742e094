use Rattle.std.proofs.Common.{◌↔◌, ℕ, Bool, List, ap, arith, length, subst, sym}
use Rattle.std.proofs.lemmas.List.{with_items_is}
use Rattle.link_closure.specs.Graph.{IsMarked}
use Rattle.link_rules.specs.Undefined.{resolved}
use Rattle.link_gc_sections.specs.LiveSections.{IsRootNumber}
use Rattle.link_gc.proofs.roots.root_marks.Goals as goal

-- the marks are those of the roots
pub returns-clause-roots : goal.returns-clause-roots
returns-clause-roots g c = λ l of are objects placed count.
    let new = c.mark_roots.new.marks in
    let lent = c.deref_mut.ensures.value in
    let same = with_items_is c.in_ok-marks.marks new (omega (arith, c.mark_roots.auto.marks, c.deref_mut.ensures.len, ap (λ (xs : List Bool). length xs) lent)) in
    subst (λ (ms : List Bool). (n : ℕ) → IsMarked ms n ↔ IsRootNumber (resolved l) n) (sym same) (c.mark_roots.ensures l of are objects placed count)

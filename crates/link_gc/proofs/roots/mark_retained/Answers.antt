use Rattle.std.proofs.Common.{◌≤◌, ℕ, List, arith, length, subst}
use Rattle.std.proofs.lemmas.List.{take_all}
use Rattle.link_input.specs.ObjectFile.{ObjectFile}
use Rattle.link_gc.proofs.MarkedItems.{AreMarked, marked-next}
use Rattle.link_gc.proofs.Rooted.{IsRetainedOf, all-retained}
use Rattle.link_gc.proofs.roots.mark_retained.Goals as goal

-- one object more
pub loop-object-preserved : goal.loop-object-preserved
loop-object-preserved g c = λ s are.
    let o = c.object-item.result in
    marked-next (IsRetainedOf s) c.args.marks.now c.loop-object.marks c.mark_retained_of.new.marks c.args.objects.now c.loop-object.object-index o o c.loop-object-test.true c.object-item.is
    c.loop-object.auto.marks (c.loop-object.invariant s are) (c.mark_retained_of.ensures s are)

-- the marks are those of all objects
pub returns : goal.returns
returns g c = λ s are.
    let objects = c.args.objects.now in
    let past : length objects ≤ c.loop-object.object-index = omega arith in
    let Marked : List (ℕ × ObjectFile) → Type 0 = λ os. AreMarked (IsRetainedOf s) c.args.marks.now os c.loop-object.marks in
    all-retained s objects c.args.marks.now c.loop-object.marks (subst Marked (take_all c.loop-object.object-index objects past) (c.loop-object.invariant s are))

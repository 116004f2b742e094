use Rattle.std.proofs.Common.{◌∙◌, ◌≤◌, ℕ, Contains, List, arith, length, subst, sym}
use Rattle.std.proofs.lemmas.List.{take_all}
use Rattle.std.proofs.lemmas.List.Elements.{Contains-get_or}
use Rattle.link_gc.proofs.MarkedItems.{AreMarked, marked-next}
use Rattle.link_gc.proofs.Rooted.{HasHome}
use Rattle.link_gc.proofs.roots.mark_homes_of_roots.Goals as goal

-- one root more
pub loop-id-preserved : goal.loop-id-preserved
loop-id-preserved g c = λ s of placed.
    let ids = c.roots-id-items.result.now in
    let i = c.loop-id.id-index in
    let id = c.id-item.result in
    let read : Contains ids id = subst (λ (x : ℕ). Contains ids x) (sym c.id-item.is) (Contains-get_or ids i id c.loop-id-test.true) in
    let within = subst (λ (xs : List ℕ). Contains xs id) c.roots-id-items.ensures read in
    marked-next (HasHome s) c.args.marks.now c.loop-id.marks c.mark_home_of_root.new.marks ids i id id c.loop-id-test.true c.id-item.is c.loop-id.auto.marks (c.loop-id.invariant s of placed)
    (c.mark_home_of_root.ensures s of placed within)

-- the marks are those of all roots
pub returns : goal.returns
returns g c = λ s of placed.
    let ids = c.roots-id-items.result.now in
    let past : length ids ≤ c.loop-id.id-index = omega arith in
    let Marked : List ℕ → Type 0 = λ xs. AreMarked (HasHome s) c.args.marks.now xs c.loop-id.marks in
    subst Marked (take_all c.loop-id.id-index ids past ∙ c.roots-id-items.ensures) (c.loop-id.invariant s of placed)

use Rattle.std.proofs.Common.{◌≡◌, ◌∙◌, ◌≤◌, ℕ, List, ap, arith, get_or, length, refl, subst}
use Rattle.std.proofs.lemmas.List.{take_all}
use Rattle.link_input.specs.declared.object.ObjectTable.{ObjectTable}
use Rattle.link_input.specs.ObjectFile.{ObjectFile}
use Rattle.link_gc.specs.Numbering.{node_number}
use Rattle.link_gc.proofs.MarkedItems.{AreMarked, marked-by, marked-next}
use Rattle.link_gc.proofs.Rooted.{HasNumber}
use Rattle.link_gc.proofs.roots.mark_retained_of.Goals as goal

-- one section more
pub loop-section-preserved : goal.loop-section-preserved
loop-section-preserved g c = λ s are.
    let sections = c.retained_sections-section-items.result.now in
    let i = c.loop-section.section-index in
    let section = get_or sections i 0 in
    let f = c.args.object.now.0 in
    let old = c.args.marks.now in
    let mid = c.loop-section.marks in
    let new = c.mark.new.marks in
    let at : c.object.inside.place ≡ f = ap (λ (x : ℕ × ObjectFile). x.0) c.object.view_is in
    let gives : c.number.result ≡ node_number s (f, section) = c.number.ensures.number s are ∙ ap (λ place. node_number s (place, section)) at in
    marked-next (HasNumber s f) old mid new sections i section 0 c.loop-section-test.true refl c.loop-section.auto.marks (c.loop-section.invariant s are)
    (marked-by mid new c.number.result (node_number s (f, section)) gives c.mark.ensures.marked)

-- the marks are those of the sections
pub returns : goal.returns
returns g c = λ s are.
    let sections = c.retained_sections-section-items.result.now in
    let o = c.args.object.now in
    let are_its : sections ≡ o.1.object.retained_sections =
    c.retained_sections-section-items.ensures.sections ∙ ap (λ (t : ObjectTable). t.retained_sections) (c.object-2.ensures ∙ ap (λ (x : ℕ × ObjectFile). x.1.object) c.object.view_is) in
    let past : length sections ≤ c.loop-section.section-index = omega arith in
    let Marked : List ℕ → Type 0 = λ xs. AreMarked (HasNumber s o.0) c.args.marks.now xs c.loop-section.marks in
    subst Marked (take_all c.loop-section.section-index sections past ∙ are_its) (c.loop-section.invariant s are)

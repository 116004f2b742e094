use Rattle.std.proofs.Common.{◌≡◌, ◌∙◌, ◌≤◌, ℕ, List, ap, arith, get_or, length, refl, subst}
use Rattle.std.proofs.lemmas.List.{take_all}
use Rattle.link_input.specs.declared.object.ObjectTable.{ObjectTable}
use Rattle.link_input.specs.declared.object.SectionReference.{SectionReference}
use Rattle.link_input.specs.ObjectFile.{ObjectFile}
use Rattle.link_gc.proofs.Gathered.{AreGathered, IsReferenceOf, gathered-next, reference-edges, reference-more}
use Rattle.link_gc.proofs.edges.push_references.Goals as goal

-- one reference more
pub loop-reference-preserved : goal.loop-reference-preserved
loop-reference-preserved g c =
    let references = c.section_references-reference-items.result.now in
    let i = c.loop-reference.reference-index in
    let none : SectionReference = record { from = 0; to = 0 } in
    let f = c.args.object.now.0 in
    let at : c.object.inside.place ≡ f = ap (λ (x : ℕ × ObjectFile). x.0) c.object.view_is in
    let mid = c.loop-reference.edges.items in
    let new = c.push_edge.new.edges.items in
    record {
      edges = λ s of are placed starts.
          gathered-next (IsReferenceOf s f) c.args.edges.now.items mid new references i (get_or references i none) none c.loop-reference-test.true refl
          (c.loop-reference.invariant.edges s of are placed starts)
          (reference-more s c.object.inside.place f c.args.first c.from_usize-to.result (get_or references i none) c.number-from.result c.home_number.result mid new at starts c.from_usize-to.ensures
          (c.number-from.ensures.number s are) (c.home_number.ensures.home s of placed) c.in_ok-push_edge.ensures.edges);
      in_range = λ below start.
          c.in_ok-push_edge.ensures.in_range c.args.numbers.now.count c.number-from.ensures.within (c.home_number.ensures.within c.args.numbers.now.count below) (c.loop-reference.invariant.in_range below start);
    }

-- the edges are those of the references
pub returns-clause-edges : goal.returns-clause-edges
returns-clause-edges g c = λ s of are placed starts.
    let references = c.section_references-reference-items.result.now in
    let o = c.args.object.now in
    let are_its : references ≡ o.1.object.section_references =
    c.section_references-reference-items.ensures.references ∙ ap (λ (t : ObjectTable). t.section_references) (c.object-2.ensures ∙ ap (λ (x : ℕ × ObjectFile). x.1.object) c.object.view_is) in
    let past : length references ≤ c.loop-reference.reference-index = omega arith in
    let Gathered : List SectionReference → Type 0 = λ xs. AreGathered (IsReferenceOf s o.0) c.args.edges.now.items xs c.loop-reference.edges.items in
    reference-edges s o.0 o.1 c.args.edges.now.items c.loop-reference.edges.items
    (subst Gathered (take_all c.loop-reference.reference-index references past ∙ are_its) (c.loop-reference.invariant.edges s of are placed starts))

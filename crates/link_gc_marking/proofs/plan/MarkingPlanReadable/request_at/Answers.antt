use Rattle.std.proofs.Common.{◌≡◌, ◌∙◌, ℕ, List, None, Some, ap, map, subst, sym}
use Rattle.std.specs.Prelude.{slice_get, slice_range}
use Rattle.std.proofs.lemmas.Bool.{ltb-true}
use Rattle.link_closure.specs.declared.Edge.{Edge}
use Rattle.link_gc_marking.proofs.Work.{request-here, request-past, requests-are}
use Rattle.link_gc_marking.proofs.plan.MarkingPlanReadable.request_at.Goals as goal

-- past the last edge of the node
pub returns-in_err-edge : goal.returns-in_err-edge
returns-in_err-edge c it has =
    let read = c.args.read.now in
    let index = c.args.index in
    let asked = requests-are c.args.self.now.roots.now c.args.self.now.edges.items c.args._item it read has c.requires in
    let past = request-past (slice_range c.as_slice.result.now read.start read.end) index c.in_err-edge.ensures.lookup.3 in
    c.from_residual.ensures
    ∙ (subst (λ (es : List Edge). None ≡ slice_get (map (λ (e : Edge). e.to) (slice_range es read.start read.end)) index) c.as_slice.ensures.value past
    ∙ ap (λ (rs : List ℕ). slice_get rs index) asked)

-- at one of them
pub returns : goal.returns
returns c it has =
    let read = c.args.read.now in
    let index = c.args.index in
    let edge = c.in_ok-edge.edge.now in
    let asked = requests-are c.args.self.now.roots.now c.args.self.now.edges.items c.args._item it read has c.requires in
    let here = request-here (slice_range c.as_slice.result.now read.start read.end) index edge (ltb-true index _ (sym c.in_ok-edge.ensures.lookup.0)) c.in_ok-edge.ensures.lookup.1 in
    subst (λ (es : List Edge). Some edge.to ≡ slice_get (map (λ (e : Edge). e.to) (slice_range es read.start read.end)) index) c.as_slice.ensures.value here
    ∙ ap (λ (rs : List ℕ). slice_get rs index) asked

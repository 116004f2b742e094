-- The work of the marking: what it names is there, and its least closed set is that of the graph.
use Rattle.std.proofs.Common.{◌≡◌, ◌∙◌, ◌+◌, ◌-◌, ◌<◌, ◌≤◌, ℕ, zero, suc, Bool, false, List, None, Some, filter, map, length, get_or, drop, eqb, refl, sym, ap, subst, arith, ⊎_elim}
use Rattle.std.specs.Prelude.{◌↔◌, Contains, option_map, slice_get, slice_range}
use Rattle.std.specs.List.{range_with_len}
use Rattle.std.specs.List.Sorted.{IsPermutation}
use Rattle.std.proofs.lemmas.Bool.{cases_lt, eq-eqb, eqb-true}
use Rattle.std.proofs.lemmas.List.{get_or_past, length-drop, length-map, length-take}
use Rattle.std.proofs.lemmas.Option.{slice_get-get_or, slice_get-map, slice_get_past}
use Rattle.std.proofs.lemmas.List.Elements.{All-contains}
use Rattle.std.proofs.lemmas.List.Sorted.{All-permutation, Contains-permutation, IsPermutation-sym}
use Rattle.link_closure.specs.Closure.{IsLeastClosed, is_marked}
use Rattle.link_closure.specs.Graph.{AreInRange, IsEdge, IsMarked}
use Rattle.link_closure.specs.Workload.{HasEdge, HasItem, IsRoot, IsSound}
use Rattle.link_closure.specs.declared.Edge.{Edge}
use Rattle.link_closure.specs.declared.workload.Item.{Item}
use Rattle.link_closure.specs.declared.workload.Workload.{Workload}
use Rattle.link_closure.proofs.Joins.{contains_none}
use Rattle.link_closure.proofs.Least.{least_of_same}
use Rattle.link_claim.specs.Workload.{FitsU32}
use Rattle.link_gc_marking.specs.declared.outgoing.OutgoingEdges.{OutgoingEdges}
use Rattle.link_gc_marking.specs.Outgoing.{AreOutgoing}
use Rattle.link_gc_marking.specs.Marking.{item_of, marking, targets_from}
use Rattle.link_gc_marking.proofs.Members.{below-range, given-from, given-in, kept-from, kept-in, range-below}

-- ---- items

module _ {X : Type 0} where
  -- what stands at an index of made items
  get_made : (f : ℕ → X) (a n i : ℕ) (x : X) → slice_get (map f (range_with_len a n)) i ≡ Some x → (i < n) × (f (a + i) ≡ x)
  get_made f a zero i x e = absurd (cc)
  get_made f a (suc n) zero x e = let same : a ≡ a + 0 = omega arith in (omega arith, subst (λ k. f k ≡ x) same (cc))
  get_made f a (suc n) (suc i) x e =
      let r = get_made f (a + 1) n i x e in
      let lt = r.0 in
      let same : a + 1 + i ≡ a + suc i = omega arith in
      (omega arith, subst (λ k. f k ≡ x) same r.1)

  -- and each number below the count makes one
  made_get : (f : ℕ → X) (a n i : ℕ) → i < n → slice_get (map f (range_with_len a n)) i ≡ Some (f (a + i))
  made_get f a zero i lt = absurd (omega arith)
  made_get f a (suc n) zero lt = let same : a ≡ a + 0 = omega arith in ap (λ k. Some (f k)) same
  made_get f a (suc n) (suc i) lt = let same : a + 1 + i ≡ a + suc i = omega arith in made_get f (a + 1) n i (omega arith) ∙ ap (λ k. Some (f k)) same

-- the item of each number
pub item-is : (roots : List Bool) (edges : List Edge) (i : ℕ) (it : Item) → HasItem (marking roots edges) i it → (i < length roots) × (item_of edges i ≡ it)
item-is roots edges i it has =
    let at = get_made (item_of edges) 0 (length roots) i it has in
    let same : 0 + i ≡ i = omega arith in
    (at.0, subst (λ k. item_of edges k ≡ it) same at.1)

-- each node has its item
item-at : (roots : List Bool) (edges : List Edge) (i : ℕ) → i < length roots → HasItem (marking roots edges) i (item_of edges i)
item-at roots edges i lt =
    let same : 0 + i ≡ i = omega arith in
    made_get (item_of edges) 0 (length roots) i lt ∙ ap (λ k. Some (item_of edges k)) same

-- what an item requests stands at the places that are read in it
pub requests-are : (roots : List Bool) (edges : List Edge) (i : ℕ) (it : Item) (read : OutgoingEdges) → HasItem (marking roots edges) i it → AreOutgoing edges i read
    → map (λ (e : Edge). e.to) (slice_range edges read.start read.end) ≡ it.requests
requests-are roots edges i it read has outgoing = outgoing.targets ∙ ap (λ (t : Item). t.requests) (item-is roots edges i it has).1

-- and there are as many as places
pub outgoing-count : (edges : List Edge) (i : ℕ) (read : OutgoingEdges) → AreOutgoing edges i read
    → read.end - read.start ≡ length (map (λ (e : Edge). e.to) (slice_range edges read.start read.end))
outgoing-count edges i read outgoing =
    let rising = outgoing.rising in
    let within = outgoing.within in
    let mapped = length-map (slice_range edges read.start read.end) (λ (e : Edge). e.to) in
    let taken = length-take (read.end - read.start) (drop read.start edges) in
    let dropped = length-drop read.start edges in
    omega arith

-- past the last place nothing is requested
pub request-past : (part : List Edge) (index : ℕ) → length part ≤ index → None ≡ slice_get (map (λ (e : Edge). e.to) part) index
request-past part index past = sym (slice_get-map (λ (e : Edge). e.to) part index ∙ ap (option_map (λ (e : Edge). e.to)) (slice_get_past part index past))

-- at a place that to which its edge leads is
pub request-here : (part : List Edge) (index : ℕ) (edge : Edge) → index < length part → edge ≡ get_or part index edge → Some edge.to ≡ slice_get (map (λ (e : Edge). e.to) part) index
request-here part index edge lt is =
    sym (slice_get-map (λ (e : Edge). e.to) part index ∙ ap (option_map (λ (e : Edge). e.to)) (slice_get-get_or part index edge lt ∙ ap (λ (e : Edge). Some e) (sym is)))

-- ---- edges and roots

-- an edge leads to each of the targets
edge-from : (edges : List Edge) (f g : ℕ) → Contains (targets_from edges f) g → IsEdge edges f g
edge-from edges f g has =
    let of = given-from (λ (e : Edge). e.to) (filter (λ (e : Edge). eqb e.from f) edges) g has in
    let kept = kept-from (λ (e : Edge). eqb e.from f) edges of.0 of.1 in
    let from : of.0.from ≡ f = eqb-true of.0.from f kept.1 in
    subst (λ (n : ℕ). Contains edges (record { from = n; to = g })) from
    (subst (λ (n : ℕ). Contains edges (record { from = of.0.from; to = n })) of.2 kept.0)

-- and that to which an edge leads is one of them
edge-in : (edges : List Edge) (f g : ℕ) → IsEdge edges f g → Contains (targets_from edges f) g
edge-in edges f g has =
    given-in (λ (e : Edge). e.to) (filter (λ (e : Edge). eqb e.from f) edges) (record { from = f; to = g })
    (kept-in (λ (e : Edge). eqb e.from f) edges (record { from = f; to = g }) has (eq-eqb f f refl))

-- a mark is that of one of the nodes
mark-below : (marks : List Bool) (f : ℕ) → IsMarked marks f → f < length marks
mark-below marks f marked = ⊎_elim (λ (lt : f < length marks). lt) (λ (past : length marks ≤ f). absurd (none past)) (cases_lt f (length marks))
  where
    none : length marks ≤ f → ⊥
    none past = let off = get_or_past marks f false past in cc

-- the roots are those that have a mark
pub roots-same : (roots : List Bool) (edges : List Edge) (f : ℕ) → IsRoot (marking roots edges) f ↔ IsMarked roots f
roots-same roots edges f = (
  λ has. (kept-from (is_marked roots) (range_with_len 0 (length roots)) f has).1,
  λ marked. kept-in (is_marked roots) (range_with_len 0 (length roots)) f (below-range (length roots) f (mark-below roots f marked)) marked,
)

module _ (roots : List Bool) (given edges : List Edge) (same : IsPermutation given edges) (in_range : AreInRange (length roots) given) where
  -- the edges are those that were given
  edges-same : (f g : ℕ) → HasEdge (marking roots edges) f g ↔ IsEdge given f g
  edges-same f g = (
    λ has.
        let at = item-is roots edges has.0 has.1 has.2 in
        let own : has.0 ≡ f = ap (λ (it : Item). it.file) at.1 ∙ has.3 in
        let listed : Contains (targets_from edges has.0) g = subst (λ (it : Item). Contains it.requests g) (sym at.1) has.4 in
        Contains-permutation edges given (record { from = f; to = g }) (IsPermutation-sym given edges same)
        (edge-from edges f g (subst (λ (n : ℕ). Contains (targets_from edges n) g) own listed)),
    λ edge.
        let ends = All-contains (λ (e : Edge). (e.from < length roots) × (e.to < length roots)) given (record { from = f; to = g }) in_range edge in
        (f, item_of edges f, item-at roots edges f ends.0, refl, edge-in edges f g (Contains-permutation given edges (record { from = f; to = g }) same edge)),
  )

  -- so the least closed set of the work is that of the graph
  pub least-of-graph : (marks : List Bool) → IsLeastClosed (IsRoot (marking roots edges)) (HasEdge (marking roots edges)) (length roots) marks
      → IsLeastClosed (IsMarked roots) (IsEdge given) (length roots) marks
  least-of-graph marks least =
      least_of_same (IsRoot (marking roots edges)) (IsMarked roots) (HasEdge (marking roots edges)) (IsEdge given) (length roots) marks (roots-same roots edges) edges-same least

  -- all that the work names is there
  pub work-sound : IsSound (marking roots edges)
  work-sound = record {
    roots = λ f has. range-below (length roots) f (kept-from (is_marked roots) (range_with_len 0 (length roots)) f has).0;
    items = λ i it has. let at = item-is roots edges i it has in subst (λ (t : Item). t.file < length roots) at.1 at.0;
    requests = λ i f has.
        let at = item-is roots edges i has.0 has.1 in
        let edge = edge-from edges i f (subst (λ (t : Item). Contains t.requests f) (sym at.1) has.2) in
        let range = All-permutation (λ (e : Edge). (e.from < length roots) × (e.to < length roots)) given edges same in_range in
        (All-contains (λ (e : Edge). (e.from < length roots) × (e.to < length roots)) edges (record { from = i; to = f }) range edge).1;
    root_marks = λ m has. contains_none m has;
    marks = λ i m has. let at = item-is roots edges i has.0 has.1 in contains_none m (subst (λ (t : Item). Contains t.marks m) (sym at.1) has.2);
  }

-- and fits into words: there are no flags
pub work-fits : (roots : List Bool) (edges : List Edge) → FitsU32 (marking roots edges)
work-fits roots edges = record {
  symbols = omega arith;
  opening = λ x lt. absurd (omega arith);
  root_marks = λ m has. contains_none m has;
  marks = λ i m has. let at = item-is roots edges i has.0 has.1 in contains_none m (subst (λ (t : Item). Contains t.marks m) (sym at.1) has.2);
}

-- where a plan has these roots, and the edges in another order, what is left of its work is the least closed set of the graph
pub live-are : (roots held : List Bool) (given edges : List Edge) (w : Workload) (marks : List Bool) → held ≡ roots → IsPermutation given edges
    → AreInRange (length roots) given → w ≡ marking held edges → IsLeastClosed (IsRoot w) (HasEdge w) w.files marks
    → IsLeastClosed (IsMarked roots) (IsEdge given) (length roots) marks
live-are roots held given edges w marks own same in_range work least =
    least-of-graph roots given edges same in_range marks
    (subst (λ (k : Workload). IsLeastClosed (IsRoot k) (HasEdge k) k.files marks) (work ∙ ap (λ (rs : List Bool). marking rs edges) own) least)

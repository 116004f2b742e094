-- The edges that leave a node stand side by side, among edges in the order of the nodes that they leave.
use Rattle.std.proofs.Common.{◌≡◌, ◌∙◌, ◌-◌, ◌<◌, ◌≤◌, ℕ, zero, suc, Bool, true, false, List, [], ◌∷◌, cond, filter, length, map, get_or, take, drop, refl, sym, ap, arith, eqb, ⊎_elim}
use Rattle.std.specs.Prelude.{nat_le, nat_lt}
use Rattle.std.specs.List.Sorted.{IsPartitionPoint}
use Rattle.std.proofs.lemmas.Bool.{cases_lt, eq-eqb, leb-false, leb-true, ltb-false, ltb-true, ne_eqb}
use Rattle.link_closure.specs.declared.Edge.{Edge}
use Rattle.link_gc_marking.specs.Outgoing.{AreOutgoing}

module _ {X : Type 0} (p : X → Bool) where
  -- where none passes, none is kept
  none-kept : (xs : List X) → ((k : ℕ) (d : X) → k < length xs → p (get_or xs k d) ≡ false) → filter p xs ≡ []
  none-kept [] fails = refl
  none-kept (x ∷ xs) fails =
      ap (λ b. cond b (x ∷ filter p xs) (filter p xs)) (fails 0 x (omega arith))
      ∙ none-kept xs (λ k d lt. fails (suc k) d (omega arith))

  -- where just the first ones pass, they are kept
  front-kept : (xs : List X) (end : ℕ) → ((k : ℕ) (d : X) → k < end → p (get_or xs k d) ≡ true)
      → ((k : ℕ) (d : X) → end ≤ k → k < length xs → p (get_or xs k d) ≡ false) → filter p xs ≡ take end xs
  front-kept [] zero pass behind = refl
  front-kept [] (suc end) pass behind = refl
  front-kept (x ∷ xs) zero pass behind = none-kept (x ∷ xs) (λ k d lt. behind k d (omega arith) lt)
  front-kept (x ∷ xs) (suc end) pass behind =
      ap (λ b. cond b (x ∷ filter p xs) (filter p xs)) (pass 0 x (omega arith))
      ∙ ap (λ l. x ∷ l) (front-kept xs end (λ k d lt. pass (suc k) d (omega arith)) (λ k d from lt. behind (suc k) d (omega arith) (omega arith)))

  nothing-taken : (n : ℕ) → ◌≡◌ {A = List X} [] (take n [])
  nothing-taken zero = refl
  nothing-taken (suc n) = refl

  -- where just those at these places pass, they are kept
  run-kept : (xs : List X) (start end : ℕ) → start ≤ end → ((k : ℕ) (d : X) → k < start → p (get_or xs k d) ≡ false)
      → ((k : ℕ) (d : X) → start ≤ k → k < end → p (get_or xs k d) ≡ true)
      → ((k : ℕ) (d : X) → end ≤ k → k < length xs → p (get_or xs k d) ≡ false) → filter p xs ≡ take (end - start) (drop start xs)
  run-kept xs zero end rising before pass behind =
      let all : end ≡ end - 0 = omega arith in
      front-kept xs end (λ k d lt. pass k d (omega arith) lt) behind ∙ ap (λ n. take n xs) all
  run-kept [] (suc start) end rising before pass behind = nothing-taken (end - suc start)
  run-kept (x ∷ xs) (suc start) zero rising before pass behind = absurd (omega arith)
  run-kept (x ∷ xs) (suc start) (suc end) rising before pass behind =
      let as_many : end - start ≡ suc end - suc start = omega arith in
      ap (λ b. cond b (x ∷ filter p xs) (filter p xs)) (before 0 x (omega arith))
      ∙ (run-kept xs start end (omega arith) (λ k d lt. before (suc k) d (omega arith)) (λ k d from lt. pass (suc k) d (omega arith) (omega arith))
      (λ k d from lt. behind (suc k) d (omega arith) (omega arith))
      ∙ ap (λ n. take n (drop start xs)) as_many)

-- what two searches find
pub outgoing-found : (edges : List Edge) (node start end : ℕ) → start ≤ length edges → end ≤ length edges
    → IsPartitionPoint (λ (e : Edge). nat_lt e.from node ≡ true) (λ e. nat_lt e.from node ≡ false) edges start
    → IsPartitionPoint (λ (e : Edge). nat_le e.from node ≡ true) (λ e. nat_le e.from node ≡ false) edges end
    → AreOutgoing edges node (record { start = start; end = end })
outgoing-found edges node start end bound within lower upper = record {
  rising = rising;
  within = within;
  targets = sym (ap (map (λ (e : Edge). e.to)) kept);
}
  where
    some_edge : Edge
    some_edge = record { from = 0; to = 0 }

    -- the first one after those that leave nodes up to this one leaves no node before it
    crossed : end < start → ⊥
    crossed lt =
        let low = ltb-true (get_or edges end some_edge).from node (lower.0 end some_edge (omega arith) lt) in
        let high = leb-false (get_or edges end some_edge).from node (upper.1 end some_edge (omega arith) (omega (arith, lt, bound))) in
        omega arith

    rising : start ≤ end
    rising = ⊎_elim (λ (lt : end < start). absurd (crossed lt)) (λ (up : start ≤ end). up) (cases_lt end start)

    kept : filter (λ (e : Edge). eqb e.from node) edges ≡ take (end - start) (drop start edges)
    kept = run-kept (λ (e : Edge). eqb e.from node) edges start end rising
        (λ k d lt. let low = ltb-true (get_or edges k d).from node (lower.0 k d (omega arith) lt) in ne_eqb (get_or edges k d).from node (λ is. absurd (omega arith)))
        (λ k d from lt.
        let low = ltb-false (get_or edges k d).from node (lower.1 k d from (omega arith)) in
        let high = leb-true (get_or edges k d).from node (upper.0 k d (omega arith) lt) in
        eq-eqb (get_or edges k d).from node (omega arith))
        (λ k d from lt. let high = leb-false (get_or edges k d).from node (upper.1 k d from lt) in ne_eqb (get_or edges k d).from node (λ is. absurd (omega arith)))

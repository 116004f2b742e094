-- All symbols of a list point to one.
use Rattle.std.proofs.Common.{◌≡◌, ◌∙◌, ◌+◌, ◌<◌, ◌∷◌, ℕ, Bool, true, false, List, refl, sym, ap, inl, inr, subst, length, get_or, drop, if◌then◌else◌, slice_index, slice_set}
use Rattle.std.specs.Prelude.{◌==◌, ◌||◌}
use Rattle.std.proofs.lemmas.List.{at_drop_more, get_or-set_other, get_or-set_same}
use Rattle.std.proofs.lemmas.Bool.Decides.{eqb_tells}
use Rattle.link_rules.specs.Places.{contains}

-- after a write: what was written, or what was there
pub written : (xs : List ℕ) (e v s : ℕ) → e < length xs → slice_index (slice_set xs e v) s ≡ (if e == s then v else slice_index xs s)
written xs e v s lt = elim (eqb_tells e s) [
  | inl told ↦ rw told.0 (subst (λ k. slice_index (slice_set xs e v) k ≡ v) told.1 (get_or-set_same xs e v 0 lt))
  | inr told ↦ rw told.0 (get_or-set_other xs e s v 0 (λ same. told.1 (sym same)))
]

-- what is pointed before and behind
both-pointed : (a b : Bool) (v old : ℕ) → (if b then v else (if a then v else old)) ≡ (if a || b then v else old)
both-pointed true true v old = refl
both-pointed true false v old = refl
both-pointed false true v old = refl
both-pointed false false v old = refl

-- the head is pointed, and then the others
pub head-pointed : (xs : List ℕ) (later : List ℕ) (head v s : ℕ) → head < length xs
    → (if contains s later then v else slice_index (slice_set xs head v) s) ≡ (if contains s (head ∷ later) then v else slice_index xs s)
head-pointed xs later head v s lt =
    ap (λ old. if contains s later then v else old) (written xs head v s lt) ∙ both-pointed (head == s) (contains s later) v (slice_index xs s)

-- one of the others is pointed, and then the rest
pub next-pointed : (xs : List ℕ) (later : List ℕ) (i v s : ℕ) → i < length later → get_or later i 0 < length xs
    → (if contains s (drop (i + 1) later) then v else slice_index (slice_set xs (get_or later i 0) v) s) ≡ (if contains s (drop i later) then v else slice_index xs s)
next-pointed xs later i v s lt inside =
    head-pointed xs (drop (i + 1) later) (get_or later i 0) v s inside
    ∙ sym (at_drop_more (λ ys. if contains s ys then v else slice_index xs s) later i 0 lt)

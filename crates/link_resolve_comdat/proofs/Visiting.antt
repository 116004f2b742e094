-- A group that is visited is not pending, and others stay as they are.
use Rattle.std.proofs.Common.{◌≡◌, ◌≢◌, ◌+◌, ◌&&◌, ℕ, zero, suc, Bool, true, false, if◌then◌else◌, List, [], ◌∷◌, set, Option, Some, sym, ap, ◌∙◌, arith}
use Rattle.std.specs.List.{zip}
use Rattle.std.proofs.lemmas.Option.{same_Some}
use Rattle.link_input.specs.declared.object.SectionGroup.{SectionGroup}
use Rattle.link_input.specs.Checks.{first_place}
use Rattle.link_rules.specs.Places.{contains}
use Rattle.link_resolve_comdat.specs.ObjectGroups.{ObjectGroups, pending_group, after_visit}
use Rattle.link_resolve_comdat.proofs.FirstPlace.{first_place-from}

-- the first pending group from a place on that has the section as a member
abbrev pending_from : ℕ → ℕ → List (SectionGroup × Bool) → Option ℕ
pending_from section n groups = first_place (λ j g. g.1 && contains section g.0.members) n groups

-- the visited one is found no more
not-found : (section n k : ℕ) (groups : List SectionGroup) (pending : List Bool) → pending_from section n (zip groups (set pending k false)) ≡ Some (n + k) → ⊥
not-found section n k [] pending e = cc
not-found section n k (g ∷ gs) [] e = cc
not-found section n zero (g ∷ gs) (p ∷ ps) e = let later = first_place-from (λ j x. x.1 && contains section x.0.members) (n + 1) (zip gs ps) (n + 0) e in omega arith
not-found section n (suc k) (g ∷ gs) (p ∷ ps) e = by (p && contains section g.members) e (not-found section (n + 1) k gs ps)
  where
    by : (b : Bool) → (if b then Some n else pending_from section (n + 1) (zip gs (set ps k false))) ≡ Some (n + suc k)
        → (pending_from section (n + 1) (zip gs (set ps k false)) ≡ Some (n + 1 + k) → ⊥) → ⊥
    by true e rest = let same = same_Some n (n + suc k) e in omega arith
    by false e rest = let place : n + suc k ≡ n + 1 + k = omega arith in rest (e ∙ ap (λ (m : ℕ). Some m) place)

-- another one is found as before
still-found : (section n k j : ℕ) (groups : List SectionGroup) (pending : List Bool) → j ≢ k → pending_from section n (zip groups pending) ≡ Some (n + j) → pending_from section n (zip groups (set pending k false)) ≡ Some (n + j)
still-found section n k j [] pending other e = e
still-found section n k j (g ∷ gs) [] other e = e
still-found section n zero j (g ∷ gs) (p ∷ ps) other e = by (p && contains section g.members) e
  where
    by : (b : Bool) → (if b then Some n else pending_from section (n + 1) (zip gs ps)) ≡ Some (n + j) → pending_from section (n + 1) (zip gs ps) ≡ Some (n + j)
    by true e = absurd (other (let same = same_Some n (n + j) e in omega arith))
    by false e = e
still-found section n (suc k) zero (g ∷ gs) (p ∷ ps) other e = by (p && contains section g.members) e
  where
    by : (b : Bool) → (if b then Some n else pending_from section (n + 1) (zip gs ps)) ≡ Some (n + 0) → (if b then Some n else pending_from section (n + 1) (zip gs (set ps k false))) ≡ Some (n + 0)
    by true e = e
    by false e = absurd (let later = first_place-from (λ j x. x.1 && contains section x.0.members) (n + 1) (zip gs ps) (n + 0) e in omega arith)
still-found section n (suc k) (suc j) (g ∷ gs) (p ∷ ps) other e = by (p && contains section g.members) e (still-found section (n + 1) k j gs ps (λ same. other (ap suc same)))
  where
    place : n + suc j ≡ n + 1 + j
    place = omega arith

    by : (b : Bool) → (if b then Some n else pending_from section (n + 1) (zip gs ps)) ≡ Some (n + suc j)
        → (pending_from section (n + 1) (zip gs ps) ≡ Some (n + 1 + j) → pending_from section (n + 1) (zip gs (set ps k false)) ≡ Some (n + 1 + j))
        → (if b then Some n else pending_from section (n + 1) (zip gs (set ps k false))) ≡ Some (n + suc j)
    by true e rest = e
    by false e rest = rest (e ∙ ap (λ (m : ℕ). Some m) place) ∙ ap (λ (m : ℕ). Some m) (sym place)

-- once a group is visited it is not pending
pub visited-once : (o : ObjectGroups) (section again k : ℕ) → pending_group o section ≡ Some k → pending_group (after_visit o section) again ≢ Some k
visited-once o section again k is found = not-found again 0 k o.groups o.pending (rw is at found ∙ (let place : k ≡ 0 + k = omega arith in ap (λ (m : ℕ). Some m) place))

-- the other groups are pending as before
pub others-stay : (o : ObjectGroups) (section again k j : ℕ) → pending_group o section ≡ Some k → pending_group o again ≡ Some j → j ≢ k → pending_group (after_visit o section) again ≡ Some j
others-stay o section again k j is there other =
    let place : j ≡ 0 + j = omega arith in
    rw is (still-found again 0 k j o.groups o.pending other (there ∙ ap (λ (m : ℕ). Some m) place) ∙ ap (λ (m : ℕ). Some m) (sym place))

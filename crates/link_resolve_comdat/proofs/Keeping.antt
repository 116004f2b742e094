-- A list of truth values, one for each group, that is written in place.
use Rattle.std.proofs.Common.{◌≡◌, ◌<◌, ◌+◌, ℕ, Bool, List, [], ◌∷◌, ◌++◌, map, replicate, length, get_or, set, take, drop, refl, ap, arith}
use Rattle.std.specs.List.{zip}
use Rattle.std.proofs.lemmas.List.{take_more_set, drop-set-lt, drop_more, append_assoc}
use Rattle.link_input.specs.declared.object.SectionGroup.{SectionGroup}

-- a turn over groups: what is written, and what is still to come
pub kept-step : (f : SectionGroup × Bool → Bool) (groups : List SectionGroup) (pending : List Bool) (i : ℕ) (g : SectionGroup) (p b : Bool) → i < length groups → i < length pending
    → g ≡ get_or groups i g → p ≡ get_or pending i p → b ≡ f (g, p)
    → take (i + 1) (set pending i b) ++ map f (zip (drop (i + 1) groups) (drop (i + 1) (set pending i b))) ≡ take i pending ++ map f (zip (drop i groups) (drop i pending))
kept-step f groups pending i g p b lt lt_pending is is_pending gives =
    let behind : drop (i + 1) (set pending i b) ≡ drop (i + 1) pending = drop-set-lt (i + 1) pending i b (omega arith) in
    let here : map f (zip (drop i groups) (drop i pending)) ≡ b ∷ map f (zip (drop (i + 1) groups) (drop (i + 1) pending)) =
    rw (drop_more groups i g lt, drop_more pending i p lt_pending, ← is, ← is_pending, ← gives) refl in
    rw (take_more_set pending i b lt_pending, behind, here) (append_assoc (take i pending) (b ∷ []) (map f (zip (drop (i + 1) groups) (drop (i + 1) pending))))

-- a truth value for each of some items
pub replicate-map : {A : Type 0} (b : Bool) (xs : List A) → replicate (length xs) b ≡ map (λ x. b) xs
replicate-map b [] = refl
replicate-map b (x ∷ xs) = ap (λ (bs : List Bool). b ∷ bs) (replicate-map b xs)

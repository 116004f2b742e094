-- The least place where a test holds.
use Rattle.std.proofs.Common.{◌≡◌, ◌+◌, ◌<◌, ◌∙◌, ap, ℕ, Bool, List, length, get_or, drop, sym, Some, if◌then◌else◌}
use Rattle.std.proofs.lemmas.List.{at_drop_more}
use Rattle.link_input.specs.Checks.{first_place}

-- what is left of a search at an item: its place, or what is left behind it
pub first_place-drop : {A : Type 0} (p : ℕ → A → Bool) (xs : List A) (i : ℕ) (x : A) → i < length xs → x ≡ get_or xs i x → first_place p i (drop i xs) ≡ (if p i x then Some i else first_place p (i + 1) (drop (i + 1) xs))
first_place-drop p xs i x lt read =
    at_drop_more (first_place p i) xs i x lt ∙ ap (λ y. if p i y then Some i else first_place p (i + 1) (drop (i + 1) xs)) (sym read)

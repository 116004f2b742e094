-- Marks behind a place.
use Rattle.std.proofs.Common.{◌≡◌, ◌+◌, ◌-◌, ◌∙◌, ◌<◌, ◌≤◌, ◌⊎◌, ℕ, Bool, false, List, inl, inr, ap, arith, drop, length, length-drop, sym}
use Rattle.std.specs.Prelude.{slice_range}
use Rattle.std.proofs.lemmas.List.{get_or-drop, get_or_past, take_all}
use Rattle.link_closure.specs.Closure.{is_marked}

-- of the marks from a place on, one is that so far behind it
pub marked-behind : (marks own : List Bool) (start section : ℕ) → own ≡ slice_range marks start (length marks) → is_marked own section ≡ is_marked marks (start + section)
marked-behind marks own start section are =
    let whole : length (drop start marks) ≤ length marks - start = omega (arith, length-drop start marks) in
    ap (λ (ms : List Bool). is_marked ms section) (are ∙ take_all (length marks - start) (drop start marks) whole) ∙ get_or-drop start marks section false

-- where there are fewer none is set there
pub unmarked-past : (marks : List Bool) (start section : ℕ) → (length marks < start) ⊎ (length marks < length marks) → false ≡ is_marked marks (start + section)
unmarked-past marks start section (inl past) = sym (get_or_past marks (start + section) false (omega (arith, past)))
unmarked-past marks start section (inr none) = absurd (omega (arith, none))

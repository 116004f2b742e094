-- Objects that are told by a mark for each.
use Rattle.std.proofs.Common.{◌≡◌, ◌+◌, ◌∙◌, ℕ, zero, suc, Bool, true, false, cond, List, [], ◌∷◌, drop, filter, refl, sym, ap}
use Rattle.std.specs.List.{enumerate_from, list_any}
use Rattle.std.proofs.lemmas.Option.{get_or_from_slice_get}
use Rattle.link_closure.specs.Closure.{is_marked}
use Rattle.link_input.specs.ObjectFile.{ObjectFile}
use Rattle.link_rules.specs.Places.{each_from}
use Rattle.link_db_symbols.proofs.Outlined.{left-at}
use Rattle.link_resolve_discarded.specs.Checked.{grouped_among, is_grouped}

-- the objects that are marked are those that pass the test that the marks were made by
marked-from : (test : ℕ → ObjectFile → Bool) (marks : List Bool) (n : ℕ) (objects : List ObjectFile) → drop n marks ≡ each_from test n objects
    → filter (λ o. is_marked marks o.0) (enumerate_from n objects) ≡ filter (λ o. test o.0 o.1) (enumerate_from n objects)
marked-from test marks n [] made = refl
marked-from test marks n (o ∷ os) made =
    let here = left-at marks n (test n o) (each_from test (n + 1) os) made in
    let mark : is_marked marks n ≡ test n o = get_or_from_slice_get marks n (test n o) false here.0 in
    let placed : List (ℕ × ObjectFile) = filter (λ x. is_marked marks x.0) (enumerate_from (n + 1) os) in
    ap (λ (b : Bool). cond b ((n, o) ∷ placed) placed) mark
    ∙ ap (λ (l : List (ℕ × ObjectFile)). cond (test n o) ((n, o) ∷ l) l) (marked-from test marks (n + 1) os here.1)

-- so the marked ones are the loaded regular objects with groups
pub marked-grouped : (marks loaded : List Bool) (objects : List ObjectFile) → marks ≡ each_from (is_grouped loaded) 0 objects
    → filter (λ o. is_marked marks o.0) (enumerate_from 0 objects) ≡ grouped_among loaded objects
marked-grouped marks loaded objects made = marked-from (is_grouped loaded) marks 0 objects made

-- where no mark is set, none is at any place
unmarked-at : (marks : List Bool) (f : ℕ) → list_any (λ mark. mark) marks ≡ false → is_marked marks f ≡ false
unmarked-at [] f none = refl
unmarked-at (true ∷ ms) f none = absurd cc
unmarked-at (false ∷ ms) zero none = refl
unmarked-at (false ∷ ms) (suc f) none = unmarked-at ms f none

-- so no object is marked
unmarked-from : (marks : List Bool) (n : ℕ) (objects : List ObjectFile) → list_any (λ mark. mark) marks ≡ false → filter (λ o. is_marked marks o.0) (enumerate_from n objects) ≡ []
unmarked-from marks n [] none = refl
unmarked-from marks n (o ∷ os) none =
    let placed : List (ℕ × ObjectFile) = filter (λ x. is_marked marks x.0) (enumerate_from (n + 1) os) in
    ap (λ (b : Bool). cond b ((n, o) ∷ placed) placed) (unmarked-at marks n none) ∙ unmarked-from marks (n + 1) os none

-- and no loaded regular object has groups
pub none-grouped : (marks loaded : List Bool) (objects : List ObjectFile) → marks ≡ each_from (is_grouped loaded) 0 objects → list_any (λ mark. mark) marks ≡ false
    → [] ≡ grouped_among loaded objects
none-grouped marks loaded objects made none = sym (unmarked-from marks 0 objects none) ∙ marked-grouped marks loaded objects made

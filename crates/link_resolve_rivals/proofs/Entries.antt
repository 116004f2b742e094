-- Entries of a list, from the first on.
use Rattle.std.proofs.Common.{◌≡◌, ◌++◌, ◌∙◌, ◌+◌, ◌<◌, ◌&&◌, ℕ, Bool, true, false, List, [], ◌∷◌, All, Option, Some, None, refl, sym, ap, subst, length, get_or, drop, map, find, option_map, if◌then◌else◌}
use Rattle.std.specs.Prelude.{◌==◌, IfSome, fold, not}
use Rattle.std.proofs.lemmas.Grind.{fold-append}
use Rattle.std.proofs.lemmas.List.{at_drop_more}
use Rattle.std.proofs.lemmas.List.Elements.{All-contains, All-get_or, All-map, All-push}
use Rattle.link_flags.specs.Pick.{Candidate, is_strong, pick}
use Rattle.link_flags.specs.Selector.{after, considered, nothing}
use Rattle.link_flags.specs.declared.strength.SymbolStrength.{SymbolStrength}
use Rattle.link_flags.specs.declared.selector.SymbolPrioritySelector.{SymbolPrioritySelector}
use Rattle.link_rules.proofs.Settled.{pick_in, some_same}
use Rattle.link_rules.specs.Places.{first_of, first_two}
use Rattle.link_rules.specs.Rivals.{static_candidates}
use Rattle.link_rules.specs.Selection.{Selection, is_dynamic, surviving_strength}
use Rattle.link_resolve_rivals.specs.Survivors.{strong_entries}
use Rattle.link_resolve_rivals.proofs.Heads.{same-number}

-- the pick of candidates below a number is below it
pub pick-inside : (n : ℕ) (weak : Bool) (cs : List Candidate) (r : Option ℕ) → All (λ c. c.0 < n) cs → r ≡ pick weak cs → IfSome r (λ id. id < n)
pick-inside n weak cs None all is = tt
pick-inside n weak cs (Some s) all is =
    All-contains (λ (id : ℕ). id < n) (map (λ c. c.0) cs) s (All-map (λ (id : ℕ). id < n) (λ (c : Candidate). c.0) cs all) (pick_in weak cs s (sym is))

-- what is known after the entries of a list: of the first, and then of the rest
candidates-head : (l : Selection) (known : SymbolPrioritySelector) (x : ℕ) (xs : List ℕ) (b : Bool) → is_dynamic l x ≡ b
    → fold after known (static_candidates l (x ∷ xs)) ≡ fold after (if b then known else after known (x, surviving_strength l x)) (static_candidates l xs)
candidates-head l known x xs true is = rw is refl
candidates-head l known x xs false is = rw is refl

-- one entry more is considered
pub candidates-step : (l : Selection) (known : SymbolPrioritySelector) (entries : List ℕ) (i x : ℕ) (b : Bool) → i < length entries → x ≡ get_or entries i x
    → b ≡ is_dynamic l x
    → fold after known (static_candidates l (drop i entries)) ≡ fold after (if b then known else after known (x, surviving_strength l x)) (static_candidates l (drop (i + 1) entries))
candidates-step l known entries i x b lt at is =
    at_drop_more (λ xs. fold after known (static_candidates l xs)) entries i x lt
    ∙ ap (λ e. fold after known (static_candidates l (e ∷ drop (i + 1) entries))) (sym at)
    ∙ candidates-head l known x (drop (i + 1) entries) b (sym is)

-- whether an entry is strong, and no shared file gives it
abbrev pub is_rival : Selection → ℕ → Bool
is_rival l x = not (is_dynamic l x) && is_strong (surviving_strength l x)

-- the first strong entry that passes a test: the first of these, or one of the rest
strong-head : (l : Selection) (p : ℕ → Bool) (x : ℕ) (xs : List ℕ) (d b q : Bool) → is_dynamic l x ≡ d → is_strong (surviving_strength l x) ≡ b → p x ≡ q
    → (not d && b && q) ≡ false → find p (strong_entries l (x ∷ xs)) ≡ find p (strong_entries l xs)
strong-head l p x xs true b q dynamic strong passes none = rw dynamic refl
strong-head l p x xs false false q dynamic strong passes none = rw (dynamic, strong) refl
strong-head l p x xs false true false dynamic strong passes none = rw (dynamic, strong, passes) refl
strong-head l p x xs false true true dynamic strong passes none = cc

-- an entry that is not strong, or does not pass, is passed over
pub strong-step : (l : Selection) (p : ℕ → Bool) (entries : List ℕ) (i x : ℕ) → i < length entries → x ≡ get_or entries i x
    → (is_rival l x && p x) ≡ false → find p (strong_entries l (drop i entries)) ≡ find p (strong_entries l (drop (i + 1) entries))
strong-step l p entries i x lt at none =
    at_drop_more (λ xs. find p (strong_entries l xs)) entries i x lt
    ∙ ap (λ e. find p (strong_entries l (e ∷ drop (i + 1) entries))) (sym at)
    ∙ strong-head l p x (drop (i + 1) entries) (is_dynamic l x) (is_strong (surviving_strength l x)) (p x) refl refl refl none

-- the first two that differ are the first and the first that is not the same
pub two-differ : (xs : List ℕ) (first second : ℕ) → Some first ≡ first_of xs → Some second ≡ find (λ s. not (s == first)) xs → Some (first, second) ≡ first_two xs
two-differ [] first second one other = cc
two-differ (x ∷ xs) first second one other =
    let same : first ≡ x = some_same first x one in
    let of_head : Some second ≡ find (λ s. not (s == x)) (x ∷ xs) = subst (λ f. Some second ≡ find (λ s. not (s == f)) (x ∷ xs)) same other in
    let of_rest : Some second ≡ find (λ s. not (s == x)) xs = rw (same-number x) at of_head in
    ap (λ f. Some (f, second)) same ∙ ap (option_map (λ y. (x, y))) of_rest

-- the candidates with one more
pub candidate-more : (n : ℕ) (cs : List Candidate) (known next : SymbolPrioritySelector) (x : ℕ) (strength : SymbolStrength) → known ≡ considered cs
    → All (λ c. c.0 < n) cs → x < n → next ≡ after known (x, strength)
    → (candidates : List Candidate) × (next ≡ considered candidates) × All (λ c. c.0 < n) candidates
candidate-more n cs known next x strength is all lt more = (
  cs ++ (x, strength) ∷ [],
  more ∙ ap (λ k. after k (x, strength)) is ∙ sym (fold-append after nothing cs ((x, strength) ∷ [])),
  All-push (λ (c : Candidate). c.0 < n) cs (x, strength) all lt,
)

-- an entry of a list whose entries are below a number is below it
pub entry-inside : (n : ℕ) (entries : List ℕ) (i x : ℕ) → All (λ e. e < n) entries → i < length entries → x ≡ get_or entries i x → x < n
entry-inside n entries i x all lt at = subst (λ e. e < n) (sym at) (All-get_or (λ (e : ℕ). e < n) entries i x lt all)

-- what doesn't hold at first doesn't hold at all
pub none-by-first : (a b : Bool) → a ≡ false → (a && b) ≡ false
none-by-first a b none = ap (λ x. x && b) none

-- what doesn't hold in the end doesn't hold at all
pub none-by-second : (a b : Bool) → b ≡ false → (a && b) ≡ false
none-by-second true b none = none
none-by-second false b none = refl

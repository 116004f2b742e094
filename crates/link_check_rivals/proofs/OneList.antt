-- Entries of a list, one after another.
use Rattle.std.proofs.Common.{◌≡◌, ◌∙◌, ◌&&◌, ◌+◌, ◌<◌, ℕ, Bool, true, false, cond, List, [], ◌∷◌, Option, None, Some, drop, fold, find, get_or, length, refl, sym, ap}
use Rattle.std.specs.Prelude.{◌==◌, not, option_map}
use Rattle.std.proofs.lemmas.Bool.{eq-eqb}
use Rattle.std.proofs.lemmas.List.{at_drop_more}
use Rattle.std.proofs.lemmas.Option.{same_Some}
use Rattle.link_flags.specs.Pick.{is_strong}
use Rattle.link_flags.specs.Selector.{after}
use Rattle.link_flags.specs.declared.selector.SymbolPrioritySelector.{SymbolPrioritySelector}
use Rattle.link_rules.specs.Places.{first_of, first_two}
use Rattle.link_rules.specs.Rivals.{static_candidates}
use Rattle.link_rules.specs.Selection.{Selection, is_dynamic, surviving_strength}
use Rattle.link_check_rivals.specs.Lists.{after_static, strong_entries}

-- one entry more is considered
candidate-head : (l : Selection) (known : SymbolPrioritySelector) (x : ℕ) (xs : List ℕ) (shared : Bool) → is_dynamic l x ≡ shared
    → fold after known (static_candidates l (x ∷ xs)) ≡ fold after (cond shared known (after known (x, surviving_strength l x))) (static_candidates l xs)
candidate-head l known x xs true is = rw is refl
candidate-head l known x xs false is = rw is refl

pub candidates-step : (l : Selection) (known : SymbolPrioritySelector) (entries : List ℕ) (i x : ℕ) → i < length entries → x ≡ get_or entries i x
    → fold after known (static_candidates l (drop i entries)) ≡ fold after (after_static l known x) (static_candidates l (drop (i + 1) entries))
candidates-step l known entries i x lt at =
    at_drop_more (λ xs. fold after known (static_candidates l xs)) entries i x lt
    ∙ (ap (λ e. fold after known (static_candidates l (e ∷ drop (i + 1) entries))) (sym at)
    ∙ candidate-head l known x (drop (i + 1) entries) (is_dynamic l x) refl)

-- the first strong entry, by whether the head is one
strong-head : (l : Selection) (x : ℕ) (xs : List ℕ) (shared strong : Bool) → is_dynamic l x ≡ shared → is_strong (surviving_strength l x) ≡ strong
    → strong_entries l (x ∷ xs) ≡ cond (not shared && strong) (x ∷ strong_entries l xs) (strong_entries l xs)
strong-head l x xs true strong shared is = rw shared refl
strong-head l x xs false true shared is = rw (shared, is) refl
strong-head l x xs false false shared is = rw (shared, is) refl

-- a strong entry, by a number
abbrev pub is_rival : Selection → ℕ → Bool
is_rival l x = not (is_dynamic l x) && is_strong (surviving_strength l x)

pub strong-step : (l : Selection) (entries : List ℕ) (i x : ℕ) → i < length entries → x ≡ get_or entries i x
    → strong_entries l (drop i entries) ≡ cond (is_rival l x) (x ∷ strong_entries l (drop (i + 1) entries)) (strong_entries l (drop (i + 1) entries))
strong-step l entries i x lt at =
    at_drop_more (strong_entries l) entries i x lt
    ∙ (ap (λ e. strong_entries l (e ∷ drop (i + 1) entries)) (sym at)
    ∙ strong-head l x (drop (i + 1) entries) (is_dynamic l x) (is_strong (surviving_strength l x)) refl refl)

-- the first of them
pub first-strong : (l : Selection) (entries : List ℕ) (i x : ℕ) (rival : Bool) → i < length entries → x ≡ get_or entries i x → is_rival l x ≡ rival
    → first_of (strong_entries l (drop i entries)) ≡ cond rival (Some x) (first_of (strong_entries l (drop (i + 1) entries)))
first-strong l entries i x rival lt at is = ap first_of (strong-step l entries i x lt at) ∙ by rival is
  where
    by : (b : Bool) → is_rival l x ≡ b → first_of (cond (is_rival l x) (x ∷ strong_entries l (drop (i + 1) entries)) (strong_entries l (drop (i + 1) entries)))
        ≡ cond b (Some x) (first_of (strong_entries l (drop (i + 1) entries)))
    by true e = ap (λ b. first_of (cond b (x ∷ strong_entries l (drop (i + 1) entries)) (strong_entries l (drop (i + 1) entries)))) e
    by false e = ap (λ b. first_of (cond b (x ∷ strong_entries l (drop (i + 1) entries)) (strong_entries l (drop (i + 1) entries)))) e

-- the first of them that passes a test
pub strong-found : (l : Selection) (test : ℕ → Bool) (entries : List ℕ) (i x : ℕ) (passes : Bool) → i < length entries → x ≡ get_or entries i x → (is_rival l x && test x) ≡ passes
    → find test (strong_entries l (drop i entries)) ≡ cond passes (Some x) (find test (strong_entries l (drop (i + 1) entries)))
strong-found l test entries i x passes lt at is =
    ap (find test) (strong-step l entries i x lt at) ∙ (by (is_rival l x) (test x) refl ∙ ap (λ b. cond b (Some x) (find test (strong_entries l (drop (i + 1) entries)))) is)
  where
    by : (rival b : Bool) → test x ≡ b → find test (cond rival (x ∷ strong_entries l (drop (i + 1) entries)) (strong_entries l (drop (i + 1) entries)))
        ≡ cond (rival && b) (Some x) (find test (strong_entries l (drop (i + 1) entries)))
    by true true e = rw e refl
    by true false e = rw e refl
    by false b e = refl

-- the head is no other number than itself
skip-head : (x : ℕ) (xs : List ℕ) → find (λ s. not (s == x)) (x ∷ xs) ≡ find (λ s. not (s == x)) xs
skip-head x xs = ap (λ b. cond (not b) (Some x) (find (λ s. not (s == x)) xs)) (eq-eqb x x refl)

-- what is found beside the first of a list
beside-head : (xs : List ℕ) (x first : ℕ) (found : Option ℕ) → first ≡ x → found ≡ find (λ s. not (s == first)) (x ∷ xs) → found ≡ find (λ s. not (s == x)) xs
beside-head xs x first found same is = is ∙ (ap (λ f. find (λ s. not (s == f)) (x ∷ xs)) same ∙ skip-head x xs)

-- the first two that differ
pub two-differ : (xs : List ℕ) (first second : ℕ) → Some first ≡ first_of xs → Some second ≡ find (λ s. not (s == first)) xs → Some (first, second) ≡ first_two xs
two-differ [] first second one other = absurd cc
two-differ (x ∷ xs) first second one other =
    let same : first ≡ x = same_Some first x one in
    ap (λ f. Some (f, second)) same ∙ ap (option_map (λ y. (x, y))) (beside-head xs x first (Some second) same other)

-- no two differ
pub none-differ : (xs : List ℕ) (first : ℕ) → Some first ≡ first_of xs → None ≡ find (λ s. not (s == first)) xs → None ≡ first_two xs
none-differ [] first one other = refl
none-differ (x ∷ xs) first one other =
    let same : first ≡ x = same_Some first x one in
    ap (option_map (λ y. (x, y))) (beside-head xs x first None same other)

-- there is no first
pub none-first : (xs : List ℕ) → None ≡ first_of xs → None ≡ first_two xs
none-first [] none = refl
none-first (x ∷ xs) none = absurd cc

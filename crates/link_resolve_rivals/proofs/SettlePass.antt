-- Lists of rivals are settled one after another.
use Rattle.std.proofs.Common.{◌≡◌, ◌∙◌, ◌+◌, ◌-◌, ◌<◌, ◌≤◌, ◌&&◌, ℕ, suc, Bool, true, false, List, [], ◌∷◌, ◌++◌, All, Contains, Option, Some, None, refl, sym, ap, subst, inl, inr, arith, map, if◌then◌else◌, slice_index, filter_map}
use Rattle.std.specs.Prelude.{◌==◌, option_map, option_to_list}
use Rattle.std.specs.List.{cons_option, range_with_len}
use Rattle.std.proofs.lemmas.List.{append-nil, append_assoc}
use Rattle.std.proofs.lemmas.Bool.Decides.{eqb_tells}
use Rattle.std.proofs.lemmas.List.Elements.{All-contains_itself, All-head, All-tail, All-weaker}
use Rattle.link_rules.specs.Places.{are_several, contains}
use Rattle.link_rules.specs.Rivals.{clash, settled_entry, stand_in}
use Rattle.link_rules.specs.Selection.{Selection, is_dynamic}
use Rattle.link_resolve_rivals.specs.Lists.{AreLists}
use Rattle.link_resolve_rivals.specs.Settled.{clash_at, clash_of, settled_at, settled_on}
use Rattle.link_resolve_rivals.proofs.Passes.{contained, done_below, done_on, done-all, done-more, list-shared, undone}

-- what entries stand for by tables that agree on them
pub stand-same : (l : Selection) (table old : List ℕ) (xs : List ℕ) → All (λ e. slice_index table e ≡ slice_index old e) xs → map (stand_in l table) xs ≡ map (stand_in l old) xs
stand-same l table old [] all = refl
stand-same l table old (x ∷ xs) all =
    let agree : slice_index table x ≡ slice_index old x = All-head (λ e. slice_index table e ≡ slice_index old e) x xs all in
    ap (λ t. (if is_dynamic l t then x else t) ∷ map (stand_in l table) xs) agree
    ∙ ap (λ ys. stand_in l old x ∷ ys) (stand-same l table old xs (All-tail (λ e. slice_index table e ≡ slice_index old e) x xs all))

-- what a symbol points to once the lists are settled that begin below a number
abbrev pub settled_below : Selection → (ℕ → List ℕ) → List ℕ → ℕ → ℕ → ℕ
settled_below l listed old i s = done_below listed (settled_at l listed old) (slice_index old) i s

module _ (l : Selection) (listed : ℕ → List ℕ) (n : ℕ) (are : AreLists listed n) (old : List ℕ) where
  module _ (i : ℕ) (table : List ℕ) (so_far : (s : ℕ) → slice_index table s ≡ settled_below l listed old i s) where
    -- what the entries of the list stand for that begins with the number
    entries-same : (xs : List ℕ) → listed i ≡ i ∷ xs → map (stand_in l table) (i ∷ xs) ≡ map (stand_in l old) (i ∷ xs)
    entries-same xs is = stand-same l table old (i ∷ xs)
        (All-weaker (Contains (i ∷ xs)) (λ e. slice_index table e ≡ slice_index old e)
        (λ e within. so_far e ∙ undone listed n are (settled_at l listed old) (slice_index old) i xs e (list-shared listed n are (settled_at l listed old) (slice_index old) i xs e is within))
        (i ∷ xs) (All-contains_itself (i ∷ xs)))

    -- the clash that is told is that of the table as it was
    pub clash-same : clash_at l (listed i) table i ≡ clash_at l (listed i) old i
    clash-same = by (listed i) refl
      where
        by : (own : List ℕ) → listed i ≡ own → clash_at l own table i ≡ clash_at l own old i
        by [] is = refl
        by (x ∷ xs) is = elim (eqb_tells x i) [
          | inl told ↦
              let headed : listed i ≡ i ∷ xs = is ∙ ap (λ h. h ∷ xs) told.1 in
              subst (λ h. clash_at l (h ∷ xs) table i ≡ clash_at l (h ∷ xs) old i) (sym told.1)
              (ap (λ entries. if i == i && are_several (i ∷ xs) then option_map (clash_of i) (clash l entries) else None) (entries-same xs headed))
          | inr told ↦ rw told.0 refl
        ]

    -- a list that is settled by the table is settled by the table as it was
    settled-same : (s : ℕ) → settled_on l (listed i) table i s ≡ done_on (settled_at l listed old) (listed i) i s (slice_index table s)
    settled-same s = by (listed i) refl
      where
        among : (xs : List ℕ) → listed i ≡ i ∷ xs → (b : Bool) → contains s (i ∷ xs) ≡ b
            → (if b then settled_entry l (i ∷ xs) (map (stand_in l table) (i ∷ xs)) (slice_index table s) else slice_index table s)
            ≡ (if b then settled_at l listed old s (slice_index table s) else slice_index table s)
        among xs is true within =
            let own : listed s ≡ i ∷ xs = list-shared listed n are (settled_at l listed old) (slice_index old) i xs s is (contained s (i ∷ xs) within) in
            ap (λ entries. settled_entry l (i ∷ xs) entries (slice_index table s)) (entries-same xs is)
            ∙ ap (λ ys. settled_entry l ys (map (stand_in l old) ys) (slice_index table s)) (sym own)
        among xs is false outside = refl

        by : (own : List ℕ) → listed i ≡ own → settled_on l own table i s ≡ done_on (settled_at l listed old) own i s (slice_index table s)
        by [] is = refl
        by (x ∷ xs) is = elim (eqb_tells x i) [
          | inl told ↦
              let headed : listed i ≡ i ∷ xs = is ∙ ap (λ h. h ∷ xs) told.1 in
              subst (λ h. settled_on l (h ∷ xs) table i s ≡ done_on (settled_at l listed old) (h ∷ xs) i s (slice_index table s)) (sym told.1)
              (ap (λ entry. if i == i then entry else slice_index table s) (among xs headed (contains s (i ∷ xs)) refl))
          | inr told ↦ rw told.0 refl
        ]

    -- one head more
    pub settled-more : (s : ℕ) → settled_on l (listed i) table i s ≡ settled_below l listed old (i + 1) s
    settled-more s = settled-same s ∙ done-more listed n are (settled_at l listed old) (slice_index old) i s (slice_index table s) (so_far s)

  -- once all heads are passed, each symbol points to what it shall
  pub settled-all : (i s : ℕ) → n ≤ i → settled_below l listed old i s ≡ settled_at l listed old s (slice_index old s)
  settled-all i s le =
      done-all listed n are (settled_at l listed old) (slice_index old) i s le
      (λ none. ap (λ own. settled_entry l own (map (stand_in l old) own) (slice_index old s)) none)

-- the numbers below an end begin with the first
pub range-next : (i n : ℕ) → i < n → range_with_len i (n - i) ≡ i ∷ range_with_len (i + 1) (n - (i + 1))
range-next i n lt =
    let count : n - i ≡ suc (n - (i + 1)) = omega arith in
    ap (range_with_len i) count

-- one thing more that is told of a number, if there is one
pub told-more : {X : Type 0} (f : ℕ → Option X) (told next : List X) (i n : ℕ) (one : Option X) → i < n → one ≡ f i → next ≡ told ++ option_to_list one
    → next ++ filter_map f (range_with_len (i + 1) (n - (i + 1))) ≡ told ++ filter_map f (range_with_len i (n - i))
told-more {X} f told next i n one lt is more =
    ap (λ xs. xs ++ rest) more ∙ by one
    ∙ ap (λ o. told ++ cons_option o rest) is
    ∙ sym (ap (λ numbers. told ++ filter_map f numbers) (range-next i n lt))
  where
    rest : List X
    rest = filter_map f (range_with_len (i + 1) (n - (i + 1)))

    by : (o : Option X) → told ++ option_to_list o ++ rest ≡ told ++ cons_option o rest
    by None = ap (λ xs. xs ++ rest) (append-nil told)
    by (Some x) = append_assoc told (x ∷ []) rest

-- Lists of rivals are narrowed one after another.
use Rattle.std.proofs.Common.{◌≡◌, ◌∙◌, ◌+◌, ◌<◌, ◌≤◌, ◌&&◌, ℕ, zero, suc, Bool, true, false, List, [], ◌∷◌, Option, Some, None, not, refl, sym, ap, subst, inl, inr, arith, length, map, if◌then◌else◌, slice_get, slice_index, bit_or}
use Rattle.std.specs.Prelude.{◌==◌, slice_index_or}
use Rattle.std.specs.Int.Bits.{or_zero_r}
use Rattle.std.specs.Option.{option_map_or}
use Rattle.std.proofs.lemmas.Bool.Decides.{eqb_tells}
use Rattle.link_input.specs.Symbols.{Symbol, is_shared}
use Rattle.link_rules.specs.Flags.{flags_if}
use Rattle.link_rules.specs.Marking.{visibility_flags}
use Rattle.link_closure.proofs.Joins.{or_assoc}
use Rattle.link_rules.proofs.ByPlace.{all-places, each-same}
use Rattle.link_rules.proofs.Settled.{slice_index-each_from}
use Rattle.link_rules.specs.Places.{are_several, contains, each_from, first_of, is_number}
use Rattle.link_rules.specs.Rivals.{plain_list, versioned_list}
use Rattle.link_rules.specs.Visibility.{list_flags, narrowed_symbol, strictest}
use Rattle.link_rules.specs.World.{Stage}
use Rattle.link_resolve_rivals.specs.Lists.{AreLists, plain_lists, versioned_lists}
use Rattle.link_resolve_rivals.specs.Narrowed.{flags_by, joined_unless, narrowed, narrowed_by, narrowed_on}
use Rattle.link_resolve_rivals.proofs.Heads.{same-number}
use Rattle.link_resolve_rivals.proofs.Passes.{contained, done_below, done_on, done-all, done-more, list-is, list-shared}

-- by the column: whether a shared file gives the symbol at a place
unshared-at : (xs : List Symbol) (s bits : ℕ)
    → flags_if (not (slice_index_or (map (λ x. is_shared x.origin) xs) s true)) bits ≡ option_map_or (λ x. flags_if (not (is_shared x.origin)) bits) (slice_get xs s) 0
unshared-at [] s bits = refl
unshared-at (x ∷ xs) zero bits = refl
unshared-at (x ∷ xs) (suc s) bits = unshared-at xs s bits

-- what is joined to the symbols of a list that begins with its head
pub head-narrowed : (w : Stage) (dynamic : List Bool) (own later : List ℕ) (head s old bits : ℕ) → own ≡ head ∷ later → 0 < length later
    → dynamic ≡ map (λ x. is_shared x.origin) w.symbols → bits ≡ visibility_flags (strictest w (head ∷ later)) false
    → (if contains s (head ∷ later) then joined_unless dynamic bits s old else old) ≡ narrowed_on w own head s old
head-narrowed w dynamic own [] head s old bits is some seen flags = absurd (omega arith)
head-narrowed w dynamic own (y ∷ ys) head s old bits is some seen flags =
    ap (λ more. if contains s (head ∷ y ∷ ys) then bit_or old more else old)
    (ap (λ column. flags_if (not (slice_index_or column s true)) bits) seen ∙ unshared-at w.symbols s bits
    ∙ ap (λ b. option_map_or (λ (x : Symbol). flags_if (not (is_shared x.origin)) b) (slice_get w.symbols s) 0) flags)
    ∙ subst (λ ys'. (if contains s (head ∷ y ∷ ys) then bit_or old (flags_by w (head ∷ y ∷ ys) s) else old) ≡ narrowed_on w ys' head s old) (sym is)
    (sym (ap (λ b. if b then (if contains s (head ∷ y ∷ ys) then bit_or old (flags_by w (head ∷ y ∷ ys) s) else old) else old) (same-number head)))

-- a list that is not of several gives no flags
few-flags : (w : Stage) (own : List ℕ) (s old : ℕ) → are_several own ≡ false → bit_or old (flags_by w own s) ≡ old
few-flags w own s old few = ap (bit_or old) (by (slice_get w.symbols s)) ∙ or_zero_r old
  where
    by : (o : Option Symbol) → option_map_or (λ x. list_flags w x own) o 0 ≡ 0
    by None = refl
    by (Some x) = ap (λ b. flags_if (b && not (is_shared x.origin)) (visibility_flags (strictest w own) false)) few

-- where no list of several begins with the head, nothing is joined
pub one-narrowed : (w : Stage) (own : List ℕ) (head s old : ℕ) → (is_number (first_of own) head && are_several own) ≡ false → old ≡ narrowed_on w own head s old
one-narrowed w own head s old one = sym (by (is_number (first_of own) head) (are_several own) (contains s own) refl one)
  where
    by : (a b c : Bool) → are_several own ≡ b → (a && b) ≡ false → (if a then (if c then bit_or old (flags_by w own s) else old) else old) ≡ old
    by true true c is none = cc
    by true false true is none = few-flags w own s old is
    by true false false is none = refl
    by false b c is none = refl

-- what a symbol's flags are once its list is narrowed
abbrev pub narrowed_at : Stage → (ℕ → List ℕ) → ℕ → ℕ → ℕ
narrowed_at w listed s old = bit_or old (flags_by w (listed s) s)

module _ (w : Stage) (listed : ℕ → List ℕ) (n : ℕ) (are : AreLists listed n) (old : List ℕ) where
  -- a list that is narrowed is the list of each of its symbols
  narrowed-same : (i s now : ℕ) → narrowed_on w (listed i) i s now ≡ done_on (narrowed_at w listed) (listed i) i s now
  narrowed-same i s now = by (listed i) refl
    where
      among : (xs : List ℕ) → listed i ≡ i ∷ xs → (b : Bool) → contains s (i ∷ xs) ≡ b
          → (if b then bit_or now (flags_by w (i ∷ xs) s) else now) ≡ (if b then narrowed_at w listed s now else now)
      among xs is true within =
          let own : listed s ≡ i ∷ xs = list-shared listed n are (narrowed_at w listed) (slice_index old) i xs s is (contained s (i ∷ xs) within) in
          ap (λ ys. bit_or now (flags_by w ys s)) (sym own)
      among xs is false outside = refl

      by : (own : List ℕ) → listed i ≡ own → narrowed_on w own i s now ≡ done_on (narrowed_at w listed) own i s now
      by [] is = refl
      by (x ∷ xs) is = elim (eqb_tells x i) [
        | inl told ↦
            let headed : listed i ≡ i ∷ xs = is ∙ ap (λ h. h ∷ xs) told.1 in
            subst (λ h. narrowed_on w (h ∷ xs) i s now ≡ done_on (narrowed_at w listed) (h ∷ xs) i s now) (sym told.1)
            (ap (λ flags. if i == i then flags else now) (among xs headed (contains s (i ∷ xs)) refl))
        | inr told ↦ rw told.0 refl
      ]

  -- one head more
  pub narrowed-more : (i s now : ℕ) → now ≡ done_below listed (narrowed_at w listed) (slice_index old) i s
      → narrowed_on w (listed i) i s now ≡ done_below listed (narrowed_at w listed) (slice_index old) (i + 1) s
  narrowed-more i s now so_far = narrowed-same i s now ∙ done-more listed n are (narrowed_at w listed) (slice_index old) i s now so_far

  -- once all heads are passed, each symbol has the flags of its list
  pub narrowed-all : (i : ℕ) (new : List ℕ) → n ≤ i → length new ≡ length w.symbols
      → ((s : ℕ) → slice_index new s ≡ done_below listed (narrowed_at w listed) (slice_index old) i s) → new ≡ narrowed w listed old
  narrowed-all i new le same so_far = list-is (narrowed_by w listed old) 0 new w.symbols same each
    where
      each : (s : ℕ) (x : Symbol) → slice_get w.symbols s ≡ Some x → slice_index new s ≡ narrowed_by w listed old (0 + s) x
      each s x at =
          let first : s ≡ 0 + s = omega arith in
          so_far s
          ∙ done-all listed n are (narrowed_at w listed) (slice_index old) i s le
          (λ none. few-flags w (listed s) s (slice_index old s) (ap are_several none))
          ∙ ap (λ o. bit_or (slice_index old s) (option_map_or (λ (y : Symbol). list_flags w y (listed s)) o 0)) at
          ∙ ap (λ k. narrowed_by w listed old k x) first

-- narrowing by plain names and then by names with versions gives the flags of both lists
pub narrowed-twice : (w : Stage) (flags : List ℕ) → narrowed w (versioned_lists w) (narrowed w (plain_lists w) flags) ≡ each_from (narrowed_symbol w flags) 0 w.symbols
narrowed-twice w flags =
    each-same (narrowed_by w (versioned_lists w) (narrowed w (plain_lists w) flags)) (narrowed_symbol w flags) 0 w.symbols
    (all-places (λ s x. narrowed_by w (versioned_lists w) (narrowed w (plain_lists w) flags) s x ≡ narrowed_symbol w flags s x) w.symbols each)
  where
    each : (s : ℕ) (x : Symbol) → slice_get w.symbols s ≡ Some x → narrowed_by w (versioned_lists w) (narrowed w (plain_lists w) flags) s x ≡ narrowed_symbol w flags s x
    each s x at =
        let zero_add : 0 + s ≡ s = omega arith in
        ap (λ f. bit_or f (list_flags w x (versioned_lists w s)))
        (slice_index-each_from (narrowed_by w (plain_lists w) flags) 0 w.symbols s x at ∙ ap (λ k. narrowed_by w (plain_lists w) flags k x) zero_add)
        ∙ or_assoc (slice_index flags s) (list_flags w x (plain_lists w s)) (list_flags w x (versioned_lists w s))
        ∙ ap (λ o. bit_or (slice_index flags s) (bit_or (list_flags w x (option_map_or (plain_list w) o [])) (list_flags w x (option_map_or (versioned_list w) o [])))) at

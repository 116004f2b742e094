-- Flags are joined with those of all symbols of a list.
use Rattle.std.proofs.Common.{◌≡◌, ◌∙◌, ◌+◌, ◌<◌, ℕ, zero, suc, Bool, true, false, List, [], ◌∷◌, arith, not, refl, sym, ap, subst, inl, inr, length, get_or, drop, map, if◌then◌else◌, slice_index, slice_set, bit_or}
use Rattle.std.specs.Prelude.{◌==◌, ◌||◌, fold, slice_get, slice_index_or}
use Rattle.std.specs.Option.{option_map_or}
use Rattle.std.specs.Int.Bits.{or_self, or_zero_r}
use Rattle.std.proofs.lemmas.Bool.Decides.{eqb_tells}
use Rattle.std.proofs.lemmas.List.{at_drop_more, get_or-map, length-map, map-set}
use Rattle.link_closure.proofs.Joins.{or_assoc}
use Rattle.link_flags.specs.FlagWords.{numbers_of}
use Rattle.link_flags.specs.declared.value_flags.RawFlags.{RawFlags}
use Rattle.link_flags.specs.declared.visibility.Visibility.{Visibility}
use Rattle.link_flags.specs.declared.visibility.Visibility.TheVariants.{Default}
use Rattle.link_flags.specs.Strictness as visibility
use Rattle.link_input.specs.Symbols.{Symbol, visibility_in}
use Rattle.link_rules.specs.Flags.{flags_if}
use Rattle.link_rules.specs.Places.{contains}
use Rattle.link_rules.specs.Visibility.{visibility_of}
use Rattle.link_rules.specs.World.{Stage}
use Rattle.link_resolve_rivals.specs.Narrowed.{joined_unless}
use Rattle.link_resolve_rivals.proofs.Pointing.{written}

-- a symbol that is not dynamic gets the bits
pub joined-word : (dynamic : List Bool) (bits at : ℕ) (ws : List RawFlags) (w d : RawFlags) (s : ℕ) → at < length ws → slice_index_or dynamic at true ≡ false
    → w.0 ≡ bit_or (get_or ws at d).0 bits
    → slice_index (numbers_of (slice_set ws at w)) s ≡ (if at == s then joined_unless dynamic bits s (slice_index (numbers_of ws) s) else slice_index (numbers_of ws) s)
joined-word dynamic bits at ws w d s lt regular is =
    ap (λ ns. slice_index ns s) (map-set (λ (x : RawFlags). x.0) ws at w) ∙ written (numbers_of ws) at w.0 s (rw length-map lt) ∙ here
  where
    at-word : w.0 ≡ joined_unless dynamic bits at (slice_index (numbers_of ws) at)
    at-word =
        is ∙ ap (λ x. bit_or x bits) (sym (get_or-map (λ (x : RawFlags). x.0) ws at d 0 lt))
        ∙ ap (λ b. bit_or (slice_index (numbers_of ws) at) (flags_if (not b) bits)) (sym regular)

    here : (if at == s then w.0 else slice_index (numbers_of ws) s) ≡ (if at == s then joined_unless dynamic bits s (slice_index (numbers_of ws) s) else slice_index (numbers_of ws) s)
    here = elim (eqb_tells at s) [
      | inl told ↦ rw told.0 (subst (λ k. w.0 ≡ joined_unless dynamic bits k (slice_index (numbers_of ws) k)) told.1 at-word)
      | inr told ↦ rw told.0 refl
    ]

-- a dynamic one stays
pub joined-none : (dynamic : List Bool) (bits at : ℕ) (ns : List ℕ) (s : ℕ) → slice_index_or dynamic at true ≡ true
    → slice_index ns s ≡ (if at == s then joined_unless dynamic bits s (slice_index ns s) else slice_index ns s)
joined-none dynamic bits at ns s shared = elim (eqb_tells at s) [
  | inl told ↦ rw told.0 (sym (ap (λ b. bit_or (slice_index ns s) (flags_if (not b) bits)) (ap (λ k. slice_index_or dynamic k true) (sym told.1) ∙ shared) ∙ or_zero_r (slice_index ns s)))
  | inr told ↦ rw told.0 refl
]

-- bits that are there are not added again
joined-twice : (dynamic : List Bool) (bits s old : ℕ) → joined_unless dynamic bits s (joined_unless dynamic bits s old) ≡ joined_unless dynamic bits s old
joined-twice dynamic bits s old =
    let more = flags_if (not (slice_index_or dynamic s true)) bits in
    or_assoc old more more ∙ ap (bit_or old) (or_self more)

-- what is joined before and behind
both-joined : (dynamic : List Bool) (bits s : ℕ) (a b : Bool) (old : ℕ)
    → (if b then joined_unless dynamic bits s (if a then joined_unless dynamic bits s old else old) else (if a then joined_unless dynamic bits s old else old))
    ≡ (if a || b then joined_unless dynamic bits s old else old)
both-joined dynamic bits s true true old = joined-twice dynamic bits s old
both-joined dynamic bits s true false old = refl
both-joined dynamic bits s false true old = refl
both-joined dynamic bits s false false old = refl

-- the head is joined, and then the others
pub head-joined : (dynamic : List Bool) (bits : ℕ) (before after : List ℕ) (later : List ℕ) (head s : ℕ)
    → slice_index after s ≡ (if head == s then joined_unless dynamic bits s (slice_index before s) else slice_index before s)
    → (if contains s later then joined_unless dynamic bits s (slice_index after s) else slice_index after s)
    ≡ (if contains s (head ∷ later) then joined_unless dynamic bits s (slice_index before s) else slice_index before s)
head-joined dynamic bits before after later head s is =
    ap (λ now. if contains s later then joined_unless dynamic bits s now else now) is ∙ both-joined dynamic bits s (head == s) (contains s later) (slice_index before s)

-- one of the others is joined, and then the rest
pub next-joined : (dynamic : List Bool) (bits : ℕ) (before after : List ℕ) (later : List ℕ) (i s : ℕ) → i < length later
    → slice_index after s ≡ (if get_or later i 0 == s then joined_unless dynamic bits s (slice_index before s) else slice_index before s)
    → (if contains s (drop (i + 1) later) then joined_unless dynamic bits s (slice_index after s) else slice_index after s)
    ≡ (if contains s (drop i later) then joined_unless dynamic bits s (slice_index before s) else slice_index before s)
next-joined dynamic bits before after later i s lt is =
    head-joined dynamic bits before after (drop (i + 1) later) (get_or later i 0) s is
    ∙ sym (at_drop_more (λ ys. if contains s ys then joined_unless dynamic bits s (slice_index before s) else slice_index before s) later i 0 lt)

-- what the column of visibilities has is what symbols say
visibility-at : (xs : List Symbol) (s : ℕ) (d : Visibility) → s < length xs
    → get_or (map (λ x. visibility_in x.origin) xs) s d ≡ option_map_or (λ x. visibility_in x.origin) (slice_get xs s) Default
visibility-at [] s d lt = absurd (omega arith)
visibility-at (x ∷ xs) zero d lt = refl
visibility-at (x ∷ xs) (suc s) d lt = visibility-at xs s d (omega arith)

-- the strictest of what came before and the next symbol, and then of the rest
pub next-strictest : (w : Stage) (column : List Visibility) (later : List ℕ) (i : ℕ) (before d : Visibility) → i < length later → get_or later i 0 < length column
    → column ≡ map (λ x. visibility_in x.origin) w.symbols
    → fold visibility.strictest (visibility.strictest before (get_or column (get_or later i 0) d)) (map (visibility_of w) (drop (i + 1) later))
    ≡ fold visibility.strictest before (map (visibility_of w) (drop i later))
next-strictest w column later i before d lt inside seen =
    ap (λ v. fold visibility.strictest (visibility.strictest before v) (map (visibility_of w) (drop (i + 1) later)))
    (ap (λ c. get_or c (get_or later i 0) d) seen ∙ visibility-at w.symbols (get_or later i 0) d below)
    ∙ sym (at_drop_more (λ ys. fold visibility.strictest before (map (visibility_of w) ys)) later i 0 lt)
  where
    below : get_or later i 0 < length w.symbols
    below = omega (arith, ap length seen, length-map w.symbols (λ (x : Symbol). visibility_in x.origin))

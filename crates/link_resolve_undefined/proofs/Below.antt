-- What stands for undefined names, and what their references point to, are ids below a number.
use Rattle.std.proofs.Common.{◌≡◌, ◌+◌, ◌<◌, ◌≤◌, ◌∙◌, ◌&&◌, ℕ, List, [], ◌∷◌, All, Bool, true, false, Option, Some, None, if◌then◌else◌, is_some, length, filter, option_map, position, slice_get, slice_index, slice_set, unwrap_or, refl, sym, subst, arith, suc}
use Rattle.std.specs.Prelude.{IfSome}
use Rattle.std.specs.List.{cons_option}
use Rattle.std.specs.Option.{option_or}
use Rattle.std.proofs.lemmas.List.{length-set}
use Rattle.std.proofs.lemmas.List.Elements.{All-nil, All-cons, All-set}
use Rattle.std.proofs.lemmas.List.Quantifiers.{position-Some}
use Rattle.std.proofs.lemmas.Option.{slice_get_within}
use Rattle.link_flags.specs.declared.strength.SymbolStrength.TheVariants.{Undefined}
use Rattle.link_input.specs.Symbols.{Symbol, in_stub}
use Rattle.link_rules.specs.Places.{Bytes, each_from, is_number, last_of}
use Rattle.link_rules.specs.Undefined.{Numbered, asks_same, last_alike}
use Rattle.link_resolve_undefined.specs.declared.asked_names.AskedNames.{AskedNames}
use Rattle.link_resolve_undefined.specs.declared.name_ids.NameIds.{NameIds}
use Rattle.link_resolve_undefined.specs.Asked.{AreBelow, canonical_in, last_in}
use Rattle.link_resolve_undefined.specs.Edited.{edited}
use Rattle.link_resolve_undefined.specs.NameIds.{Answers, id_in}
use Rattle.link_resolve_undefined.specs.Pointed.{pointed}
use Rattle.link_resolve_undefined.specs.Records.{numbered_at}
use Rattle.link_resolve_undefined.proofs.Numbering.{AreAt, filter-at, numbered-are}

-- the last of some symbols has the id of one
last-inside : (symbols : List Symbol) (us : List Numbered) → AreAt symbols us → IfSome (option_map (λ (u : Numbered). u.0) (last_of us)) (λ s. s < length symbols)
last-inside symbols [] at = tt
last-inside symbols (u ∷ []) at = slice_get_within symbols u.0 u.1 at.0
last-inside symbols (u ∷ v ∷ us) at = last-inside symbols (v ∷ us) at.1

-- the place of the first that passes a test is below their number
place-inside : (p : Numbered → Bool) (us : List Numbered) (first : ℕ) (d : Numbered) (o : Option ℕ) → position p us ≡ o → IfSome (option_map (λ i. first + i) o) (λ s. s < first + length us)
place-inside p us first d None is = tt
place-inside p us first d (Some i) is = let below : i < length us = (position-Some p us i d is).0 in omega (arith, below)

-- what is below a number is below a greater one
weaker : (low high : ℕ) (o : Option ℕ) → low ≤ high → IfSome o (λ s. s < low) → IfSome o (λ s. s < high)
weaker low high None le below = tt
weaker low high (Some s) le below = omega (arith, below, le)

-- the one or else the other is below it, where both are
either : (high : ℕ) (o q : Option ℕ) → IfSome o (λ s. s < high) → IfSome q (λ s. s < high) → IfSome (option_or o q) (λ s. s < high)
either high None q first second = second
either high (Some s) q first second = first

some-more : (s : ℕ) (o : Option Symbol) (us : List Numbered) (n : ℕ) → length us ≤ n → length (cons_option (option_map (λ x. (s, x)) o) us) ≤ suc n
some-more s None us n le = omega (arith, le)
some-more s (Some x) us n le = omega (arith, le)

-- there are no more symbols of ids than ids
fewer-records : (symbols : List Symbol) (ids : List ℕ) → length (numbered_at symbols ids) ≤ length ids
fewer-records symbols [] = omega arith
fewer-records symbols (s ∷ ids) = some-more s (slice_get symbols s) (numbered_at symbols ids) (length ids) (fewer-records symbols ids)

-- what stands for a name is the id of a reference or of a new symbol
pub stands-below : (symbols : List Symbol) (left makers : List ℕ) (last made : NameIds) (first : ℕ) → first ≡ length symbols
    → Answers last (last_alike (numbered_at symbols left))
    → Answers made (λ x. option_map (λ i. first + i) (position (λ m. asks_same m.1 x) (numbered_at symbols makers)))
    → (name : Bytes) (version : Option Bytes) → IfSome (option_or (id_in made name version) (id_in last name version)) (λ s. s < length symbols + length makers)
stands-below symbols left makers last made first is lasts mades name version =
    let x : Symbol = record { name = name; version = version; origin = in_stub Undefined } in
    let asks = λ (m : Numbered). asks_same m.1 x in
    let high = length symbols + length makers in
    let old : IfSome (last_alike (numbered_at symbols left) x) (λ s. s < high) =
    weaker (length symbols) high (last_alike (numbered_at symbols left) x) (omega arith)
    (last-inside symbols (filter asks (numbered_at symbols left)) (filter-at symbols asks (numbered_at symbols left) (numbered-are symbols left))) in
    let fits : first + length (numbered_at symbols makers) ≤ high = omega (arith, is, fewer-records symbols makers) in
    let new : IfSome (option_map (λ i. first + i) (position asks (numbered_at symbols makers))) (λ s. s < high) =
    weaker (first + length (numbered_at symbols makers)) high (option_map (λ i. first + i) (position asks (numbered_at symbols makers))) fits
    (place-inside asks (numbered_at symbols makers) first (0, x) (position asks (numbered_at symbols makers)) refl) in
    either high (id_in made name version) (id_in last name version)
    (subst (λ (o : Option ℕ). IfSome o (λ s. s < high)) (sym (mades x)) new) (subst (λ (o : Option ℕ). IfSome o (λ s. s < high)) (sym (lasts x)) old)

-- what a reference points to at the end is below a number, where it was
pointed-below : (count : ℕ) (asked : AskedNames) → AreBelow count asked → (u : Numbered) (old : ℕ) → u.0 < count → old < count → pointed asked u old < count
pointed-below count asked below u old within was =
    by (is_some u.1.version && is_number (last_in asked u.1.name u.1.version) u.0) (canonical_in asked u.1.name u.1.version) (below.stands u.1.name u.1.version)
  where
    by : (b : Bool) (o : Option ℕ) → IfSome o (λ s. s < count) → (if b then old else unwrap_or o u.0) < count
    by true o some = was
    by false None some = within
    by false (Some s) some = some

-- entries that are changed stay as many
pub length-edited : (change : Numbered → ℕ → ℕ) (us : List Numbered) (entries : List ℕ) → length (edited change us entries) ≡ length entries
length-edited change [] entries = refl
length-edited change (u ∷ us) entries =
    length-edited change us (slice_set entries u.0 (change u (slice_index entries u.0))) ∙ length-set entries u.0 (change u (slice_index entries u.0))

edited-below : (count : ℕ) (asked : AskedNames) → AreBelow count asked → (symbols : List Symbol) → length symbols ≤ count → (us : List Numbered) → AreAt symbols us
    → (table : List ℕ) → length symbols ≤ length table → All (λ t. t < count) table → All (λ t. t < count) (edited (pointed asked) us table)
edited-below count asked below symbols le [] at table long all = all
edited-below count asked below symbols le (u ∷ us) at table long all =
    let within : u.0 < length symbols = slice_get_within symbols u.0 u.1 at.0 in
    let entry = pointed asked u (slice_index table u.0) in
    let was : slice_index table u.0 < count = all u.0 0 (omega (arith, within, long)) in
    let new : entry < count = pointed-below count asked below u (slice_index table u.0) (omega (arith, within, le)) was in
    edited-below count asked below symbols le us at.1 (slice_set table u.0 entry) (omega (arith, long, length-set table u.0 entry)) (All-set (λ t. t < count) table u.0 entry new all)

-- what references point to is below it too
pub all-below : (count : ℕ) (asked : AskedNames) → AreBelow count asked → (symbols : List Symbol) (left table : List ℕ) → length symbols ≤ count → length symbols ≤ length table
    → All (λ t. t < count) table → All (λ t. t < count) (edited (pointed asked) (numbered_at symbols left) table)
all-below count asked below symbols left table le long all = edited-below count asked below symbols le (numbered_at symbols left) (numbered-are symbols left) table long all

-- so are the ids of new symbols
pub ids-below : (count i : ℕ) (makers : List ℕ) → i + length makers ≤ count → All (λ t. t < count) (each_from (λ (s m : ℕ). s) i makers)
ids-below count i [] le = All-nil (λ t. t < count)
ids-below count i (m ∷ makers) le =
    All-cons (λ t. t < count) i (each_from (λ (s m : ℕ). s) (i + 1) makers) (omega (arith, le)) (ids-below count (i + 1) makers (omega (arith, le)))

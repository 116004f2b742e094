-- The groups of an object with their places and signatures, read one after another.
use Rattle.std.proofs.Common.{◌≡◌, ◌<◌, ◌≤◌, ◌+◌, ◌||◌, ◌&&◌, ℕ, zero, suc, Bool, true, false, cond, List, [], ◌∷◌, ◌++◌, map, length, drop, Option, Some, None, option_map, refl, sym, ap, subst, ◌∙◌, append_assoc, arith}
use Rattle.std.specs.Prelude.{slice_get, filter, IfSome}
use Rattle.std.specs.Option.{option_and_then, option_map_or}
use Rattle.std.specs.List.{enumerate_from, list_any, zip}
use Rattle.std.proofs.lemmas.List.{drop_more, at_drop_all, length-map, append-nil}
use Rattle.std.proofs.lemmas.Option.{slice_get-map, slice_get_within, get_or_from_slice_get, same_Some}
use Rattle.link_input.specs.declared.object.SectionGroup.{SectionGroup}
use Rattle.link_input.specs.declared.object.ObjectTable.{ObjectTable}
use Rattle.link_input.specs.declared.symbol_entry.SymbolEntry.{SymbolEntry}
use Rattle.link_input.specs.ObjectFile.{ObjectFile}
use Rattle.link_rules.specs.declared.linked.KeptGroup.{KeptGroup}
use Rattle.link_rules.specs.Places.{Bytes}
use Rattle.link_rules.specs.Comdat.{PlacedGroup, groups_of, placed_group, signature_of}
use Rattle.link_resolve_comdat.specs.Selected.{told}
use Rattle.link_resolve_comdat.specs.InOrder.{is_comdat_of, met_with, is_kept_after, kept_in_order, comdats_told}
use Rattle.link_resolve_comdat.proofs.Truth.{or-assoc, or-false}

-- an element with its place
enumerated : {A : Type 0} (n : ℕ) (xs : List A) (k : ℕ) → slice_get (enumerate_from n xs) k ≡ option_map (λ x. (n + k, x)) (slice_get xs k)
enumerated n [] k = refl
enumerated n (x ∷ xs) zero = let same : n ≡ n + 0 = omega arith in ap (λ (m : ℕ). Some (m, x)) same
enumerated n (x ∷ xs) (suc k) = let same : n + 1 + k ≡ n + suc k = omega arith in enumerated (n + 1) xs k ∙ ap (λ (m : ℕ). option_map (λ x. (m, x)) (slice_get xs k)) same

length-enumerated : {A : Type 0} (n : ℕ) (xs : List A) → length (enumerate_from n xs) ≡ length xs
length-enumerated n [] = refl
length-enumerated n (x ∷ xs) = ap suc (length-enumerated (n + 1) xs)

-- an object has as many placed groups as groups
pub length-groups_of : (o : ℕ × ObjectFile) → length (groups_of o) ≡ length o.1.object.groups
length-groups_of o = length-map (enumerate_from 0 o.1.object.groups) (placed_group o.0 o.1) ∙ length-enumerated 0 o.1.object.groups

-- the group at a place, with the name of its signature symbol
pub placed-at : (o : ℕ × ObjectFile) (k : ℕ) (g : SectionGroup) (e : SymbolEntry) → slice_get o.1.object.groups k ≡ Some g
    → option_and_then (λ x. slice_get o.1.object.symbols x.signature_symbol) (slice_get o.1.object.groups k) ≡ Some e
    → slice_get (groups_of o) k ≡ Some (record { place = (o.0, k); signature = e.name; group = g })
placed-at o k g e there signature =
    let named : signature_of o.1 g ≡ e.name = ap (λ (s : Option SymbolEntry). option_map_or (λ x. x.name) s []) (rw there at signature) in
    let PlacedAs : ℕ → Bytes → PlacedGroup = λ n name. record { place = (o.0, n); signature = name; group = g } in
    slice_get-map (placed_group o.0 o.1) (enumerate_from 0 o.1.object.groups) k
    ∙ ap (option_map (placed_group o.0 o.1)) (enumerated 0 o.1.object.groups k ∙ ap (option_map (λ x. (0 + k, x))) there)
    ∙ (let place : 0 + k ≡ k = omega arith in ap (λ (n : ℕ). Some (PlacedAs n (signature_of o.1 g))) place)
    ∙ ap (λ (name : Bytes). Some (PlacedAs k name)) named

-- the same of a table that is the object's
pub placed-in : (o : ℕ × ObjectFile) (t : ObjectTable) (k : ℕ) (g : SectionGroup) (e : SymbolEntry) → t ≡ o.1.object → slice_get t.groups k ≡ Some g
    → option_and_then (λ x. slice_get t.symbols x.signature_symbol) (slice_get t.groups k) ≡ Some e
    → slice_get (groups_of o) k ≡ Some (record { place = (o.0, k); signature = e.name; group = g })
placed-in o t k g e same there signature =
    placed-at o k g e (subst (λ (x : ObjectTable). slice_get x.groups k ≡ Some g) same there)
    (subst (λ (x : ObjectTable). option_and_then (λ y. slice_get x.symbols y.signature_symbol) (slice_get x.groups k) ≡ Some e) same signature)

-- what is told of the group at a place
pub told-at : (o : ℕ × ObjectFile) (t : ObjectTable) (k : ℕ) (e : SymbolEntry) → t ≡ o.1.object
    → option_and_then (λ x. slice_get t.symbols x.signature_symbol) (slice_get t.groups k) ≡ Some e
    → option_map told (slice_get (groups_of o) k) ≡ Some (record { object = o.0; group = k; signature = e.name })
told-at o t k e same signature = by (slice_get t.groups k) refl
  where
    by : (found : Option SectionGroup) → slice_get t.groups k ≡ found → option_map told (slice_get (groups_of o) k) ≡ Some (record { object = o.0; group = k; signature = e.name })
    by None none = let clash : None ≡ Some e = rw none at signature in cc
    by (Some g) there = ap (option_map told) (placed-in o t k g e same there signature)

-- the list from a known element on
pub drop-at : {A : Type 0} (xs : List A) (k : ℕ) (x : A) → slice_get xs k ≡ Some x → drop k xs ≡ x ∷ drop (k + 1) xs
drop-at xs k x there = drop_more xs k x (slice_get_within xs k x there) ∙ ap (λ y. y ∷ drop (k + 1) xs) (get_or_from_slice_get xs k x x there)

-- what is known after one group more
pub met-one : (met : Bytes → Bool) (g : PlacedGroup) (name : Bytes) (new : Bool) → new ≡ (met name || is_comdat_of name g) → new ≡ met_with met (g ∷ []) name
met-one met g name new is = is ∙ ap (λ (b : Bool). met name || b) (sym (or-false (is_comdat_of name g)))

-- a turn over groups: the signatures
pub met-step : (now new : Bytes → Bool) (groups : List PlacedGroup) (k : ℕ) (g : PlacedGroup) (name : Bytes) → slice_get groups k ≡ Some g → new name ≡ met_with now (g ∷ []) name
    → met_with new (drop (k + 1) groups) name ≡ met_with now (drop k groups) name
met-step now new groups k g name there is =
    ap (λ (b : Bool). b || list_any (is_comdat_of name) (drop (k + 1) groups)) (is ∙ ap (λ (b : Bool). now name || b) (or-false (is_comdat_of name g)))
    ∙ or-assoc (now name) (is_comdat_of name g) (list_any (is_comdat_of name) (drop (k + 1) groups))
    ∙ ap (λ (gs : List PlacedGroup). now name || list_any (is_comdat_of name) gs) (sym (drop-at groups k g there))

-- a turn over groups: which are kept
pub kept-order-step : (now new : Bytes → Bool) (kept : List Bool) (groups : List PlacedGroup) (k : ℕ) (g : PlacedGroup) (b : Bool) → slice_get groups k ≡ Some g → b ≡ is_kept_after now g
    → ((name : Bytes) → new name ≡ met_with now (g ∷ []) name)
    → (kept ++ b ∷ []) ++ kept_in_order new (drop (k + 1) groups) ≡ kept ++ kept_in_order now (drop k groups)
kept-order-step now new kept groups k g b there is met =
    let same : new ≡ met_with now (g ∷ []) = λ i name. met name i in
    append_assoc kept (b ∷ []) (kept_in_order new (drop (k + 1) groups))
    ∙ ap (λ (x : Bool). kept ++ x ∷ kept_in_order new (drop (k + 1) groups)) is
    ∙ ap (λ (m : Bytes → Bool). kept ++ is_kept_after now g ∷ kept_in_order m (drop (k + 1) groups)) same
    ∙ ap (λ (gs : List PlacedGroup). kept ++ kept_in_order now gs) (sym (drop-at groups k g there))

-- what is told of a first group, and of those behind it
told-head : (g : PlacedGroup) (b : Bool) (groups : List PlacedGroup) (kept : List Bool) → comdats_told (g ∷ []) (b ∷ []) ++ comdats_told groups kept ≡ comdats_told (g ∷ groups) (b ∷ kept)
told-head g b groups kept = by (g.group.is_comdat && b)
  where
    by : (passes : Bool) → map (λ (x : PlacedGroup × Bool). told x.0) (cond passes ((g, b) ∷ []) []) ++ comdats_told groups kept
        ≡ map (λ (x : PlacedGroup × Bool). told x.0) (cond passes ((g, b) ∷ filter (λ (x : PlacedGroup × Bool). x.0.group.is_comdat && x.1) (zip groups kept)) (filter (λ (x : PlacedGroup × Bool). x.0.group.is_comdat && x.1) (zip groups kept)))
    by true = refl
    by false = refl

-- a turn over groups: what is told
pub told-step : (old new : List KeptGroup) (groups : List PlacedGroup) (kept : List Bool) (k : ℕ) (g : PlacedGroup) (b : Bool) → slice_get groups k ≡ Some g → slice_get kept k ≡ Some b
    → new ≡ old ++ comdats_told (g ∷ []) (b ∷ [])
    → new ++ comdats_told (drop (k + 1) groups) (drop (k + 1) kept) ≡ old ++ comdats_told (drop k groups) (drop k kept)
told-step old new groups kept k g b there truth is =
    ap (λ (xs : List KeptGroup). xs ++ comdats_told (drop (k + 1) groups) (drop (k + 1) kept)) is
    ∙ append_assoc old (comdats_told (g ∷ []) (b ∷ [])) (comdats_told (drop (k + 1) groups) (drop (k + 1) kept))
    ∙ ap (λ (xs : List KeptGroup). old ++ xs) (told-head g b (drop (k + 1) groups) (drop (k + 1) kept))
    ∙ (rw (drop-at groups k g there, drop-at kept k b truth) refl)

-- there is a truth value for each group
pub length-kept : (met : Bytes → Bool) (groups : List PlacedGroup) → length (kept_in_order met groups) ≡ length groups
length-kept met [] = refl
length-kept met (g ∷ gs) = ap suc (length-kept (met_with met (g ∷ [])) gs)

-- nothing is told of a group that is no COMDAT group, or not kept
pub told-nothing : (old : List KeptGroup) (o : Option PlacedGroup) (b : Bool) → ((g : PlacedGroup) → o ≡ Some g → (g.group.is_comdat && b) ≡ false)
    → IfSome o (λ g. old ≡ old ++ comdats_told (g ∷ []) (b ∷ []))
told-nothing old None b fails = tt
told-nothing old (Some g) b fails = let none = fails g refl in rw none (sym (append-nil old))

-- a COMDAT group that is kept is told of
pub told-one : (old new : List KeptGroup) (o : Option PlacedGroup) (k : KeptGroup) (g : SectionGroup) (b : Bool) → option_map told o ≡ Some k → option_map (λ x. x.group) o ≡ Some g
    → g.is_comdat ≡ true → b ≡ true → new ≡ old ++ k ∷ [] → IfSome o (λ x. new ≡ old ++ comdats_told (x ∷ []) (b ∷ []))
told-one old new None k g b is group comdat kept pushed = tt
told-one old new (Some x) k g b is group comdat kept pushed =
    let same : told x ≡ k = same_Some (told x) k is in
    let passes : x.group.is_comdat ≡ true = ap (λ (y : SectionGroup). y.is_comdat) (same_Some x.group g group) ∙ comdat in
    rw (passes, kept) (pushed ∙ ap (λ (y : KeptGroup). old ++ y ∷ []) (sym same))

-- the group at a place, without its place
pub group-of : (o : ℕ × ObjectFile) (t : ObjectTable) (k : ℕ) → t ≡ o.1.object → option_map (λ x. x.group) (slice_get (groups_of o) k) ≡ slice_get t.groups k
group-of o t k same =
    ap (option_map (λ x. x.group)) (slice_get-map (placed_group o.0 o.1) (enumerate_from 0 o.1.object.groups) k ∙ ap (option_map (placed_group o.0 o.1)) (enumerated 0 o.1.object.groups k))
    ∙ by (slice_get o.1.object.groups k) ∙ ap (λ (x : ObjectTable). slice_get x.groups k) (sym same)
  where
    by : (found : Option SectionGroup) → option_map (λ (x : PlacedGroup). x.group) (option_map (placed_group o.0 o.1) (option_map (λ x. (0 + k, x)) found)) ≡ found
    by None = refl
    by (Some g) = refl

-- a turn over groups, by what is said of the group at the place
pub told-turn : (old new : List KeptGroup) (groups : List PlacedGroup) (kept : List Bool) (k : ℕ) (b : Bool) → k < length groups → slice_get kept k ≡ Some b
    → IfSome (slice_get groups k) (λ g. new ≡ old ++ comdats_told (g ∷ []) (b ∷ []))
    → new ++ comdats_told (drop (k + 1) groups) (drop (k + 1) kept) ≡ old ++ comdats_told (drop k groups) (drop k kept)
told-turn old new groups kept k b lt truth said = by (slice_get groups k) refl said
  where
    by : (found : Option PlacedGroup) → slice_get groups k ≡ found → IfSome found (λ g. new ≡ old ++ comdats_told (g ∷ []) (b ∷ []))
        → new ++ comdats_told (drop (k + 1) groups) (drop (k + 1) kept) ≡ old ++ comdats_told (drop k groups) (drop k kept)
    by None none h = absurd (within groups k lt none)
      where
        within : (xs : List PlacedGroup) (i : ℕ) → i < length xs → slice_get xs i ≡ None → ⊥
        within [] i lt none = omega arith
        within (x ∷ xs) zero lt none = cc
        within (x ∷ xs) (suc i) lt none = within xs i (omega arith) none
    by (Some g) there h = told-step old new groups kept k g b there truth h

-- at the end nothing is left
pub told-end : (now all : List KeptGroup) (groups : List PlacedGroup) (kept : List Bool) (k : ℕ) → length kept ≤ k → now ++ comdats_told (drop k groups) (drop k kept) ≡ all → now ≡ all
told-end now all groups kept k over is =
    sym (append-nil now) ∙ ap (λ (ks : List KeptGroup). now ++ ks) (sym (ap (comdats_told (drop k groups)) (at_drop_all (λ bs. bs) kept k over) ∙ none (drop k groups))) ∙ is
  where
    none : (gs : List PlacedGroup) → comdats_told gs [] ≡ []
    none [] = refl
    none (g ∷ gs) = refl

-- Lists of groups as loops make them.
use Rattle.std.proofs.Common.{◌≡◌, ◌+◌, ◌++◌, ◌∙◌, ℕ, zero, suc, Bool, true, false, List, [], ◌∷◌, Some, length, map, cond, take, slice_get, refl, sym, ap, arith, append_assoc}
use Rattle.std.specs.Prelude.{◌&&◌, filter}
use Rattle.std.specs.List.{enumerate_from, flat_map}
use Rattle.std.specs.Option.{option_and_then, option_map_or}
use Rattle.std.proofs.lemmas.Grind.{flat_map-append}
use Rattle.std.proofs.lemmas.List.{append-nil, length-map}
use Rattle.std.proofs.lemmas.List.FromFn.{length-enumerate_from}
use Rattle.std.proofs.lemmas.Option.{same_Some}
use Rattle.link_check_claims.specs.Claims.{claimed_group}
use Rattle.link_check_claims.specs.declared.claim.ClaimedGroup.{ClaimedGroup}
use Rattle.link_check_symbols.proofs.Filing.{next-taken}
use Rattle.link_input.specs.declared.object.SectionGroup.{SectionGroup}
use Rattle.link_input.specs.declared.symbol_entry.SymbolEntry.{SymbolEntry}
use Rattle.link_input.specs.ObjectFile.{ObjectFile}
use Rattle.link_rules.specs.Comdat.{Comdat, PlacedGroup, groups_of, is_kept_among, placed_group}
use Rattle.link_rules.specs.declared.linked.KeptGroup.{KeptGroup}
use Rattle.link_check_groups.specs.Groups.{claims_of, groups_if_loaded, is_loaded_regular}

-- what the first elements give, and what the next one gives
pub flat-grow : {X Y : Type 0} (f : X → List Y) (xs : List X) (i : ℕ) (x : X) (first so_far new : List Y) → slice_get xs i ≡ Some x → so_far ≡ first ++ flat_map f (take i xs)
    → new ≡ so_far ++ f x → new ≡ first ++ flat_map f (take (i + 1) xs)
flat-grow f xs i x first so_far new at is more =
    more ∙ (ap (λ l. l ++ f x) is ∙ (append_assoc first (flat_map f (take i xs)) (f x)
    ∙ ap (λ l. first ++ l) (sym (ap (flat_map f) (next-taken xs i x at) ∙ (flat_map-append f (take i xs) (x ∷ []) ∙ ap (λ l. flat_map f (take i xs) ++ l) (append-nil (f x)))))))

-- an element with its number
pub numbered-at : {X : Type 0} (n : ℕ) (xs : List X) (i : ℕ) (x : X) → slice_get xs i ≡ Some x → slice_get (enumerate_from n xs) i ≡ Some (n + i, x)
numbered-at n [] i x at = absurd cc
numbered-at n (y ∷ ys) zero x at =
    let place : n ≡ n + 0 = omega arith in
    ap (λ (z : _). Some (n, z)) (same_Some y x at) ∙ ap (λ m. Some (m, x)) place
numbered-at n (y ∷ ys) (suc i) x at =
    let place : n + 1 + i ≡ n + suc i = omega arith in
    numbered-at (n + 1) ys i x at ∙ ap (λ m. Some (m, x)) place

-- what a function gives at a place
pub mapped-at : {X Y : Type 0} (f : X → Y) (xs : List X) (i : ℕ) (x : X) → slice_get xs i ≡ Some x → slice_get (map f xs) i ≡ Some (f x)
mapped-at f [] i x at = absurd cc
mapped-at f (y ∷ ys) zero x at = ap (λ z. Some (f z)) (same_Some y x at)
mapped-at f (y ∷ ys) (suc i) x at = mapped-at f ys i x at

-- a group at its place among those of an object
pub group-at : (f : ℕ) (o : ObjectFile) (i : ℕ) (g : SectionGroup) → slice_get o.object.groups i ≡ Some g → slice_get (groups_of (f, o)) i ≡ Some (placed_group f o (i, g))
group-at f o i g at = mapped-at (placed_group f o) (enumerate_from 0 o.object.groups) i (i, g) (numbered-at 0 o.object.groups i g at ∙ ap (λ m. Some (m, g)) zero_add)
  where
    zero_add : 0 + i ≡ i
    zero_add = omega arith

-- what is given of the elements that pass a test
flat-filter : {X Y : Type 0} (test : X → Bool) (f : X → List Y) (xs : List X) → flat_map (λ x. cond (test x) (f x) []) xs ≡ flat_map f (filter test xs)
flat-filter test f [] = refl
flat-filter test f (x ∷ xs) = by (test x) (flat-filter test f xs)
  where
    by : (b : Bool) → flat_map (λ y. cond (test y) (f y) []) xs ≡ flat_map f (filter test xs)
        → cond b (f x) [] ++ flat_map (λ y. cond (test y) (f y) []) xs ≡ flat_map f (cond b (x ∷ filter test xs) (filter test xs))
    by true rest = ap (λ l. f x ++ l) rest
    by false rest = rest

-- the groups of loaded objects, object by object
pub groups-are : (marks : List Bool) (objects : List (ℕ × ObjectFile)) → flat_map (groups_if_loaded marks) objects ≡ flat_map groups_of (filter (is_loaded_regular marks) objects)
groups-are marks objects = flat-filter (is_loaded_regular marks) groups_of objects

-- the kept COMDAT groups among some, as an answer tells them
abbrev pub told : PlacedGroup → KeptGroup
told g = record { object = g.place.0; group = g.place.1; signature = g.signature }

-- what is claimed of some groups
pub claims-are : (comdats : List Comdat) (groups : List PlacedGroup)
    → flat_map (claims_of comdats) groups ≡ map claimed_group (map told (filter (λ g. g.group.is_comdat) (filter (is_kept_among comdats) groups)))
claims-are comdats [] = refl
claims-are comdats (g ∷ gs) = by g.group.is_comdat (is_kept_among comdats g) refl (claims-are comdats gs)
  where
    by : (comdat kept : Bool) → g.group.is_comdat ≡ comdat
        → flat_map (claims_of comdats) gs ≡ map claimed_group (map told (filter (λ x. x.group.is_comdat) (filter (is_kept_among comdats) gs)))
        → cond (comdat && kept) (claimed_group (told g) ∷ []) [] ++ flat_map (claims_of comdats) gs
        ≡ map claimed_group (map told (filter (λ x. x.group.is_comdat) (cond kept (g ∷ filter (is_kept_among comdats) gs) (filter (is_kept_among comdats) gs))))
    by true true is rest = rw is (ap (λ (l : List ClaimedGroup). claimed_group (told g) ∷ l) rest)
    by true false is rest = rest
    by false true is rest = rw is rest
    by false false is rest = rest

-- a group as its object lends it
pub group-lent : (f : ℕ) (o : ObjectFile) (i : ℕ) (g : SectionGroup) (e : SymbolEntry) (signature : List ℕ) → slice_get o.object.groups i ≡ Some g
    → option_and_then (λ x. slice_get o.object.symbols x.signature_symbol) (slice_get o.object.groups i) ≡ Some e → signature ≡ e.name
    → slice_get (groups_of (f, o)) i ≡ Some (record { place = (f, i); signature = signature; group = g })
group-lent f o i g e signature at entry named =
    let there : slice_get o.object.symbols g.signature_symbol ≡ Some e = sym (ap (option_and_then (λ x. slice_get o.object.symbols x.signature_symbol)) at) ∙ entry in
    group-at f o i g at ∙ ap (λ (s : List ℕ). Some (record { place = (f, i); signature = s; group = g })) (ap (λ x. option_map_or (λ y. y.name) x []) there ∙ sym named)

-- the first elements, and the next one
pub list-grow : {X : Type 0} (xs : List X) (i : ℕ) (x : X) (first so_far new : List X) → slice_get xs i ≡ Some x → so_far ≡ first ++ take i xs
    → new ≡ so_far ++ x ∷ [] → new ≡ first ++ take (i + 1) xs
list-grow xs i x first so_far new at is more =
    more ∙ (ap (λ l. l ++ x ∷ []) is ∙ (append_assoc first (take i xs) (x ∷ []) ∙ ap (λ l. first ++ l) (sym (next-taken xs i x at))))

-- an object has as many placed groups as groups
pub groups-count : (f : ℕ) (o : ObjectFile) → length (groups_of (f, o)) ≡ length o.object.groups
groups-count f o = length-map (enumerate_from 0 o.object.groups) (placed_group f o) ∙ length-enumerate_from 0 o.object.groups

-- an object with its place
pub object-at : (objects : List ObjectFile) (i : ℕ) (o : ObjectFile) → slice_get objects i ≡ Some o → slice_get (enumerate_from 0 objects) i ≡ Some (i, o)
object-at objects i o at = numbered-at 0 objects i o at ∙ ap (λ m. Some (m, o)) zero_add
  where
    zero_add : 0 + i ≡ i
    zero_add = omega arith

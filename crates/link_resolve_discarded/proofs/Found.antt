-- The discarded sections of groups that are found by places.
use Rattle.std.proofs.Common.{◌≡◌, ◌<◌, ◌+◌, ◌==◌, ◌||◌, ◌&&◌, ◌∙◌, ◌++◌, ℕ, zero, suc, Bool, true, false, not, if◌then◌else◌, List, [], ◌∷◌, map, Option, Some, None, refl, sym, ap, arith}
use Rattle.std.specs.Prelude.{filter, slice_get}
use Rattle.std.specs.Option.{option_map_or, option_and_then}
use Rattle.std.specs.List.{flat_map, enumerate_from, list_any, zip}
use Rattle.std.proofs.lemmas.Bool.{eq-eqb, ne_eqb}
use Rattle.std.proofs.lemmas.Grind.{flat_map-append}
use Rattle.std.proofs.lemmas.List.Folds.{list_any-append}
use Rattle.link_input.specs.declared.object.SectionGroup.{SectionGroup}
use Rattle.link_rules.specs.Places.{contains}
use Rattle.link_rules.specs.Comdat.{PlacedGroup, sections_in, is_discarded_by}
use Rattle.link_resolve_comdat.specs.ObjectGroups.{ObjectGroups, sections_of, is_discarded}
use Rattle.link_resolve_comdat.specs.Selected.{SelectedGroups}
use Rattle.link_resolve_comdat.proofs.Truth.{or-false}
use Rattle.link_resolve_discarded.specs.Indexed.{IndexedGroups, groups_at, index_at}
use Rattle.link_resolve_discarded.specs.Discarded.{unsigned_group, lost_groups, discarded_at, discarded_in}

-- of two lists of groups
pub discarded-append : (xs ys : List PlacedGroup) (f section : ℕ) → is_discarded_by (xs ++ ys) f section ≡ (is_discarded_by xs f section || is_discarded_by ys f section)
discarded-append xs ys f section =
    ap (contains section) (flat_map-append (sections_in f) xs ys) ∙ list_any-append (λ n. n == section) (flat_map (sections_in f) xs) (flat_map (sections_in f) ys)

-- the header behind the members, or before them
header-last : (section : ℕ) (g : SectionGroup) → contains section (g.index ∷ g.members) ≡ contains section (sections_of g)
header-last section g = by (g.index == section) (contains section g.members) ∙ sym (list_any-append (λ n. n == section) g.members (g.index ∷ []))
  where
    by : (a b : Bool) → (a || b) ≡ (b || (a || false))
    by true true = refl
    by true false = refl
    by false true = refl
    by false false = refl

-- the groups that aren't kept, from one on
unfoldable lost_from : ℕ → ℕ → List (SectionGroup × Bool) → List PlacedGroup
lost_from f n groups = map (unsigned_group f) (filter (λ g. not g.1.1) (enumerate_from n groups))

-- their sections are those of the object
own-sections : (f section n : ℕ) (groups : List (SectionGroup × Bool)) → is_discarded_by (lost_from f n groups) f section ≡ list_any (λ g. not g.1 && contains section (sections_of g.0)) groups
unfolding lost_from
own-sections f section n [] = refl
own-sections f section n (g ∷ gs) = by g.1 (own-sections f section (n + 1) gs)
  where
    later : List PlacedGroup
    later = lost_from f (n + 1) gs

    others : Bool
    others = list_any (λ x. not x.1 && contains section (sections_of x.0)) gs

    own : contains section (sections_in f (unsigned_group f (n, g))) ≡ contains section (sections_of g.0)
    own = ap (λ (b : Bool). contains section (if b then g.0.index ∷ g.0.members else [])) (eq-eqb f f refl) ∙ header-last section g.0

    by : (b : Bool) → is_discarded_by later f section ≡ others
        → is_discarded_by (map (unsigned_group f) (filter (λ x. not x.1.1) ((n, (g.0, b)) ∷ enumerate_from (n + 1) gs))) f section ≡ ((not b && contains section (sections_of g.0)) || others)
    by true rest = rest
    by false rest =
        list_any-append (λ m. m == section) (sections_in f (unsigned_group f (n, g))) (flat_map (sections_in f) later)
        ∙ ap (λ (b : Bool). b || is_discarded_by later f section) own ∙ ap (λ (b : Bool). contains section (sections_of g.0) || b) rest

-- another object has none of them
other-sections : (f h section n : ℕ) (groups : List (SectionGroup × Bool)) → (f == h) ≡ false → is_discarded_by (lost_from f n groups) h section ≡ false
unfolding lost_from
other-sections f h section n [] other = refl
other-sections f h section n (g ∷ gs) other = by g.1 (other-sections f h section (n + 1) gs other)
  where
    later : List PlacedGroup
    later = lost_from f (n + 1) gs

    by : (b : Bool) → is_discarded_by later h section ≡ false
        → is_discarded_by (map (unsigned_group f) (filter (λ x. not x.1.1) ((n, (g.0, b)) ∷ enumerate_from (n + 1) gs))) h section ≡ false
    by true rest = rest
    by false rest = ap (λ (b : Bool). contains section ((if b then g.0.index ∷ g.0.members else []) ++ flat_map (sections_in h) later)) other ∙ rest

-- what is discarded at a place of a column
one-own : (groups : SelectedGroups) (f section : ℕ) (index : Option ℕ) → is_discarded_by (discarded_at groups (f, index)) f section
    ≡ option_map_or (λ o. is_discarded o section) (option_and_then (slice_get groups.objects) index) false
unfolding lost_from
one-own groups f section index = by (option_and_then (slice_get groups.objects) index)
  where
    by : (o : Option ObjectGroups) → is_discarded_by (option_map_or (lost_groups f) o []) f section ≡ option_map_or (λ o. is_discarded o section) o false
    by None = refl
    by (Some o) = own-sections f section 0 (zip o.groups o.kept)

-- nothing of another place
one-other : (groups : SelectedGroups) (f h section : ℕ) (index : Option ℕ) → (f == h) ≡ false → is_discarded_by (discarded_at groups (f, index)) h section ≡ false
unfolding lost_from
one-other groups f h section index other = by (option_and_then (slice_get groups.objects) index)
  where
    by : (o : Option ObjectGroups) → is_discarded_by (option_map_or (lost_groups f) o []) h section ≡ false
    by None = refl
    by (Some o) = other-sections f h section 0 (zip o.groups o.kept) other

-- what is discarded at the places of a column, from one on
unfoldable column_from : SelectedGroups → ℕ → List (Option ℕ) → List PlacedGroup
column_from groups n indices = flat_map (discarded_at groups) (enumerate_from n indices)

-- nothing of a place before them
found-below : (groups : SelectedGroups) (h section n : ℕ) (indices : List (Option ℕ)) → h < n → is_discarded_by (column_from groups n indices) h section ≡ false
unfolding column_from
found-below groups h section n [] lt = refl
found-below groups h section n (i ∷ is) lt =
    let other : (n == h) ≡ false = ne_eqb n h (λ same. omega arith) in
    discarded-append (discarded_at groups (n, i)) (column_from groups (n + 1) is) h section
    ∙ rw (one-other groups n h section i other) (found-below groups h section (n + 1) is (omega arith))

-- at each of them what its groups say
found-at : (groups : SelectedGroups) (k section n h : ℕ) (indices : List (Option ℕ)) → n + k ≡ h → is_discarded_by (column_from groups n indices) h section
    ≡ option_map_or (λ o. is_discarded o section) (option_and_then (slice_get groups.objects) (index_at indices k)) false
unfolding column_from
found-at groups k section n h [] place = refl
found-at groups zero section n h (i ∷ is) place =
    let same : h ≡ n = omega (arith, place) in
    discarded-append (discarded_at groups (n, i)) (column_from groups (n + 1) is) h section
    ∙ ap (λ (b : Bool). is_discarded_by (discarded_at groups (n, i)) h section || b) (found-below groups h section (n + 1) is (omega arith))
    ∙ or-false (is_discarded_by (discarded_at groups (n, i)) h section) ∙ ap (λ m. is_discarded_by (discarded_at groups (n, i)) m section) same ∙ one-own groups n section i
found-at groups (suc k) section n h (i ∷ is) place =
    let other : (n == h) ≡ false = ne_eqb n h (λ same. omega (arith, place)) in
    discarded-append (discarded_at groups (n, i)) (column_from groups (n + 1) is) h section
    ∙ rw (one-other groups n h section i other) (found-at groups k section (n + 1) h is (omega (arith, place)))

-- a section is discarded where the groups of the object at its place say so
pub discarded-found : (g : IndexedGroups) (f section : ℕ) → is_discarded_by (discarded_in g) f section ≡ option_map_or (λ o. is_discarded o section) (groups_at g f) false
unfolding column_from
discarded-found g f section = found-at g.groups f section 0 f g.indices (omega arith)

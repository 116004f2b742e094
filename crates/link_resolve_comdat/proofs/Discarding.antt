-- The discarded sections of an object are those that a link discards.
use Rattle.std.proofs.Common.{◌≡◌, ◌≤◌, ◌+◌, ◌==◌, ◌||◌, ◌&&◌, ℕ, zero, suc, Bool, true, false, cond, not, if◌then◌else◌, List, [], ◌∷◌, map, Some, refl, sym, ap, subst, ◌∙◌, arith}
use Rattle.std.specs.Prelude.{filter, slice_get}
use Rattle.std.specs.List.{flat_map, enumerate_from, list_any, zip}
use Rattle.std.proofs.lemmas.Bool.{eq-eqb, ne_eqb}
use Rattle.std.proofs.lemmas.Option.{same_Some}
use Rattle.std.proofs.lemmas.List.Folds.{list_any-append}
use Rattle.link_input.specs.declared.object.SectionGroup.{SectionGroup}
use Rattle.link_input.specs.ObjectFile.{ObjectFile}
use Rattle.link_rules.specs.Places.{contains}
use Rattle.link_rules.specs.Comdat.{PlacedGroup, groups_of, placed_group, sections_in, is_discarded_by}
use Rattle.link_resolve_comdat.specs.ObjectGroups.{sections_of}
use Rattle.link_resolve_comdat.proofs.Truth.{or-false}
use Rattle.link_resolve_comdat.proofs.Rising.{AreFrom, AreRising, placed}

-- some group that fails the test has the section, as one of this object's
lost : (PlacedGroup → Bool) → ℕ → ℕ → List PlacedGroup → Bool
lost kept f section groups = list_any (λ g. not (kept g) && contains section (sections_in f g)) groups

-- a section that a link discards
discarded-is : (kept : PlacedGroup → Bool) (f section : ℕ) (groups : List PlacedGroup) → is_discarded_by (filter (λ g. not (kept g)) groups) f section ≡ lost kept f section groups
unfolding lost
discarded-is kept f section [] = refl
discarded-is kept f section (g ∷ gs) = by (kept g) (discarded-is kept f section gs)
  where
    by : (b : Bool) → contains section (flat_map (sections_in f) (filter (λ x. not (kept x)) gs)) ≡ list_any (λ x. not (kept x) && contains section (sections_in f x)) gs
        → contains section (flat_map (sections_in f) (cond (not b) (g ∷ filter (λ x. not (kept x)) gs) (filter (λ x. not (kept x)) gs)))
        ≡ ((not b && contains section (sections_in f g)) || list_any (λ x. not (kept x) && contains section (sections_in f x)) gs)
    by true rest = rest
    by false rest = list_any-append (λ n. n == section) (sections_in f g) (flat_map (sections_in f) (filter (λ x. not (kept x)) gs)) ∙ ap (λ (b : Bool). contains section (sections_in f g) || b) rest

-- those of another object have none of its sections
lost-other : (kept : PlacedGroup → Bool) (f section : ℕ) (o : ℕ × ObjectFile) (n : ℕ) (groups : List SectionGroup) → (o.0 == f) ≡ false → lost kept f section (placed o n groups) ≡ false
unfolding lost placed
lost-other kept f section o n [] other = refl
lost-other kept f section o n (g ∷ gs) other = rw other (by (not (kept (placed_group o.0 o.1 (n, g)))) (lost-other kept f section o (n + 1) gs other))
  where
    by : (b : Bool) → {r : Bool} → r ≡ false → ((b && false) || r) ≡ false
    by true e = e
    by false e = e

-- the header behind the members, or before them
header-last : (section : ℕ) (g : SectionGroup) → contains section (g.index ∷ g.members) ≡ contains section (sections_of g)
header-last section g = by (g.index == section) (contains section g.members) ∙ sym (list_any-append (λ n. n == section) g.members (g.index ∷ []))
  where
    by : (a b : Bool) → (a || b) ≡ (b || (a || false))
    by true true = refl
    by true false = refl
    by false true = refl
    by false false = refl

-- those of the object itself
lost-own : (kept : PlacedGroup → Bool) (section : ℕ) (o : ℕ × ObjectFile) (n : ℕ) (groups : List SectionGroup)
    → lost kept o.0 section (placed o n groups) ≡ list_any (λ g. not g.1 && contains section (sections_of g.0)) (zip groups (map kept (placed o n groups)))
unfolding lost placed
lost-own kept section o n [] = refl
lost-own kept section o n (g ∷ gs) =
    let own : (o.0 == o.0) ≡ true = eq-eqb o.0 o.0 refl in
    let k = kept (placed_group o.0 o.1 (n, g)) in
    ap (λ (b : Bool). (not k && contains section (if b then g.index ∷ g.members else [])) || list_any (λ x. not (kept x) && contains section (sections_in o.0 x)) (map (placed_group o.0 o.1) (enumerate_from (n + 1) gs))) own
    ∙ ap (λ (b : Bool). (not k && b) || list_any (λ x. not (kept x) && contains section (sections_in o.0 x)) (map (placed_group o.0 o.1) (enumerate_from (n + 1) gs))) (header-last section g)
    ∙ ap (λ (b : Bool). (not k && contains section (sections_of g)) || b) (lost-own kept section o (n + 1) gs)

-- those of objects behind it
lost-behind : (kept : PlacedGroup → Bool) (f section : ℕ) (objects : List (ℕ × ObjectFile)) → AreFrom (f + 1) objects → lost kept f section (flat_map groups_of objects) ≡ false
unfolding lost placed AreFrom
lost-behind kept f section [] all = refl
lost-behind kept f section (o ∷ os) all =
    let other : (o.0 == f) ≡ false = ne_eqb o.0 f (λ same. omega (arith, all.0)) in
    list_any-append (λ g. not (kept g) && contains section (sections_in f g)) (groups_of o) (flat_map groups_of os)
    ∙ rw (lost-other kept f section o 0 o.1.object.groups other) (lost-behind kept f section os all.1)

place_above : (n : ℕ) (objects : List (ℕ × ObjectFile)) (i : ℕ) (o : ℕ × ObjectFile) → AreFrom n objects → slice_get objects i ≡ Some o → n ≤ o.0
unfolding AreFrom
place_above n [] i o all there = cc
place_above n (p ∷ ps) zero o all there = subst (λ (x : ℕ × ObjectFile). n ≤ x.0) (same_Some p o there) all.0
place_above n (p ∷ ps) (suc i) o all there = place_above n ps i o all.1 there

-- of all groups only those of the object count
lost-at : (kept : PlacedGroup → Bool) (section : ℕ) (objects : List (ℕ × ObjectFile)) (i : ℕ) (o : ℕ × ObjectFile) → AreRising objects → slice_get objects i ≡ Some o
    → lost kept o.0 section (flat_map groups_of objects) ≡ list_any (λ g. not g.1 && contains section (sections_of g.0)) (zip o.1.object.groups (map kept (groups_of o)))
unfolding lost placed AreRising
lost-at kept section [] i o rise there = cc
lost-at kept section (p ∷ ps) zero o rise there = subst Own (same_Some p o there) own
  where
    Own : ℕ × ObjectFile → Type 0
    Own x = lost kept x.0 section (flat_map groups_of (p ∷ ps)) ≡ list_any (λ g. not g.1 && contains section (sections_of g.0)) (zip x.1.object.groups (map kept (groups_of x)))

    own : Own p
    own = list_any-append (λ g. not (kept g) && contains section (sections_in p.0 g)) (groups_of p) (flat_map groups_of ps)
        ∙ ap (λ (b : Bool). lost kept p.0 section (groups_of p) || b) (lost-behind kept p.0 section ps rise.0)
        ∙ or-false (lost kept p.0 section (groups_of p)) ∙ lost-own kept section p 0 p.1.object.groups
lost-at kept section (p ∷ ps) (suc i) o rise there =
    let above = place_above (p.0 + 1) ps i o rise.0 there in
    let other : (p.0 == o.0) ≡ false = ne_eqb p.0 o.0 (λ same. omega arith) in
    list_any-append (λ g. not (kept g) && contains section (sections_in o.0 g)) (groups_of p) (flat_map groups_of ps)
    ∙ ap (λ (b : Bool). b || lost kept o.0 section (flat_map groups_of ps)) (lost-other kept o.0 section p 0 p.1.object.groups other)
    ∙ lost-at kept section ps i o rise.1 there

-- what is discarded of an object is what a link discards of it
pub discarded-of : (kept : PlacedGroup → Bool) (section : ℕ) (objects : List (ℕ × ObjectFile)) (i : ℕ) (o : ℕ × ObjectFile) → AreRising objects → slice_get objects i ≡ Some o
    → list_any (λ g. not g.1 && contains section (sections_of g.0)) (zip o.1.object.groups (map kept (groups_of o)))
    ≡ is_discarded_by (filter (λ g. not (kept g)) (flat_map groups_of objects)) o.0 section
discarded-of kept section objects i o rise there = sym (discarded-is kept o.0 section (flat_map groups_of objects) ∙ lost-at kept section objects i o rise there)

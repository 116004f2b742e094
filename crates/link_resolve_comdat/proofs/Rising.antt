-- Objects whose places rise.
use Rattle.std.proofs.Common.{◌≡◌, ◌<◌, ◌≤◌, ◌+◌, ℕ, zero, suc, Bool, true, false, cond, List, [], ◌∷◌, ◌++◌, map, length, arith}
use Rattle.std.specs.Prelude.{filter, slice_index}
use Rattle.std.specs.List.{flat_map, enumerate_from}
use Rattle.std.specs.List.Sorted.{IsStrictlyIncreasing}
use Rattle.link_input.specs.declared.object.SectionGroup.{SectionGroup}
use Rattle.link_input.specs.ObjectFile.{ObjectFile}
use Rattle.link_rules.specs.Comdat.{GroupPlace, PlacedGroup, is_before, groups_of, placed_group}
use Rattle.link_resolve_comdat.proofs.FirstMet.{AreBehind, AreInOrder}

-- the objects have places from a number on
unfoldable pub AreFrom : ℕ → List (ℕ × ObjectFile) → Type 0
AreFrom n [] = Unit {0}
AreFrom n (o ∷ os) = (n ≤ o.0) × AreFrom n os

-- the places rise
unfoldable pub AreRising : List (ℕ × ObjectFile) → Type 0
AreRising [] = Unit {0}
AreRising (o ∷ os) = AreFrom (o.0 + 1) os × AreRising os

from_later : (m n : ℕ) (objects : List (ℕ × ObjectFile)) → m ≤ n → AreFrom n objects → AreFrom m objects
unfolding AreFrom
from_later m n [] le all = tt
from_later m n (o ∷ os) le all = (omega (arith, all.0), from_later m n os le all.1)

tail_rises : (x : ℕ) (xs : List ℕ) → IsStrictlyIncreasing (x ∷ xs) → IsStrictlyIncreasing xs
tail_rises x xs rise = λ k lt.
    let next : suc k + 1 ≡ suc (k + 1) = omega arith in
    rw next at (rise (suc k) (omega arith))

-- the next place is above, and so are those behind it
from_rising : (o : ℕ × ObjectFile) (objects : List (ℕ × ObjectFile)) → IsStrictlyIncreasing (map (λ x. x.0) (o ∷ objects)) → AreFrom (o.0 + 1) objects
unfolding AreFrom
from_rising o [] rise = tt
from_rising o (p ∷ ps) rise =
    let next : o.0 < p.0 = rise 0 (omega arith) in
    let later = from_rising p ps (tail_rises o.0 (map (λ x. x.0) (p ∷ ps)) rise) in
    (omega arith, from_later (o.0 + 1) (p.0 + 1) ps (omega arith) later)

-- places that rise one by one rise
pub rising : (objects : List (ℕ × ObjectFile)) → IsStrictlyIncreasing (map (λ o. o.0) objects) → AreRising objects
unfolding AreRising
rising [] rise = tt
rising (o ∷ os) rise = (from_rising o os rise, rising os (tail_rises o.0 (map (λ x. x.0) os) rise))

-- what stands in a filter of objects with places from a number on
from-filter : (p : ℕ × ObjectFile → Bool) (n : ℕ) (objects : List ObjectFile) → AreFrom n (filter p (enumerate_from n objects))
unfolding AreFrom
from-filter p n [] = tt
from-filter p n (o ∷ os) = by (p (n, o)) (from_later n (n + 1) (filter p (enumerate_from (n + 1) os)) (omega arith) (from-filter p (n + 1) os))
  where
    by : (b : Bool) → AreFrom n (filter p (enumerate_from (n + 1) os)) → AreFrom n (cond b ((n, o) ∷ filter p (enumerate_from (n + 1) os)) (filter p (enumerate_from (n + 1) os)))
    by true rest = (omega arith, rest)
    by false rest = rest

-- some of a list of objects, each with its place, rise
pub rising-filter : (p : ℕ × ObjectFile → Bool) (n : ℕ) (objects : List ObjectFile) → AreRising (filter p (enumerate_from n objects))
unfolding AreRising
rising-filter p n [] = tt
rising-filter p n (o ∷ os) = by (p (n, o)) (rising-filter p (n + 1) os)
  where
    by : (b : Bool) → AreRising (filter p (enumerate_from (n + 1) os)) → AreRising (cond b ((n, o) ∷ filter p (enumerate_from (n + 1) os)) (filter p (enumerate_from (n + 1) os)))
    by true rest = (from-filter p (n + 1) os, rest)
    by false rest = rest

-- places that rise, rise one by one
pub one-by-one : (objects : List (ℕ × ObjectFile)) → AreRising objects → IsStrictlyIncreasing (map (λ o. o.0) objects)
unfolding AreRising AreFrom
one-by-one [] rise = λ k lt. absurd (omega arith)
one-by-one (o ∷ []) rise = λ k lt. absurd (omega arith)
one-by-one (o ∷ p ∷ ps) rise = λ k lt. at k lt (one-by-one (p ∷ ps) rise.1)
  where
    at : (k : ℕ) → k + 1 < length (map (λ (x : ℕ × ObjectFile). x.0) (o ∷ p ∷ ps)) → IsStrictlyIncreasing (map (λ (x : ℕ × ObjectFile). x.0) (p ∷ ps))
        → slice_index (map (λ (x : ℕ × ObjectFile). x.0) (o ∷ p ∷ ps)) k < slice_index (map (λ (x : ℕ × ObjectFile). x.0) (o ∷ p ∷ ps)) (k + 1)
    at zero lt later = omega (arith, rise.0.0)
    at (suc k) lt later =
        let next : suc k + 1 ≡ suc (k + 1) = omega arith in
        rw next (later k (omega arith))

-- ---- their groups

behind-append : (p : GroupPlace) (xs ys : List PlacedGroup) → AreBehind p xs → AreBehind p ys → AreBehind p (xs ++ ys)
unfolding AreBehind
behind-append p [] ys first second = second
behind-append p (x ∷ xs) ys first second = (first.0, behind-append p xs ys first.1 second)

-- each group of some comes before each of others
AllBefore : List PlacedGroup → List PlacedGroup → Type 0
AllBefore [] ys = Unit {0}
AllBefore (x ∷ xs) ys = AreBehind x.place ys × AllBefore xs ys

order-append : (xs ys : List PlacedGroup) → AreInOrder xs → AreInOrder ys → AllBefore xs ys → AreInOrder (xs ++ ys)
unfolding AreInOrder AllBefore
order-append [] ys first second between = second
order-append (x ∷ xs) ys first second between = (behind-append x.place xs ys first.0 between.0, order-append xs ys first.1 second between.1)

-- the groups of one object, from one on
unfoldable pub placed : ℕ × ObjectFile → ℕ → List SectionGroup → List PlacedGroup
placed o n groups = map (placed_group o.0 o.1) (enumerate_from n groups)

place_before : (f m n : ℕ) → m < n → is_before (f, m) (f, n) ≡ true
place_before f m n lt = grind arith

object_before : (f g m n : ℕ) → f < g → is_before (f, m) (g, n) ≡ true
object_before f g m n lt = grind arith

behind-placed : (o : ℕ × ObjectFile) (m n : ℕ) (groups : List SectionGroup) → m < n → AreBehind (o.0, m) (placed o n groups)
unfolding placed AreBehind
behind-placed o m n [] lt = tt
behind-placed o m n (g ∷ gs) lt = (place_before o.0 m n lt, behind-placed o m (n + 1) gs (omega arith))

order-placed : (o : ℕ × ObjectFile) (n : ℕ) (groups : List SectionGroup) → AreInOrder (placed o n groups)
unfolding placed AreInOrder
order-placed o n [] = tt
order-placed o n (g ∷ gs) = (behind-placed o n (n + 1) gs (omega arith), order-placed o (n + 1) gs)

-- the groups of an object come behind a place of an earlier one
behind-object : (f m : ℕ) (o : ℕ × ObjectFile) (n : ℕ) (groups : List SectionGroup) → f < o.0 → AreBehind (f, m) (placed o n groups)
unfolding placed AreBehind
behind-object f m o n [] lt = tt
behind-object f m o n (g ∷ gs) lt = (object_before f o.0 m n lt, behind-object f m o (n + 1) gs lt)

behind-objects : (f m : ℕ) (objects : List (ℕ × ObjectFile)) → AreFrom (f + 1) objects → AreBehind (f, m) (flat_map groups_of objects)
unfolding placed AreBehind AreFrom
behind-objects f m [] all = tt
behind-objects f m (o ∷ os) all =
    behind-append (f, m) (groups_of o) (flat_map groups_of os) (behind-object f m o 0 o.1.object.groups (omega (arith, all.0))) (behind-objects f m os all.1)

all-before : (o : ℕ × ObjectFile) (n : ℕ) (groups : List SectionGroup) (objects : List (ℕ × ObjectFile)) → AreFrom (o.0 + 1) objects → AllBefore (placed o n groups) (flat_map groups_of objects)
unfolding placed AllBefore
all-before o n [] objects all = tt
all-before o n (g ∷ gs) objects all = (behind-objects o.0 n objects all, all-before o (n + 1) gs objects all)

-- the groups of objects whose places rise stand in order
pub groups-in-order : (objects : List (ℕ × ObjectFile)) → AreRising objects → AreInOrder (flat_map groups_of objects)
unfolding placed AreRising AreInOrder
groups-in-order [] rise = tt
groups-in-order (o ∷ os) rise =
    order-append (groups_of o) (flat_map groups_of os) (order-placed o 0 o.1.object.groups) (groups-in-order os rise.1) (all-before o 0 o.1.object.groups os rise.0)

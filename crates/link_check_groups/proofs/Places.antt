-- The groups of loaded objects stand in the order of their places.
use Rattle.std.proofs.Common.{◌≡◌, ◌+◌, ◌<◌, ◌++◌, ℕ, Bool, true, false, List, [], ◌∷◌, map, cond, refl, sym, ap, subst, arith}
use Rattle.std.specs.Prelude.{filter}
use Rattle.std.specs.List.{enumerate_from, flat_map}
use Rattle.link_input.specs.declared.object.SectionGroup.{SectionGroup}
use Rattle.link_input.specs.ObjectFile.{ObjectFile}
use Rattle.link_rules.specs.Comdat.{GroupPlace, PlacedGroup, groups_of, is_before, placed_group}
use Rattle.link_check_groups.specs.Groups.{groups_among, is_loaded_regular}

-- a place comes before each of these groups
unfoldable pub AreBehind : GroupPlace → List PlacedGroup → Type 0
AreBehind p [] = Unit {0}
AreBehind p (g ∷ gs) = (is_before p g.place ≡ true) × AreBehind p gs

-- each group comes before all that follow
unfoldable pub AreOrdered : List PlacedGroup → Type 0
AreOrdered [] = Unit {0}
AreOrdered (g ∷ gs) = AreBehind g.place gs × AreOrdered gs

-- groups behind a place, and others
behind-append : (p : GroupPlace) (xs ys : List PlacedGroup) → AreBehind p xs → AreBehind p ys → AreBehind p (xs ++ ys)
unfolding AreBehind
behind-append p [] ys first rest = rest
behind-append p (x ∷ xs) ys first rest = (first.0, behind-append p xs ys first.1 rest)

-- a lesser object comes first, and of one object the lesser group
lesser-object : (f g m n : ℕ) → f < g → is_before (f, m) (g, n) ≡ true
lesser-object f g m n lt = grind arith

lesser-group : (f m n : ℕ) → m < n → is_before (f, m) (f, n) ≡ true
lesser-group f m n lt = grind arith

-- the groups of an object, from a number on
abbrev numbered : ℕ → ObjectFile → ℕ → List SectionGroup → List PlacedGroup
numbered f o n gs = map (placed_group f o) (enumerate_from n gs)

later-groups : (f : ℕ) (o : ObjectFile) (m n : ℕ) (gs : List SectionGroup) → m < n → AreBehind (f, m) (numbered f o n gs)
unfolding AreBehind
later-groups f o m n [] lt = tt
later-groups f o m n (g ∷ gs) lt = (lesser-group f m n lt, later-groups f o m (n + 1) gs (omega arith))

other-groups : (p : GroupPlace) (f : ℕ) (o : ObjectFile) (n : ℕ) (gs : List SectionGroup) → p.0 < f → AreBehind p (numbered f o n gs)
unfolding AreBehind
other-groups p f o n [] lt = tt
other-groups p f o n (g ∷ gs) lt = (lesser-object p.0 f p.1 n lt, other-groups p f o (n + 1) gs lt)

-- the groups of those of some objects that pass a test
abbrev passing : (ℕ × ObjectFile → Bool) → ℕ → List ObjectFile → List PlacedGroup
passing test n os = flat_map groups_of (filter test (enumerate_from n os))

-- one object more in front, by whether it passes
abbrev with-head : Bool → ℕ × ObjectFile → List PlacedGroup → List PlacedGroup
with-head b o rest = cond b (groups_of o ++ rest) rest

head-is : (test : ℕ × ObjectFile → Bool) (n : ℕ) (o : ObjectFile) (os : List ObjectFile) (b : Bool) → test (n, o) ≡ b → passing test n (o ∷ os) ≡ with-head b (n, o) (passing test (n + 1) os)
head-is test n o os true is = ap (λ b. flat_map groups_of (cond b ((n, o) ∷ filter test (enumerate_from (n + 1) os)) (filter test (enumerate_from (n + 1) os)))) is
head-is test n o os false is = ap (λ b. flat_map groups_of (cond b ((n, o) ∷ filter test (enumerate_from (n + 1) os)) (filter test (enumerate_from (n + 1) os)))) is

later-objects : (test : ℕ × ObjectFile → Bool) (p : GroupPlace) (n : ℕ) (os : List ObjectFile) → p.0 < n → AreBehind p (passing test n os)
unfolding AreBehind
later-objects test p n [] lt = tt
later-objects test p n (o ∷ os) lt = by (test (n, o)) refl (later-objects test p (n + 1) os (omega arith))
  where
    by : (b : Bool) → test (n, o) ≡ b → AreBehind p (passing test (n + 1) os) → AreBehind p (passing test n (o ∷ os))
    by true is rest = subst (AreBehind p) (sym (head-is test n o os true is))
        (behind-append p (groups_of (n, o)) (passing test (n + 1) os) (other-groups p n o 0 o.object.groups lt) rest)
    by false is rest = subst (AreBehind p) (sym (head-is test n o os false is)) rest

-- groups of an object before what comes behind all of them
object-first : (f : ℕ) (o : ObjectFile) (n : ℕ) (gs : List SectionGroup) (rest : List PlacedGroup) → ((m : ℕ) → AreBehind (f, m) rest) → AreOrdered rest → AreOrdered (numbered f o n gs ++ rest)
unfolding AreOrdered
object-first f o n [] rest behind ordered = ordered
object-first f o n (g ∷ gs) rest behind ordered = (
  behind-append (f, n) (numbered f o (n + 1) gs) rest (later-groups f o n (n + 1) gs (omega arith)) (behind n),
  object-first f o (n + 1) gs rest behind ordered,
)

passing-ordered : (test : ℕ × ObjectFile → Bool) (n : ℕ) (os : List ObjectFile) → AreOrdered (passing test n os)
unfolding AreOrdered
passing-ordered test n [] = tt
passing-ordered test n (o ∷ os) = by (test (n, o)) refl (passing-ordered test (n + 1) os)
  where
    by : (b : Bool) → test (n, o) ≡ b → AreOrdered (passing test (n + 1) os) → AreOrdered (passing test n (o ∷ os))
    by true is rest = subst AreOrdered (sym (head-is test n o os true is))
        (object-first n o 0 o.object.groups (passing test (n + 1) os) (λ m. later-objects test (n, m) (n + 1) os (omega arith)) rest)
    by false is rest = subst AreOrdered (sym (head-is test n o os false is)) rest

-- the groups of loaded objects stand in order
pub groups-ordered : (objects : List ObjectFile) (marks : List Bool) → AreOrdered (groups_among objects marks)
groups-ordered objects marks = passing-ordered (is_loaded_regular marks) 0 objects

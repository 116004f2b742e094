-- Sections of discarded groups, as a set of pairs keeps them.
use Rattle.std.proofs.Common.{◌≡◌, ◌+◌, ◌∙◌, ◌&&◌, ◌||◌, ℕ, Bool, true, false, List, [], ◌∷◌, Some, cond, take, slice_get, refl, sym, ap, arith}
use Rattle.std.specs.Prelude.{◌==◌, filter, not}
use Rattle.std.specs.BTreeMap.{is_at}
use Rattle.std.specs.BTreeSet as tree
use Rattle.std.specs.BTreeSet.{BTreeSet}
use Rattle.std.specs.Cmp.{tied_then}
use Rattle.std.specs.List.{flat_map}
use Rattle.std.specs.Ordering.{is_eq, nat_cmp}
use Rattle.std.proofs.lemmas.Grind.{common_steps, flat_map-append}
use Rattle.std.proofs.lemmas.List.{append-nil}
use Rattle.std.proofs.lemmas.List.Elements.{filter-append}
use Rattle.std.proofs.lemmas.List.Folds.{list_any-append}
use Rattle.link_check_symbols.proofs.Filing.{next-taken}
use Rattle.link_rules.specs.Comdat.{Comdat, PlacedGroup, is_discarded_by, is_kept_among, sections_in}
use Rattle.link_rules.specs.Places.{contains}
use Rattle.link_check_groups.specs.Sections.{is_in, is_lost_with, pair_cmp}

-- numbers tie where they are the same
number-test : (a b : ℕ) → is_eq (nat_cmp a b) ≡ (a == b)
number-test a b = grind (arith, common_steps)

-- pairs tie where both numbers are the same
pair-test : (a b f n : ℕ) → is_at (pair_cmp (a, b)) (f, n) ≡ (a == f && b == n)
pair-test a b f n = sym (tied_then (nat_cmp a f) (nat_cmp b n)) ∙ (ap (λ x. x && is_eq (nat_cmp b n)) (number-test a f) ∙ ap (λ x. a == f && x) (number-test b n))

-- one section more
pub section-added : (old new : BTreeSet (ℕ × ℕ)) (object section : ℕ) → tree.Updates pair_cmp old new (object, section) true
    → (f n : ℕ) → is_in new f n ≡ (is_in old f n || (object == f && section == n))
section-added old new object section updates f n =
    updates.0 (f, n) ∙ (ap (λ b. cond b true (is_in old f n)) (pair-test object section f n) ∙ by (object == f && section == n) (is_in old f n))
  where
    by : (b had : Bool) → cond b true had ≡ (had || b)
    by true true = refl
    by true false = refl
    by false true = refl
    by false false = refl

-- a number among the first ones, or the next
contains-next : (n : ℕ) (xs : List ℕ) (i x : ℕ) → slice_get xs i ≡ Some x → contains n (take (i + 1) xs) ≡ (contains n (take i xs) || x == n)
contains-next n xs i x at = ap (contains n) (next-taken xs i x at) ∙ (list_any-append (λ y. y == n) (take i xs) (x ∷ []) ∙ by (contains n (take i xs)) (x == n))
  where
    by : (a b : Bool) → (a || (b || false)) ≡ (a || b)
    by true b = refl
    by false true = refl
    by false false = refl

-- the first sections of an object, and the next one
pub sections-grow : (first had new : Bool) (object f n : ℕ) (xs : List ℕ) (i x : ℕ) → slice_get xs i ≡ Some x → had ≡ (first || (object == f && contains n (take i xs)))
    → new ≡ (had || (object == f && x == n)) → new ≡ (first || (object == f && contains n (take (i + 1) xs)))
sections-grow first had new object f n xs i x at is more =
    more ∙ (ap (λ b. b || (object == f && x == n)) is ∙ (by first (object == f) (contains n (take i xs)) (x == n) ∙ sym (ap (λ b. first || (object == f && b)) (contains-next n xs i x at))))
  where
    by : (a o c m : Bool) → ((a || (o && c)) || (o && m)) ≡ (a || (o && (c || m)))
    by true o c m = refl
    by false true c m = refl
    by false false c m = refl

-- the header of a group, and then its members
pub group-added : (g : PlacedGroup) (f n : ℕ) (first middle new : Bool) → middle ≡ (first || (g.place.0 == f && g.group.index == n))
    → new ≡ (middle || (g.place.0 == f && contains n g.group.members)) → new ≡ (first || contains n (sections_in f g))
group-added g f n first middle new header members =
    members ∙ (ap (λ b. b || (g.place.0 == f && contains n g.group.members)) header ∙ by first (g.place.0 == f))
  where
    by : (a o : Bool) → ((a || (o && g.group.index == n)) || (o && contains n g.group.members)) ≡ (a || contains n (cond o (g.group.index ∷ g.group.members) []))
    by true o = refl
    by false true = refl
    by false false = refl

-- the discarded groups among the first ones, and the next one
pub discarded-grow : (comdats : List Comdat) (groups : List PlacedGroup) (i : ℕ) (g : PlacedGroup) (f n : ℕ) (had new : Bool) → slice_get groups i ≡ Some g
    → had ≡ is_discarded_by (filter (λ x. not (is_kept_among comdats x)) (take i groups)) f n → new ≡ (had || is_lost_with comdats f n g)
    → new ≡ is_discarded_by (filter (λ x. not (is_kept_among comdats x)) (take (i + 1) groups)) f n
discarded-grow comdats groups i g f n had new at is more =
    more ∙ (ap (λ b. b || is_lost_with comdats f n g) is ∙ sym
    (ap (λ l. is_discarded_by (filter lost l) f n) (next-taken groups i g at)
    ∙ (ap (λ l. is_discarded_by l f n) (filter-append lost (take i groups) (g ∷ []))
    ∙ (ap (contains n) (flat_map-append (sections_in f) (filter lost (take i groups)) (filter lost (g ∷ [])))
    ∙ (list_any-append (λ x. x == n) (flat_map (sections_in f) (filter lost (take i groups))) (flat_map (sections_in f) (filter lost (g ∷ [])))
    ∙ ap (λ b. is_discarded_by (filter lost (take i groups)) f n || b) (one (not (is_kept_among comdats g))))))))
  where
    lost : PlacedGroup → Bool
    lost x = not (is_kept_among comdats x)

    one : (b : Bool) → contains n (flat_map (sections_in f) (cond b (g ∷ []) [])) ≡ (b && contains n (sections_in f g))
    one true = ap (contains n) (append-nil (sections_in f g))
    one false = refl

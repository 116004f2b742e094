-- Which objects are marked once the objects of some names are.
use Rattle.std.proofs.Common.{◌≡◌, ℕ, ◌<◌, ◌∙◌, ◌⊎◌, Bool, true, false, List, [], ◌∷◌, Option, Some, None, get_or, set, length, length-set, refl, sym, ap, subst, inl, inr}
use Rattle.std.specs.Prelude.{◌==◌, ◌||◌, fold}
use Rattle.std.specs.List.{list_any}
use Rattle.std.proofs.lemmas.Bool.{cases_eq, eq-eqb, eqb-true}
use Rattle.std.proofs.lemmas.List.{get_or-set_other, get_or-set_same}
use Rattle.link_closure.specs.Closure.{is_marked}
use Rattle.link_rules.specs.Places.{Bytes, is_number}
use Rattle.link_check_names.specs.Named.{Named}
use Rattle.link_check_roots.specs.Marks.{holds, marked_by, object_named, with_mark}

or_false : (b : Bool) → (b || false) ≡ b
or_false true = refl
or_false false = refl

or_true : (b : Bool) → (b || true) ≡ true
or_true true = refl
or_true false = refl

or_assoc : (a b c : Bool) → ((a || b) || c) ≡ (a || (b || c))
or_assoc true b c = refl
or_assoc false b c = refl

not-same : (m n : ℕ) (b : Bool) → (m == n) ≡ b → (n ≡ m → ⊥) → b ≡ false
not-same m n true is differs = absurd (differs (sym (eqb-true m n is)))
not-same m n false is differs = refl

-- no mark is added or lost
length-marked : (marks : List Bool) (o : Option ℕ) → length (with_mark marks o) ≡ length marks
length-marked marks None = refl
length-marked marks (Some g) = length-set marks g true

-- one object more is marked
marked-one : (marks : List Bool) (o : Option ℕ) (f : ℕ) → ((g : ℕ) → o ≡ Some g → g < length marks) → is_marked (with_mark marks o) f ≡ (is_marked marks f || is_number o f)
marked-one marks None f within = sym (or_false (is_marked marks f))
marked-one marks (Some g) f within = by (cases_eq f g)
  where
    by : (f ≡ g) ⊎ (f ≡ g → ⊥) → get_or (set marks g true) f false ≡ (get_or marks f false || (g == f))
    by (inl same) =
        ap (λ k. get_or (set marks g true) k false) same
        ∙ (get_or-set_same marks g true false (within g refl)
        ∙ sym (ap (λ b. get_or marks f false || b) (eq-eqb g f (sym same)) ∙ or_true (get_or marks f false)))
    by (inr differs) =
        get_or-set_other marks g f true false differs
        ∙ sym (ap (λ b. get_or marks f false || b) (not-same g f (g == f) refl differs) ∙ or_false (get_or marks f false))

-- the objects of these names are marked, and those that were
pub marked-all : (n : Named) (names : List Bytes) (marks : List Bool) (f : ℕ) → ((name : Bytes) (g : ℕ) → object_named n name ≡ Some g → g < length marks)
    → is_marked (fold (marked_by n) marks names) f ≡ (is_marked marks f || list_any (holds n f) names)
marked-all n [] marks f within = sym (or_false (is_marked marks f))
marked-all n (name ∷ names) marks f within =
    marked-all n names (marked_by n marks name) f (λ other g at. subst (λ k. g < k) (sym (length-marked marks (object_named n name))) (within other g at))
    ∙ (ap (λ b. b || list_any (holds n f) names) (marked-one marks (object_named n name) f (within name))
    ∙ or_assoc (is_marked marks f) (holds n f name) (list_any (holds n f) names))

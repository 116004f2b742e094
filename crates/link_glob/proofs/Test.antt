-- The test of a glob is what a glob means.
use Rattle.std.proofs.Common.{◌≡◌, ◌↔◌, ℕ, zero, suc, Bool, true, false, List, [], ◌∷◌, drop, refl, ◌⊎◌, inl, inr}
use Rattle.std.specs.Prelude.{IsTrue, ◌&&◌, ◌||◌}
use Rattle.link_glob.specs.Glob.{GlobToken, literal, one, any, class, takes, GlobMatches, some_end, glob_matches, does_match}

and_parts : (a b : Bool) → IsTrue (a && b) → IsTrue a × IsTrue b
and_parts true b e = (refl, e)
and_parts false b e = absurd cc

and_both : (a b : Bool) → IsTrue a → IsTrue b → IsTrue (a && b)
and_both true b p q = q
and_both false b p q = absurd cc

or_parts : (a b : Bool) → IsTrue (a || b) → IsTrue a ⊎ IsTrue b
or_parts true b e = inl refl
or_parts false b e = inr e

or_left : (a b : Bool) → IsTrue a → IsTrue (a || b)
or_left true b p = refl
or_left false b p = absurd cc

or_right : (a b : Bool) → IsTrue b → IsTrue (a || b)
or_right true b p = refl
or_right false b p = p

end_means : (p : List ℕ → Bool) (name : List ℕ) → IsTrue (some_end p name) → (n : ℕ) × IsTrue (p (drop n name))
end_means p [] e = (0, e)
end_means p (c ∷ name) e = elim (or_parts (p (c ∷ name)) (some_end p name) e) [ inl h ↦ (0, h) | inr h ↦ let k = end_means p name h in (suc k.0, k.1) ]

end_is : (p : List ℕ → Bool) (n : ℕ) (name : List ℕ) → IsTrue (p (drop n name)) → IsTrue (some_end p name)
end_is p zero [] e = e
end_is p (suc n) [] e = e
end_is p zero (c ∷ name) e = or_left (p (c ∷ name)) (some_end p name) e
end_is p (suc n) (c ∷ name) e = or_right (p (c ∷ name)) (some_end p name) (end_is p n name e)

pub means : (pattern : List GlobToken) (name : List ℕ) → IsTrue (glob_matches pattern name) → GlobMatches pattern name
means [] [] e = refl
means [] (c ∷ name) e = absurd cc
means (any ∷ rest) name e = let k = end_means (λ n. glob_matches rest n) name e in (k.0, means rest (drop k.0 name) k.1)
means (literal d ∷ rest) [] e = absurd cc
means (literal d ∷ rest) (c ∷ name) e = let k = and_parts (takes (literal d) c) (glob_matches rest name) e in (k.0, means rest name k.1)
means (one ∷ rest) [] e = absurd cc
means (one ∷ rest) (c ∷ name) e = let k = and_parts (takes one c) (glob_matches rest name) e in (k.0, means rest name k.1)
means (class b ranges ∷ rest) [] e = absurd cc
means (class b ranges ∷ rest) (c ∷ name) e = let k = and_parts (takes (class b ranges) c) (glob_matches rest name) e in (k.0, means rest name k.1)

tests : (pattern : List GlobToken) (name : List ℕ) → GlobMatches pattern name → IsTrue (glob_matches pattern name)
tests [] [] g = refl
tests [] (c ∷ name) g = absurd cc
tests (any ∷ rest) name g = end_is (λ n. glob_matches rest n) g.0 name (tests rest (drop g.0 name) g.1)
tests (literal d ∷ rest) [] g = absurd g
tests (literal d ∷ rest) (c ∷ name) g = and_both (takes (literal d) c) (glob_matches rest name) g.0 (tests rest name g.1)
tests (one ∷ rest) [] g = absurd g
tests (one ∷ rest) (c ∷ name) g = and_both (takes one c) (glob_matches rest name) g.0 (tests rest name g.1)
tests (class b ranges ∷ rest) [] g = absurd g
tests (class b ranges ∷ rest) (c ∷ name) g = and_both (takes (class b ranges) c) (glob_matches rest name) g.0 (tests rest name g.1)

same_by : (a b : Bool) → (IsTrue a → IsTrue b) → (IsTrue b → IsTrue a) → a ≡ b
same_by true true p q = refl
same_by true false p q = absurd (let k = p refl in cc)
same_by false true p q = absurd (let k = q refl in cc)
same_by false false p q = refl

pub value_is : (pattern : List GlobToken) (name : List ℕ) (result : Bool) → (IsTrue result ↔ GlobMatches pattern name) → result ≡ does_match pattern name
unfolding does_match
value_is pattern name result m = same_by result (glob_matches pattern name) (λ t. tests pattern name (m.0 t)) (λ t. m.1 (means pattern name t))

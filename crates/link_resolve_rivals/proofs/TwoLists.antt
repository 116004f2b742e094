-- The lists of the tests.
use Rattle.std.proofs.Common.{◌≡◌, ◌<◌, ℕ, zero, suc, List, [], ◌∷◌, Contains, refl, subst, inl, inr, arith}
use Rattle.std.specs.Prelude.{slice_get}
use Rattle.std.specs.Option.{option_map_or}
use Rattle.link_rules.proofs.Settled.{here, here_or_there, nothing_in, there}
use Rattle.link_resolve_rivals.specs.Lists.{AreLists}

-- the symbols 0, 2 and 3 stand in one list, 1 and 4 in another
abbrev pub two_lists : ℕ → List ℕ
two_lists s = option_map_or (λ own. own)
    (slice_get ((0 ∷ 2 ∷ 3 ∷ []) ∷ (1 ∷ 4 ∷ []) ∷ (0 ∷ 2 ∷ 3 ∷ []) ∷ (0 ∷ 2 ∷ 3 ∷ []) ∷ (1 ∷ 4 ∷ []) ∷ []) s) []

-- what is said of a list: of which symbol it is, and what stands in it
record IsList (own : List ℕ) (t : ℕ) : Type 0 where
  same : two_lists t ≡ own
  inside : t < 6

-- the symbols of the first list
of-first : (t : ℕ) → Contains (0 ∷ 2 ∷ 3 ∷ []) t → IsList (0 ∷ 2 ∷ 3 ∷ []) t
of-first t within = elim (here_or_there 0 (2 ∷ 3 ∷ []) t within) [
  | inl is ↦ subst (IsList (0 ∷ 2 ∷ 3 ∷ [])) is (record { same = refl; inside = omega arith })
  | inr deeper ↦ elim (here_or_there 2 (3 ∷ []) t deeper) [
    | inl is ↦ subst (IsList (0 ∷ 2 ∷ 3 ∷ [])) is (record { same = refl; inside = omega arith })
    | inr last ↦ elim (here_or_there 3 [] t last) [
      | inl is ↦ subst (IsList (0 ∷ 2 ∷ 3 ∷ [])) is (record { same = refl; inside = omega arith })
      | inr none ↦ absurd (nothing_in t none)
    ]
  ]
]

-- the symbols of the second
of-second : (t : ℕ) → Contains (1 ∷ 4 ∷ []) t → IsList (1 ∷ 4 ∷ []) t
of-second t within = elim (here_or_there 1 (4 ∷ []) t within) [
  | inl is ↦ subst (IsList (1 ∷ 4 ∷ [])) is (record { same = refl; inside = omega arith })
  | inr last ↦ elim (here_or_there 4 [] t last) [
    | inl is ↦ subst (IsList (1 ∷ 4 ∷ [])) is (record { same = refl; inside = omega arith })
    | inr none ↦ absurd (nothing_in t none)
  ]
]

-- each symbol of a list has that list
of-each : (s t : ℕ) → Contains (two_lists s) t → IsList (two_lists s) t
of-each zero t within = of-first t within
of-each (suc zero) t within = of-second t within
of-each (suc (suc zero)) t within = of-first t within
of-each (suc (suc (suc zero))) t within = of-first t within
of-each (suc (suc (suc (suc zero)))) t within = of-second t within
of-each (suc (suc (suc (suc (suc s))))) t within = absurd (nothing_in t within)

-- each symbol with a list stands in it
itself : (s t : ℕ) → Contains (two_lists s) t → Contains (two_lists s) s
itself zero t within = here 0 (2 ∷ 3 ∷ [])
itself (suc zero) t within = here 1 (4 ∷ [])
itself (suc (suc zero)) t within = there 0 (2 ∷ 3 ∷ []) 2 (here 2 (3 ∷ []))
itself (suc (suc (suc zero))) t within = there 0 (2 ∷ 3 ∷ []) 3 (there 2 (3 ∷ []) 3 (here 3 []))
itself (suc (suc (suc (suc zero)))) t within = there 1 (4 ∷ []) 4 (here 4 [])
itself (suc (suc (suc (suc (suc s))))) t within = absurd (nothing_in t within)

-- they are lists of rivals
pub two-lists : AreLists two_lists 6
two-lists = record { own = itself; same = λ s t within. (of-each s t within).same; inside = λ s t within. (of-each s t within).inside }

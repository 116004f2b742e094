-- A claim has one verdict.
use Rattle.std.proofs.Common.{◌≡◌, ℕ, Bool, true, false, List, refl, ap, arith}
use Rattle.std.specs.Prelude.{nat_lt, slice_get}
use Rattle.std.proofs.lemmas.Bool.{ltb-true, ltb-false}
use Rattle.link_check_claims.specs.declared.claim.Claim.{Claim}
use Rattle.link_rules.specs.World.{World, first_stage}
use Rattle.link_check.specs.declared.verdict.Verdict.{Verdict}
use Rattle.link_check.specs.declared.verdict.Verdict.TheVariants.{Holds, FailsLoaded, FailsKept, FailsTable}
use Rattle.link_check.specs.Verdicts.{IsFirstDifference, IsVerdict, due_table}

-- two tables have one first difference
one-difference : (table due : List ℕ) (i j : ℕ) → IsFirstDifference table due i → IsFirstDifference table due j → i ≡ j
one-difference table due i j first first' = by (nat_lt i j) refl (nat_lt j i) refl
  where
    by : (b : Bool) → nat_lt i j ≡ b → (d : Bool) → nat_lt j i ≡ d → i ≡ j
    by true is d is' = absurd (first.0 (first'.1 i (ltb-true i j is)))
    by false is true is' = absurd (first'.0 (first.1 j (ltb-true j i is')))
    by false is false is' = omega (arith, ltb-false i j is, ltb-false j i is')

-- the same tables have none
none-same : (table due : List ℕ) (i : ℕ) → table ≡ due → IsFirstDifference table due i → ⊥
none-same table due i same first = first.0 (ap (λ (l : List ℕ). slice_get l i) same)

-- a claim has one verdict
pub one-verdict : (w : World) (claim : Claim) (v u : Verdict) → IsVerdict w claim v → IsVerdict w claim u → v ≡ u
one-verdict w claim Holds Holds is is' = refl
one-verdict w claim FailsLoaded FailsLoaded is is' = refl
one-verdict w claim FailsKept FailsKept is is' = refl
one-verdict w claim (FailsTable i) (FailsTable j) is is' = ap (λ k. FailsTable k) (one-difference claim.table (due_table (first_stage w) claim) i j is.2 is'.2)
one-verdict w claim Holds FailsLoaded is is' = absurd (is' is.loaded)
one-verdict w claim Holds FailsKept is is' = absurd (is'.1 is.kept)
one-verdict w claim Holds (FailsTable j) is is' = absurd (none-same claim.table (due_table (first_stage w) claim) j is.table is'.2)
one-verdict w claim FailsLoaded Holds is is' = absurd (is is'.loaded)
one-verdict w claim FailsLoaded FailsKept is is' = absurd (is is'.0)
one-verdict w claim FailsLoaded (FailsTable j) is is' = absurd (is is'.0)
one-verdict w claim FailsKept Holds is is' = absurd (is.1 is'.kept)
one-verdict w claim FailsKept FailsLoaded is is' = absurd (is' is.0)
one-verdict w claim FailsKept (FailsTable j) is is' = absurd (is.1 is'.1)
one-verdict w claim (FailsTable i) Holds is is' = absurd (none-same claim.table (due_table (first_stage w) claim) i is'.table is.2)
one-verdict w claim (FailsTable i) FailsLoaded is is' = absurd (is' is.0)
one-verdict w claim (FailsTable i) FailsKept is is' = absurd (is'.1 is.1)

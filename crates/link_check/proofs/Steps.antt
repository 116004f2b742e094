-- How the steps of a check follow from one another.
use Rattle.std.proofs.Common.{◌≡◌, List, ℕ, Result, Ok, Err, IfOk, subst}
use Rattle.link_check_names.specs.Named.{Named}
use Rattle.link_input.specs.Symbols.{Symbol}
use Rattle.link_rules.specs.Places.{Bytes}
use Rattle.link_check.specs.Verdicts.{IsFirstDifference}

-- what holds of an answer also holds in another way
pub ok-into : {A E : Type 0} (r : Result A E) (P Q : A → Type 0) → ((x : A) → P x → Q x) → IfOk r P → IfOk r Q
ok-into (Ok x) P Q into held = into x held
ok-into (Err e) P Q into held = tt

-- a first difference is one of the same tables
pub same-difference : (table due other_table other_due : List ℕ) (i : ℕ) → table ≡ other_table → due ≡ other_due → IsFirstDifference table due i
    → IsFirstDifference other_table other_due i
same-difference table due other_table other_due i same same_due first =
    subst (λ (ys : List ℕ). IsFirstDifference other_table ys i) same_due (subst (λ (xs : List ℕ). IsFirstDifference xs due i) same first)

-- symbols with wrapped names
abbrev pub named-by : List Symbol → List Bytes → Named
named-by symbols wrap = record { symbols = symbols; wrap = wrap }

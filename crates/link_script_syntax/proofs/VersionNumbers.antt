-- Numbers of versions, where one more is read.
use Rattle.std.proofs.Common.{◌≡◌, ℕ, suc, ◌+◌, ◌++◌, length, Bool, true, false, if◌then◌else◌, List, [], ◌∷◌, Option, Some, None, refl, sym, ap, ◌∙◌, inl, inr, arith}
use Rattle.std.specs.Option.{option_or}
use Rattle.std.specs.Str.{bytes_eq}
use Rattle.std.proofs.lemmas.Bool.{cases_Bool}
use Rattle.std.proofs.lemmas.Slice.Eq.{bytes_eq-Decides}
use Rattle.link_names.specs.Names.{value_in}
use Rattle.link_script_syntax.specs.declared.named.RawVersion.{RawVersion}
use Rattle.link_script_syntax.specs.Named.{number_of as number_from, AreNumbers}

symmetric : (xs ys : List ℕ) (b : Bool) → bytes_eq xs ys ≡ b → bytes_eq ys xs ≡ b
symmetric xs ys true e = let same = (bytes_eq-Decides xs ys).0 e in (bytes_eq-Decides ys xs).1 (sym same)
symmetric xs ys false e =
    elim (cases_Bool (bytes_eq ys xs)) [
      | inl y ↦ let t = (bytes_eq-Decides xs ys).1 (sym ((bytes_eq-Decides ys xs).0 y)) in cc
      | inr n ↦ n
    ]

or_number : (b behind : Bool) (n m : ℕ) (o next : Option ℕ) → o ≡ option_or next (if behind then Some m else None) → (if b then Some n else o) ≡ option_or (if b then Some n else next) (if behind then Some m else None)
or_number true behind n m o next e = refl
or_number false behind n m o next e = e

-- the number of a name among versions and one more
number_more : (n : ℕ) (versions : List RawVersion) (v : RawVersion) (asked : List ℕ) → number_from n (versions ++ v ∷ []) asked ≡ option_or (number_from n versions asked) (if bytes_eq v.name asked then Some (n + length versions) else None)
number_more n [] v asked = ap (λ (k : ℕ). if bytes_eq v.name asked then Some k else None) (omega arith)
number_more n (first ∷ versions) v asked =
    or_number (bytes_eq first.name asked) (bytes_eq v.name asked) n (n + length (first ∷ versions)) (number_from (suc n) (versions ++ v ∷ []) asked) (number_from (suc n) versions asked)
    (number_more (suc n) versions v asked ∙ ap (λ (k : ℕ). option_or (number_from (suc n) versions asked) (if bytes_eq v.name asked then Some k else None)) (omega arith))

-- versions and one more have their numbers
pub numbers_more : (versions : List RawVersion) (v : RawVersion) (old new : List (List ℕ × ℕ)) → AreNumbers versions old
    → ((asked : List ℕ) → value_in new asked ≡ option_or (value_in old asked) (if bytes_eq asked v.name then Some (length versions + 1) else None))
    → AreNumbers (versions ++ v ∷ []) new
numbers_more versions v old new are noted name =
    noted name ∙ ap (λ (o : Option ℕ). option_or o (if bytes_eq name v.name then Some (length versions + 1) else None)) (are name)
    ∙ ap (λ (b : Bool). option_or (number_from 1 versions name) (if b then Some (length versions + 1) else None)) (sym (symmetric name v.name (bytes_eq name v.name) refl))
    ∙ ap (λ (k : ℕ). option_or (number_from 1 versions name) (if bytes_eq v.name name then Some k else None)) (omega arith)
    ∙ sym (number_more 1 versions v name)

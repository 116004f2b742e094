-- What passes carry, and when their calls are those of a history.
use Rattle.std.specs.Prelude.{ℕ, ◌≡◌, ◌≢◌, ◌⊎◌, ◌↔◌, ◌+◌, ◌<◌, Bool, List, length, slice_get, sum_by, Some}
use Rattle.link_closure.specs.Graph.{IsMarked}
use Rattle.link_desk.specs.declared.entry.Entry.{Entry}
use Rattle.link_desk.specs.declared.pass.Kept.{Kept}

-- its parts of the ledger, and its calls
pub record Carried : Type 0 where
  pub parts : ℕ
  pub calls : List Kept

-- all parts and all calls of some passes
abbrev pub parts_in : List Carried → ℕ
parts_in passes = sum_by (λ c. c.parts) passes

abbrev pub calls_in : List Carried → ℕ
calls_in passes = sum_by (λ c. length c.calls) passes

-- pass p has this as its k-th call
pub record IsCallAt (passes : List Carried) (p k : ℕ) (x : Kept) : Type 0 where
  pub pass : Carried
  pub stands : slice_get passes p ≡ Some pass
  pub holds : slice_get pass.calls k ≡ Some x

-- a kept call is right if it is the one at its place in the history, stands past the one before it in its pass, and in no earlier pass
pub record IsRight (history : List Entry) (passes : List Carried) (p k : ℕ) (x : Kept) : Type 0 where
  pub found : slice_get history x.place ≡ Some x.entry
  pub past : (j : ℕ) (y : Kept) → j + 1 ≡ k → IsCallAt passes p j y → y.place < x.place
  pub apart : (q j : ℕ) (y : Kept) → q < p → IsCallAt passes q j y → y.place ≢ x.place

-- so is the k-th call of pass p, if there is one
abbrev pub IsRightAt : List Entry → List Carried → ℕ → ℕ → Type 0
IsRightAt history passes p k = (x : Kept) → IsCallAt passes p k x → IsRight history passes p k x

-- all kept calls are right
abbrev pub AreRight : List Entry → List Carried → Type 0
AreRight history passes = (p k : ℕ) (x : Kept) → IsCallAt passes p k x → IsRight history passes p k x

-- those of pass p are
abbrev pub IsPassRight : List Entry → List Carried → ℕ → Type 0
IsPassRight history passes p = (k : ℕ) (x : Kept) → IsCallAt passes p k x → IsRight history passes p k x

-- the k-th call of pass p is wrong, and those before it in the pass are right
pub record IsWrongIn (history : List Entry) (passes : List Carried) (p k : ℕ) (x : Kept) : Type 0 where
  pub stands : IsCallAt passes p k x
  pub wrong : ¬ (IsRight history passes p k x)
  pub before : (j : ℕ) (y : Kept) → j < k → IsCallAt passes p j y → IsRight history passes p j y

-- the k-th call of pass p is wrong, and each one before it is right: those of earlier passes, and the earlier ones of its own
pub record IsFirstWrong (history : List Entry) (passes : List Carried) (p k : ℕ) (x : Kept) : Type 0 where
  pub stands : IsCallAt passes p k x
  pub wrong : ¬ (IsRight history passes p k x)
  pub before : (q j : ℕ) (y : Kept) → (q < p) ⊎ ((q ≡ p) × (j < k)) → IsCallAt passes q j y → IsRight history passes q j y

-- each entry of the history is the call of exactly one pass, with the reply that its caller got, and each pass's calls stand there in its order
pub record AreCallsOf (history : List Entry) (passes : List Carried) : Type 0 where
  pub made : (p k : ℕ) (x : Kept) → IsCallAt passes p k x → slice_get history x.place ≡ Some x.entry
  pub once : (i : ℕ) → i < length history
      → (p : ℕ) × (k : ℕ) × (x : Kept) × IsCallAt passes p k x × (x.place ≡ i)
      × ((q j : ℕ) (y : Kept) → IsCallAt passes q j y → y.place ≡ i → (q ≡ p) × (j ≡ k))
  pub ordered : (p j k : ℕ) (x y : Kept) → j < k → IsCallAt passes p j x → IsCallAt passes p k y → x.place < y.place

-- of the entries of a history, those are marked at whose places the calls of the passes before pass p stand
abbrev pub AreClaimed : List Bool → List Carried → ℕ → Type 0
AreClaimed claimed passes p = (i : ℕ) → i < length claimed → IsMarked claimed i ↔ ((q j : ℕ) × (y : Kept) × (q < p) × IsCallAt passes q j y × (y.place ≡ i))

-- A reading and its grammar: the values that a text spells and the faults that it has, one of which each text has.
use Rattle.std.proofs.Common.{◌≡◌, ℕ, List, length, Result, Ok, Err, refl, sym, subst, ◌∙◌, ◌⊎◌, inl, inr}
use Rattle.link_script_syntax.specs.declared.fault.Fault.{Fault}
use Rattle.link_script_syntax.specs.declared.fault.ScriptErrorKind.{ScriptErrorKind}
use Rattle.link_script_syntax.specs.Fault.{refuse}
use Rattle.link_script_syntax.proofs.Places.{ok_same}

-- a value or a fault
abbrev pub Either : {A : Type 0} → (A → Type 0) → (ScriptErrorKind → List ℕ → Type 0) → Type 0
Either {A} says fails = ((x : A) × says x) ⊎ ((kind : ScriptErrorKind) × (at : List ℕ) × fails kind at)

-- Values and faults are what is read, and there is one of them.
pub record Judges {A : Type 0} (read : Result A Fault) (says : A → Type 0) (fails : ScriptErrorKind → List ℕ → Type 0) : Type 0 where
  pub values : (x : A) → says x → read ≡ Ok x
  pub faults : (kind : ScriptErrorKind) (at : List ℕ) → fails kind at → read ≡ refuse kind at
  pub either : Either says fails

pub err_same : {A : Type 0} (d f : Fault) → ◌≡◌ {A = Result A Fault} (Err d) (Err f) → d ≡ f
err_same d f e = cc

pub never_both : {A : Type 0} (x : A) (f : Fault) → ◌≡◌ {A = Result A Fault} (Ok x) (Err f) → ⊥
never_both x f e = cc

-- what is read is a value
pub found : {A : Type 0} (read : Result A Fault) (says : A → Type 0) (fails : ScriptErrorKind → List ℕ → Type 0) → Judges read says fails → (x : A) → read ≡ Ok x → says x
found {A} read says fails j x e = elim (j.either) as (λ _. says x) [
  | inl v ↦ subst says (ok_same v.0 x (sym (j.values v.0 v.1) ∙ e)) v.1
  | inr f ↦ absurd (never_both {A = A} x (record { left = length f.1; kind = f.0 }) (sym e ∙ j.faults f.0 f.1 f.2))
]

abbrev pub FaultAt : (ScriptErrorKind → List ℕ → Type 0) → Fault → Type 0
FaultAt fails f = (at : List ℕ) × fails f.kind at × (f.left ≡ length at)

-- what is refused is a fault, at its place
pub refused : {A : Type 0} (read : Result A Fault) (says : A → Type 0) (fails : ScriptErrorKind → List ℕ → Type 0) → Judges read says fails → (f : Fault) → read ≡ Err f → FaultAt fails f
refused {A} read says fails j f e = elim (j.either) as (λ _. FaultAt fails f) [
  | inl v ↦ absurd (never_both {A = A} v.0 f (sym (j.values v.0 v.1) ∙ e))
  | inr k ↦ subst (FaultAt fails) (err_same {A = A} (record { left = length k.1; kind = k.0 }) f (sym (j.faults k.0 k.1 k.2) ∙ e)) (k.1, k.2, refl)
]

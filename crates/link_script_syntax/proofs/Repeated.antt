-- A repetition by the grammar of its turns, with their faults.
use Rattle.std.proofs.Common.{◌≡◌, ℕ, zero, suc, ◌<◌, ◌≤◌, List, [], ◌∷◌, ◌++◌, length, Option, Some, None, Result, Ok, sym, ap, subst, ◌∙◌, inl, inr, append_assoc, arith}
use Rattle.std.proofs.lemmas.List.{append-nil}
use Rattle.link_script_syntax.specs.declared.fault.Fault.{Fault}
use Rattle.link_script_syntax.specs.declared.fault.ReadError.TheVariants as errors
use Rattle.link_script_syntax.specs.declared.fault.ScriptErrorKind.{ScriptErrorKind}
use Rattle.link_script_syntax.specs.Fault.{refuse}
use Rattle.link_script_syntax.specs.Many.{grow}
use Rattle.link_script_syntax.specs.Grammar.{Repeats}
use Rattle.link_script_syntax.specs.Faults.{RepeatFails}
use Rattle.link_script_syntax.proofs.Repeat.{grow_step, grow_fails, grow_ends}
use Rattle.link_script_syntax.proofs.Judged.{Either, Judges}

abbrev Turn : Type 0 → Type 1
Turn A = List A → List ℕ → Option A → List ℕ → Type 0

abbrev TurnFault : Type 0 → Type 1
TurnFault A = List A → List ℕ → ScriptErrorKind → List ℕ → Type 0

-- each turn is what its grammar says, and an item takes a byte
pub record TurnJudged {A : Type 0} (turn : List A → List ℕ → Result (Option A × List ℕ) Fault) (says : List A → List ℕ → Option A → List ℕ → Type 0) (fails : List A → List ℕ → ScriptErrorKind → List ℕ → Type 0) : Type 0 where
  pub judged : (front : List A) (text : List ℕ) → Judges (turn front text) (λ t. says front text t.0 t.1) (fails front text)
  pub shortens : (front : List A) (text : List ℕ) (x : A) (after : List ℕ) → says front text (Some x) after → length after < length text

-- a repetition of the grammar is read
repeats_only : {A : Type 0} (turn : List A → List ℕ → Result (Option A × List ℕ) Fault) (says : Turn A) (fails : TurnFault A) → TurnJudged turn says fails
    → (items front : List A) (text rest : List ℕ) → Repeats says front items text rest → grow turn front text ≡ Ok (front ++ items, rest)
repeats_only {A} turn says fails j [] front text rest r = grow_ends turn front text rest ((j.judged front text).values (None, rest) r) ∙ ap (λ (xs : List A). Ok (xs, rest)) (sym (append-nil front))
repeats_only {A} turn says fails j (x ∷ items) front text rest r =
    grow_step turn front text r.0 x ((j.judged front text).values (Some x, r.0) r.1) (j.shortens front text x r.0 r.1)
    ∙ repeats_only turn says fails j items (front ++ x ∷ []) r.0 rest r.2
    ∙ ap (λ (xs : List A). Ok (xs, rest)) (append_assoc front (x ∷ []) items)

-- one that fails is refused where it fails
repeats_fail : {A : Type 0} (turn : List A → List ℕ → Result (Option A × List ℕ) Fault) (says : Turn A) (fails : TurnFault A) → TurnJudged turn says fails
    → (items front : List A) (text : List ℕ) (kind : ScriptErrorKind) (at : List ℕ) → RepeatFails says fails front items text kind at → grow turn front text ≡ refuse kind at
repeats_fail turn says fails j [] front text kind at r = grow_fails turn (errors.Fault (record { left = length at; kind = kind })) front text ((j.judged front text).faults kind at r)
repeats_fail turn says fails j (x ∷ items) front text kind at r =
    grow_step turn front text r.0 x ((j.judged front text).values (Some x, r.0) r.1) (j.shortens front text x r.0 r.1) ∙ repeats_fail turn says fails j items (front ++ x ∷ []) r.0 kind at r.2

abbrev Behind : {A : Type 0} → Turn A → List A → List ℕ → List A × List ℕ → Type 0
Behind {A} says front text t = (items : List A) × (t.0 ≡ front ++ items) × Repeats says front items text t.1

abbrev FailsBehind : {A : Type 0} → Turn A → TurnFault A → List A → List ℕ → ScriptErrorKind → List ℕ → Type 0
FailsBehind {A} says fails front text kind at = (items : List A) × RepeatFails says fails front items text kind at

-- one item more in front
item_more : {A : Type 0} (says : Turn A) (fails : TurnFault A) (front : List A) (text : List ℕ) (x : A) (after : List ℕ) → says front text (Some x) after
    → Either (Behind says (front ++ x ∷ []) after) (FailsBehind says fails (front ++ x ∷ []) after) → Either (Behind says front text) (FailsBehind says fails front text)
item_more says fails front text x after said (inl t) = inl (t.0, (x ∷ t.1.0, t.1.1 ∙ append_assoc front (x ∷ []) t.1.0, (after, said, t.1.2)))
item_more says fails front text x after said (inr f) = inr (f.0, f.1, (x ∷ f.2.0, (after, said, f.2.1)))

turn_more : {A : Type 0} (says : Turn A) (fails : TurnFault A) (front : List A) (text : List ℕ) (o : Option A) (after : List ℕ) → says front text o after
    → ((x : A) → says front text (Some x) after → Either (Behind says (front ++ x ∷ []) after) (FailsBehind says fails (front ++ x ∷ []) after)) → Either (Behind says front text) (FailsBehind says fails front text)
turn_more says fails front text None after said so = inl ((front, after), ([], sym (append-nil front), said))
turn_more says fails front text (Some x) after said so = item_more says fails front text x after said (so x said)

either_by : {A : Type 0} (turn : List A → List ℕ → Result (Option A × List ℕ) Fault) (says : Turn A) (fails : TurnFault A) → TurnJudged turn says fails
    → (n : ℕ) (front : List A) (text : List ℕ) → length text < n → Either (Behind says front text) (FailsBehind says fails front text)
either_by turn says fails j zero front text few = absurd (omega arith)
either_by turn says fails j (suc n) front text few = elim ((j.judged front text).either) as (λ _. Either (Behind says front text) (FailsBehind says fails front text)) [
  | inl t ↦ turn_more says fails front text t.0.0 t.0.1 t.1 (λ x said. let less = j.shortens front text x t.0.1 said in either_by turn says fails j n (front ++ x ∷ []) t.0.1 (omega arith))
  | inr f ↦ inr (f.0, f.1, ([], f.2))
]

from_nothing : {A : Type 0} (says : Turn A) (fails : TurnFault A) (text : List ℕ) → Either (Behind says [] text) (FailsBehind says fails [] text) → Either {A = List A × List ℕ} (λ t. Repeats says [] t.0 text t.1) (FailsBehind says fails [] text)
from_nothing {A} says fails text (inl t) = inl (t.0, subst (λ (xs : List A). Repeats says [] xs text t.0.1) (sym t.1.1) t.1.2)
from_nothing says fails text (inr f) = inr f

pub repeats_judged : {A : Type 0} (turn : List A → List ℕ → Result (Option A × List ℕ) Fault) (says : List A → List ℕ → Option A → List ℕ → Type 0) (fails : List A → List ℕ → ScriptErrorKind → List ℕ → Type 0) → TurnJudged turn says fails
    → (text : List ℕ) → Judges (grow turn [] text) (λ t. Repeats says [] t.0 text t.1) (λ kind at. (items : List A) × RepeatFails says fails [] items text kind at)
repeats_judged turn says fails j text = record {
  values = λ t r. repeats_only turn says fails j t.0 [] text t.1 r;
  faults = λ kind at f. repeats_fail turn says fails j f.0 [] text kind at f.1;
  either = from_nothing says fails text (either_by turn says fails j (suc (length text)) [] text (omega arith));
}

-- a repetition doesn't make the text longer
pub repeats_shorter : {A : Type 0} (turn : List A → List ℕ → Result (Option A × List ℕ) Fault) (says : List A → List ℕ → Option A → List ℕ → Type 0) (fails : List A → List ℕ → ScriptErrorKind → List ℕ → Type 0) → TurnJudged turn says fails
    → ((front : List A) (text after : List ℕ) → says front text None after → length after ≤ length text)
    → (items front : List A) (text rest : List ℕ) → Repeats says front items text rest → length rest ≤ length text
repeats_shorter turn says fails j ends [] front text rest r = ends front text rest r
repeats_shorter turn says fails j ends (x ∷ items) front text rest r =
    let one = j.shortens front text x r.0 r.1 in
    let more = repeats_shorter turn says fails j ends items (front ++ x ∷ []) r.0 rest r.2 in
    omega arith

-- Values and faults. The place of a fault is how many bytes are left there.
use Rattle.std.specs.Prelude.{◌≡◌, ◌≤◌, ◌+◌, ℕ, List, length, Result, Ok, Err}
use Rattle.link_script_syntax.specs.declared.fault.ScriptErrorKind.{ScriptErrorKind}
use Rattle.link_script_syntax.specs.declared.fault.ScriptErrorKind.TheVariants.{Syntax}
use Rattle.link_script_syntax.specs.declared.fault.Fault.{Fault}
use Rattle.link_script_syntax.specs.declared.fault.ReadError.{ReadError}
use Rattle.link_script_syntax.specs.declared.fault.ReadError.TheVariants as errors
use Rattle.link_script_syntax.specs.declared.fault.ScriptFault.{ScriptFault}
use Rattle.link_script_syntax.specs.declared.fault.ScriptFault.TheVariants as faults

infixl 10 ◌>>=◌
-- the rest of the reading, unless there was a fault
abbrev pub ◌>>=◌ : {A B : Type 0} → Result A Fault → (A → Result B Fault) → Result B Fault
(Ok x) >>= f = f x
(Err e) >>= f = Err e

-- the fault where the rest begins
abbrev pub refuse : {A : Type 0} → ScriptErrorKind → List ℕ → Result A Fault
refuse kind rest = Err (record { left = length rest; kind = kind })

-- the fault `Syntax` where so many bytes are left
abbrev pub syntax_at : ℕ → ReadError
syntax_at n = errors.Fault (record { left = n; kind = Syntax })

-- The fault is the one of the text. Want of memory meets anything.
abbrev pub Fails : {Y : Type 0} → ReadError → Result Y Fault → Type 0
Fails errors.Memory read = Unit {0}
Fails (errors.Fault f) read = read ≡ Err f

-- What a function returned, seen by view, is what reading gives, unless memory ran out.
abbrev pub Gives : {X Y : Type 0} → (X → Y) → Result X ReadError → Result Y Fault → Type 0
Gives view (Ok x) read = read ≡ Ok (view x)
Gives view (Err e) read = Fails e read

-- the fault of this place and kind, unless memory ran out
abbrev pub FaultIs : ReadError → ℕ → ScriptErrorKind → Type 0
FaultIs errors.Memory left kind = Unit {0}
FaultIs (errors.Fault f) left kind = f ≡ record { left = left; kind = kind }

-- a fault that stands in a text of this length, or want of memory
abbrev pub IsWithin : ReadError → ℕ → Type 0
IsWithin errors.Memory len = Unit {0}
IsWithin (errors.Fault f) len = f.left ≤ len

-- the same fault, its place counted from the beginning of a text of this length
abbrev pub AnswersFault : ScriptFault → ReadError → ℕ → Type 0
AnswersFault faults.Memory e len = e ≡ errors.Memory
AnswersFault (faults.Text t) errors.Memory len = ⊥
AnswersFault (faults.Text t) (errors.Fault f) len = (t.at + f.left ≡ len) × (t.kind ≡ f.kind)

-- the fault that reading gives, at its place in the text, unless memory ran out
abbrev pub Refuses : {Y : Type 0} → ScriptFault → List ℕ → Result Y Fault → Type 0
Refuses faults.Memory text read = Unit {0}
Refuses (faults.Text t) text read = (left : ℕ) × (t.at + left ≡ length text) × (read ≡ Err (record { left = left; kind = t.kind }))

-- What a call answers is what reading gives, unless memory ran out.
abbrev pub Answers : {X Y : Type 0} → (X → Y) → List ℕ → Result X ScriptFault → Result Y Fault → Type 0
Answers view text (Ok x) read = read ≡ Ok (view x)
Answers view text (Err e) read = Refuses e text read

-- This value is answered, unless memory ran out.
abbrev pub IsRead : {X : Type 0} → X → Result X ScriptFault → Type 0
IsRead x (Ok read) = read ≡ x
IsRead x (Err faults.Memory) = Unit {0}
IsRead x (Err (faults.Text t)) = ⊥

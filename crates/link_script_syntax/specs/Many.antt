-- A repetition: each turn sees the items so far, and gives an item and what follows it, or the end and what
-- follows that.
use Rattle.std.specs.Prelude.{ℕ, zero, suc, nat_lt, if◌then◌else◌, List, [], ◌∷◌, ◌++◌, length, Option, Some, None, Result, Ok}
use Rattle.link_script_syntax.specs.declared.fault.Fault.{Fault}
use Rattle.link_script_syntax.specs.Fault.{◌>>=◌}

-- An item takes a byte, so the second case of the choice never comes.
abbrev pub grow_on : {A : Type 0} → (List A → List ℕ → Result (List A × List ℕ) Fault) → ℕ → List A → Option A → List ℕ → Result (List A × List ℕ) Fault
grow_on go size front None rest = Ok (front, rest)
grow_on go size front (Some x) rest = if nat_lt (length rest) size then go (front ++ x ∷ []) rest else Ok (front ++ x ∷ [], rest)

-- fewer than this many turns
abbrev pub grow_by : {A : Type 0} → (List A → List ℕ → Result (Option A × List ℕ) Fault) → ℕ → List A → List ℕ → Result (List A × List ℕ) Fault
grow_by turn zero front text = Ok (front, text)
grow_by turn (suc n) front text = turn front text >>= λ t. grow_on (λ front rest. grow_by turn n front rest) (length text) front t.0 t.1

-- the items in front, and those that the text still has
unfoldable pub grow : {A : Type 0} → (List A → List ℕ → Result (Option A × List ℕ) Fault) → List A → List ℕ → Result (List A × List ℕ) Fault
grow turn front text = grow_by turn (suc (length text)) front text

-- turns that don't look at the items so far
abbrev pub alone : {A : Type 0} → (List ℕ → Result (Option A × List ℕ) Fault) → List A → List ℕ → Result (Option A × List ℕ) Fault
alone turn front text = turn text

-- all items that the text has
abbrev pub many : {A : Type 0} → (List ℕ → Result (Option A × List ℕ) Fault) → List ℕ → Result (List A × List ℕ) Fault
many turn text = grow (alone turn) [] text

-- How a desk is closed.
use Rattle.std.specs.Prelude.{ℕ, ◌≡◌, ◌<◌, List, length, Result, Ok, Err}
use Rattle.link_input.specs.declared.options.Options.{Options}
use Rattle.link_input.specs.declared.world.Scripts.{Scripts}
use Rattle.link_desk.specs.declared.closing.CloseError.{CloseError}
use Rattle.link_desk.specs.declared.closing.CloseError.TheVariants.{SharesMissing, Differs}
use Rattle.link_desk.specs.Passes.{AreCallsOf, AreRight, Carried, IsFirstWrong, calls_in}
use Rattle.link_desk.specs.Replay.{Desked, IsReplayed}

-- a state and all calls of the passes: shares are missing, or a call differs, or else the state is given back
abbrev pub IsSettled : {L : Type 0} → Desked → List Carried → Result Desked (CloseError L) → Type 0
IsSettled d passes (Ok state) = (state ≡ d) × (calls_in passes ≡ d.book) × AreRight d.history passes
IsSettled d passes (Err (SharesMissing book sum total)) = (book ≡ d.book) × (sum ≡ calls_in passes) × (sum < book) × (total.amount ≡ book)
IsSettled d passes (Err (Differs state pass call place)) =
    (state ≡ d) × (calls_in passes ≡ d.book) × ((k : ℕ) × IsFirstWrong d.history passes pass k (record { place = place; entry = call }))

-- no share is missing
abbrev pub IsDifferent : {L : Type 0} → CloseError L → Type 0
IsDifferent (SharesMissing book sum total) = ⊥
IsDifferent (Differs state pass call place) = Unit {0}

-- what a desk answers as it is closed, whose state no clause can name
abbrev pub IsClosed : {L : Type 0} → Options → Scripts → List Carried → Result Desked (CloseError L) → Type 0
IsClosed options texts passes (Ok state) = IsReplayed options texts state × AreCallsOf state.history passes
IsClosed options texts passes (Err (SharesMissing book sum total)) = (sum ≡ calls_in passes) × (sum < book) × (total.amount ≡ book)
IsClosed options texts passes (Err (Differs state pass call place)) =
    IsReplayed options texts state × (length state.history ≡ calls_in passes)
    × ((k : ℕ) × IsFirstWrong state.history passes pass k (record { place = place; entry = call }))

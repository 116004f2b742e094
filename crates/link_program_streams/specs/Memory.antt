-- What a source or a sink over bytes in memory is between its calls.
use Rattle.std.specs.Prelude.{ℕ, ◌+◌, ◌≤◌, min, List, length, Contains}
use Rattle.link_program_streams.specs.Streams.{raised}

-- a source: what it has left, the most bytes that a call gives, the numbers of the calls that fail, and how many calls came and failed
pub record SourceState : Type 0 where
  pub left : List ℕ
  pub piece : ℕ
  pub fails : List ℕ
  pub calls : ℕ
  pub faults : ℕ

-- a source that never fails: what it has left, and the most bytes that a call gives
pub record SteadyState : Type 0 where
  pub left : List ℕ
  pub piece : ℕ

-- a sink: what it has taken, for how many bytes it has memory in all, the most bytes that a call takes, the numbers of the calls that fail, and how many calls came and failed
pub record SinkState : Type 0 where
  pub taken : List ℕ
  pub room : ℕ
  pub piece : ℕ
  pub fails : List ℕ
  pub calls : ℕ
  pub faults : ℕ

-- the call after so many is one of those that are to fail
abbrev pub IsToFail : List ℕ → ℕ → Type 0
IsToFail fails calls = Contains fails (raised calls)

-- what a sink takes of a piece of so many bytes fits into its room
abbrev pub HasRoom : SinkState → ℕ → Type 0
HasRoom sink count = length sink.taken + min count sink.piece ≤ sink.room

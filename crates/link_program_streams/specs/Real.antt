-- What an adapter over a reader or a writer is between its calls.
use Rattle.std.specs.Prelude.{ℕ}

-- the reader or the writer itself, and how many calls failed
pub record Adapter (T : Type 0) : Type 0 where
  pub inner : T
  pub faults : ℕ

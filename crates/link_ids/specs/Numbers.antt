-- Ids from numbers.
use Rattle.std.specs.Prelude.{ℕ, ◌^◌, nat_lt, Result, Ok, Err, if◌then◌else◌}
use Rattle.link_ids.specs.declared.symbol_id.TooManySymbols.{TooManySymbols}

-- a symbol's id, or the number that none can have
abbrev pub try_symbol_id : ℕ → Result ℕ TooManySymbols
try_symbol_id n = if nat_lt n (2 ^ 32) then Ok n else Err (record { 0 = n })

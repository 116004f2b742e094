-- What is lent of a definition that was added.
use Rattle.std.specs.Prelude.{ℕ, false, List, [], ◌∷◌, ◌++◌, ◌≡◌, Result}
use Rattle.std.specs.Borrow.{LendsSoOk, MutBor, Fml}
use Rattle.std.specs.declared.alloc.AllocError.{AllocError}
use Rattle.link_input.specs.declared.internal_symbols.SymbolPlacement.{SymbolPlacement}
use Rattle.link_input.specs.declared.internal_symbols.InternalSymDefInfo.{InternalSymDefInfo}
use Rattle.link_input.specs.contracts.builder.InternalSymbolsBuilder as builder_row
use Rattle.link_input.specs.contracts.internal_symbols.InternalSymDefInfo as definition_row

-- a definition that isn't hidden
abbrev pub visible : SymbolPlacement → List ℕ → InternalSymDefInfo
visible placement name = record { placement = placement; name = name; hidden = false }

-- at Ok there is one definition more, the last value behind the result; at Err there are the same
abbrev pub LendsAdded : MutBor (List InternalSymDefInfo) → Result (MutBor InternalSymDefInfo) AllocError → Fml
LendsAdded b r = LendsSoOk builder_row.the_row definition_row.the_row b r (λ after last. after ≡ b.now ++ last ∷ []) (λ after. after ≡ b.now)

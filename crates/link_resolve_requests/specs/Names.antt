-- The names that definitions of the linker bring: those that the user wants to be defined, and those that redirects refer to.
use Rattle.std.specs.Prelude.{List, filter, map}
use Rattle.std.specs.List.{flat_map}
use Rattle.link_input.specs.declared.internal_symbols.InternalSymDefInfo.{InternalSymDefInfo}
use Rattle.link_input.specs.declared.world.ProcessedLinkerScript.{ProcessedLinkerScript}
use Rattle.link_rules.specs.Loading.{is_forced_placement, targets_of_placement}
use Rattle.link_rules.specs.Places.{Bytes}

-- the names among definitions that the user wants to be defined
abbrev pub forced_in : List InternalSymDefInfo → List Bytes
forced_in definitions = map (λ d. d.name) (filter (λ d. is_forced_placement d.placement) definitions)

-- the names that the redirects among definitions refer to
abbrev pub targets_in : List InternalSymDefInfo → List Bytes
targets_in definitions = flat_map (λ (d : InternalSymDefInfo). targets_of_placement d.placement) definitions

-- the names that the redirects of linker scripts refer to
abbrev pub script_targets : List ProcessedLinkerScript → List Bytes
script_targets scripts = targets_in (flat_map (λ s. s.symbol_defs) scripts)

-- The names whose objects are loaded whatever refers to them, by what a link is given.
use Rattle.std.specs.Prelude.{List, ◌++◌, filter, filter_map, map, Option, option_to_list}
use Rattle.std.specs.List.{flat_map}
use Rattle.std.specs.Option.{option_or}
use Rattle.link_input.specs.declared.internal_symbols.InternalSymDefInfo.{InternalSymDefInfo}
use Rattle.link_input.specs.declared.options.Options.{Options}
use Rattle.link_input.specs.declared.world.ProcessedLinkerScript.{ProcessedLinkerScript}
use Rattle.link_rules.specs.Loading.{is_forced_placement, targets_of_placement}
use Rattle.link_rules.specs.Places.{Bytes, last_of}

-- the entry: that of the options, else that of the last linker script that has one, else the platform's
abbrev pub entry_in : Options → List ProcessedLinkerScript → Option Bytes
entry_in options scripts = option_or options.entry (option_or (last_of (filter_map (λ s. s.entry) scripts)) options.default_entry)

-- the names of these definitions that the user wants to be defined
abbrev pub forced_in : List InternalSymDefInfo → List Bytes
forced_in definitions = map (λ d. d.name) (filter (λ d. is_forced_placement d.placement) definitions)

-- the names that these definitions refer to
abbrev pub redirected_in : List InternalSymDefInfo → List Bytes
redirected_in definitions = flat_map (λ (d : InternalSymDefInfo). targets_of_placement d.placement) definitions

-- the entry, the required names, and the names that the definitions of the prelude and of the linker scripts force or refer to
abbrev pub given_names : Options → List InternalSymDefInfo → List ProcessedLinkerScript → List Bytes → List Bytes
given_names options definitions scripts required = option_to_list (entry_in options scripts) ++ required ++ forced_in definitions
    ++ redirected_in (definitions ++ flat_map (λ s. s.symbol_defs) scripts)

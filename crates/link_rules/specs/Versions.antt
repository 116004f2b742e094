-- The version of each symbol of a shared output (LSB, "Symbol Versioning": index 1 is the global one, and those of the script's versions follow).
use Rattle.std.specs.Prelude.{ℕ, ◌==◌, ◌&&◌, List, filter_map, Bool, false, not, Option, Some, None, is_none, if◌then◌else◌, option_map, Result, Ok, Err}
use Rattle.std.specs.List.{enumerate_from}
use Rattle.link_input.specs.Entries.{is_local}
use Rattle.link_input.specs.Outputs.{is_shared_object}
use Rattle.link_script.specs.VersionOf.{Undeclared}
use Rattle.link_rules.specs.declared.linked.GivenVersion.{GivenVersion}
use Rattle.link_rules.specs.declared.refusal.LinkError.{LinkError}
use Rattle.link_rules.specs.declared.refusal.LinkError.TheVariants.{UndefinedVersion}
use Rattle.link_rules.specs.Places.{first_of}
use Rattle.link_input.specs.Symbols.{entry_passes}
use Rattle.link_rules.specs.World.{is_definition}
use Rattle.link_rules.specs.Rivals.{is_in_loaded_regular, two_steps}
use Rattle.link_rules.specs.Undefined.{Numbered, Resolution}

-- whether the version script is asked for the symbol's version: a definition of a loaded regular object that is not local
abbrev pub asks_version : Resolution → Numbered → Bool
asks_version r s = is_shared_object r.selection.stage.options.output && is_none r.selection.stage.rules.rust_names
    && is_in_loaded_regular r.selection.marks s.1.origin && is_definition s.1
    && not (entry_passes (λ e. is_local e.binding) s.1.origin) && two_steps r.table s.0 == s.0

-- what the version script answers, where it is asked
abbrev pub version_given : Resolution → Numbered → Result (Option ℕ) Undeclared
version_given r s = if asks_version r s then r.selection.stage.rules.version_of s.1.name s.1.version else Ok None

-- a symbol with its version, if it has one
abbrev pub given_version : ℕ → Result (Option ℕ) Undeclared → Option GivenVersion
given_version s (Ok index) = option_map (λ n. record { symbol = s; index = n }) index
given_version s (Err e) = None

-- the versions of all symbols, in the order of their ids
abbrev pub versions_given : Resolution → List GivenVersion
versions_given r = filter_map (λ s. given_version s.0 (version_given r s)) (enumerate_from 0 r.selection.stage.symbols)

-- an explicit version that the script doesn't declare is a cause
abbrev pub undeclared_version : Result (Option ℕ) Undeclared → Option LinkError
undeclared_version (Ok index) = None
undeclared_version (Err e) = Some (UndefinedVersion e.name e.version)

-- the first symbol whose version the script doesn't declare
abbrev pub version_refusal : Resolution → Option LinkError
version_refusal r =
    first_of (filter_map (λ s. undeclared_version (version_given r s)) (enumerate_from 0 r.selection.stage.symbols))

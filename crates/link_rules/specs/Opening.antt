-- The flags of a symbol as its file is read, before anything is loaded.
use Rattle.std.specs.Prelude.{ℕ, ◌||◌, [], ◌∷◌, Bool, true, false, not, is_some, if◌then◌else◌, option_map}
use Rattle.std.specs.Int.RustNames.{bit_or}
use Rattle.link_flags.specs.FlagBits as flag
use Rattle.link_input.specs.declared.symbol_entry.SymbolEntry.{SymbolEntry}
use Rattle.link_input.specs.declared.internal_symbols.SymbolLoc.{SymbolLoc}
use Rattle.link_input.specs.declared.internal_symbols.SymbolLoc.TheVariants as loc
use Rattle.link_input.specs.declared.internal_symbols.SymbolPlacement.{SymbolPlacement}
use Rattle.link_input.specs.declared.internal_symbols.SymbolPlacement.TheVariants as placement
use Rattle.link_input.specs.Entries.{is_undefined, is_absolute, is_ifunc, is_func, is_tls, is_local}
use Rattle.link_rules.specs.Flags.{flags_if, joined_flags}
use Rattle.link_input.specs.Symbols.{Symbol, Origin, in_prelude, in_object, in_script, in_stub}
use Rattle.link_rules.specs.World.{Stage}

-- the redirect stands at a section or between sections
abbrev pub has_location : SymbolLoc → Bool
has_location (loc.SectionStartRelative n) = true
has_location (loc.SectionEndRelative n) = true
has_location (loc.SectionEnd n) = true
has_location loc.FirstSection = true
has_location (loc.LocationCounter c) = true
has_location loc.None = false

-- what moves with no section is absolute, and what the linker defines is its own
abbrev pub placement_flags : SymbolPlacement → ℕ
placement_flags placement.Undefined = flag.absolute
placement_flags placement.ForceUndefined = flag.absolute
placement_flags (placement.SectionStart n) = flag.non_interposable
placement_flags (placement.SectionEnd n) = flag.non_interposable
placement_flags (placement.TlsEnd n) = flag.non_interposable
placement_flags (placement.SectionGroupEnd n) = flag.non_interposable
placement_flags (placement.Redirect r) = bit_or flag.non_interposable (flags_if (not (has_location r.loc)) flag.absolute)
placement_flags placement.LoadBaseAddress = flag.non_interposable
placement_flags placement.PlatformSpecific = bit_or flag.non_interposable flag.absolute

-- an entry of a shared object is dynamic
abbrev pub shared_flags : SymbolEntry → ℕ
shared_flags e = joined_flags
    (flag.dynamic ∷ flags_if (is_func e.kind || is_ifunc e.kind) flag.dynamic_function
    ∷ flags_if (is_undefined e.place) flag.absolute ∷ [])

-- where an entry of a regular object stands
abbrev pub place_flags : SymbolEntry → ℕ
place_flags e =
    if is_absolute e.place then flag.absolute
    else (if is_ifunc e.kind then flag.ifunc else flags_if (is_undefined e.place) flag.absolute)

-- what the version script makes local; a script of the Rust form does so with all, at first
abbrev pub script_flags : Stage → SymbolEntry → ℕ
script_flags w e =
    if is_undefined e.place || is_local e.binding then 0
    else (if is_some w.rules.rust_names then flag.downgrade_to_local
    else flags_if (w.rules.is_local_name e.name)
    (bit_or flag.downgrade_to_local (flags_if (not (is_tls e.kind)) flag.non_interposable)))

-- no other file may take its place at run time, by the platform's rule
abbrev pub is_non_interposable : Stage → SymbolEntry → Bool
is_non_interposable w e =
    w.rules.is_non_interposable e w.options.output (option_map (λ is_exported. is_exported e.name) w.rules.is_exported)

-- an entry of a regular object: its place, the platform's rule, and the version script
abbrev pub regular_flags : Stage → SymbolEntry → ℕ
regular_flags w e =
    joined_flags (place_flags e ∷ flags_if (is_non_interposable w e) flag.non_interposable ∷ script_flags w e ∷ [])

-- by where the symbol comes from
abbrev pub source_flags : Stage → Origin → ℕ
source_flags w (in_prelude d) = bit_or (placement_flags d.placement) (flags_if d.hidden flag.downgrade_to_local)
source_flags w (in_object n shared e) = if shared then shared_flags e else regular_flags w e
source_flags w (in_script d) = bit_or flag.non_interposable (flags_if d.hidden flag.downgrade_to_local)
source_flags w (in_stub strength) = flag.dynamic

-- the flags of each symbol as its file is read
abbrev pub opening_flags : Stage → Symbol → ℕ
opening_flags w x = source_flags w x.origin

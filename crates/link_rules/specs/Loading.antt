-- Which objects are loaded.
use Rattle.std.specs.Prelude.{◌≡◌, ℕ, ◌&&◌, ◌||◌, List, [], ◌++◌, filter, filter_map, map, length, Bool, false, true, not, Option, None, IsTrue, slice_get, option_and_then, option_to_list, if◌then◌else◌, Some}
use Rattle.std.specs.Option.{option_map_or, option_or}
use Rattle.std.specs.List.{flat_map, list_any}
use Rattle.link_closure.specs.Closure.{IsLeastClosed, is_marked}
use Rattle.link_input.specs.declared.internal_symbols.SymbolPlacement.{SymbolPlacement}
use Rattle.link_input.specs.declared.internal_symbols.SymbolPlacement.TheVariants.{Undefined, ForceUndefined, SectionStart, SectionEnd, TlsEnd, SectionGroupEnd, Redirect, LoadBaseAddress, PlatformSpecific}
use Rattle.link_input.specs.declared.internal_symbols.InternalSymDefInfo.{InternalSymDefInfo}
use Rattle.link_input.specs.declared.options.Options.{Options}
use Rattle.link_input.specs.Entries.{is_weak}
use Rattle.link_input.specs.ObjectFile.{is_optional}
use Rattle.link_input.specs.PreludeSymbols.{prelude_symbols}
use Rattle.link_input.specs.Symbols.{Symbol, Origin, object_in, is_shared, entry_passes}
use Rattle.link_rules.specs.Places.{Bytes, last_of, is_number, same_number}
use Rattle.link_rules.specs.World.{Stage, object_of, is_shared_at, is_reference, holds_at}
use Rattle.link_rules.specs.Names.{first_definition}
use Rattle.link_rules.specs.Targets.{kept_target}

-- the entry: that of the options, else that of the last linker script that has one, else the platform's
abbrev pub entry_name : Stage → Option Bytes
entry_name w = option_or w.options.entry
    (option_or (last_of (filter_map (λ s. s.entry) w.scripts)) w.options.default_entry)

-- the placement of a name that the user wants to be defined
abbrev pub is_forced_placement : SymbolPlacement → Bool
is_forced_placement Undefined = false
is_forced_placement ForceUndefined = true
is_forced_placement (SectionStart n) = false
is_forced_placement (SectionEnd n) = false
is_forced_placement (TlsEnd n) = false
is_forced_placement (SectionGroupEnd n) = false
is_forced_placement (Redirect r) = false
is_forced_placement LoadBaseAddress = false
is_forced_placement PlatformSpecific = false

-- the names that the user wants to be defined, as the prelude has them
abbrev pub forced_names : Options → List Bytes
forced_names options = map (λ d. d.name) (filter (λ d. is_forced_placement d.placement) (prelude_symbols options))

-- the names that a redirect refers to
abbrev pub targets_of_placement : SymbolPlacement → List Bytes
targets_of_placement Undefined = []
targets_of_placement ForceUndefined = []
targets_of_placement (SectionStart n) = []
targets_of_placement (SectionEnd n) = []
targets_of_placement (TlsEnd n) = []
targets_of_placement (SectionGroupEnd n) = []
targets_of_placement (Redirect r) = r.targets
targets_of_placement LoadBaseAddress = []
targets_of_placement PlatformSpecific = []

-- the names that the redirects of the prelude and of the linker scripts refer to
abbrev pub redirect_targets : Stage → List Bytes
redirect_targets w = flat_map (λ (d : InternalSymDefInfo). targets_of_placement d.placement)
    (prelude_symbols w.options ++ flat_map (λ s. s.symbol_defs) w.scripts)

-- the names whose objects are loaded whatever refers to them
abbrev pub root_names : Stage → List Bytes
root_names w = option_to_list (entry_name w) ++ w.rules.required_exports ++ forced_names w.options ++ redirect_targets w

-- whether the object holds what a name is mapped to
abbrev pub holds_name : Stage → ℕ → Bytes → Bool
holds_name w f name = is_number (option_and_then (object_of w) (first_definition w name)) f

-- the symbols that root names are mapped to, in the order of the names
abbrev pub root_symbols : Stage → List ℕ
root_symbols w = filter_map (first_definition w) (root_names w)

-- an object that is not optional, or that holds what a root name is mapped to
abbrev pub is_required : Stage → ℕ → Bool
is_required w f = option_map_or (λ o. not (is_optional o)) (slice_get w.objects f) false || list_any (holds_name w f) (root_names w)

-- what an earlier batch had loaded stays loaded
abbrev pub is_root : Stage → ℕ → Bool
is_root w f = is_marked w.earlier.loaded f || is_required w f

-- the object is loaded whatever refers to it
abbrev pub IsRoot : Stage → ℕ → Type 0
IsRoot w f = IsTrue (is_root w f)

-- the object of a target, where that loads it: another one, and not both are shared. What one shared object wants of another is left to the dynamic loader, as
-- lld keeps an `--as-needed` library for the references of regular objects alone
abbrev pub request_between : Stage → Symbol → ℕ → Option ℕ
request_between w u t =
    if (is_shared u.origin && is_shared_at w t) || same_number (object_in u.origin) (object_of w t)
    then None else object_of w t

-- the object that the symbol of an id asks for: only a reference that is not weak asks for any, since no archive member is extracted for a weak one (ELF gABI,
-- "Symbol Table", `STB_WEAK`)
abbrev pub request_of : Stage → ℕ → Symbol → Option ℕ
request_of w s u =
    if is_reference u && not (entry_passes (λ e. is_weak e.binding) u.origin)
    then option_and_then (request_between w u) (kept_target w s u) else None

-- some reference of f asks for g, wherever both stand: archives are searched whatever their order, as lld and mold do, and GNU ld from left to right
abbrev pub HasEdge : Stage → ℕ → ℕ → Type 0
HasEdge w f g = (s : ℕ) × (u : Symbol) × (slice_get w.symbols s ≡ Some u) × (object_in u.origin ≡ Some f) × (request_of w s u ≡ Some g)

-- the loaded objects, one mark each
abbrev pub IsLoaded : Stage → List Bool → Type 0
IsLoaded w marks = IsLeastClosed (IsRoot w) (HasEdge w) (length w.objects) marks

-- whether the file of a symbol is loaded; the prelude, linker scripts and stub libraries always are
abbrev pub is_origin_loaded : List Bool → Origin → Bool
is_origin_loaded marks origin = option_map_or (is_marked marks) (object_in origin) true

-- whether the file of the symbol of this id is loaded
abbrev pub is_loaded : Stage → List Bool → ℕ → Bool
is_loaded w marks s = holds_at w (λ x. is_origin_loaded marks x.origin) s

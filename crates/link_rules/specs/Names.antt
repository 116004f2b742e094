-- The definitions of a name, in the order of their ids, and which of them the name is mapped to.
use Rattle.std.specs.Prelude.{ℕ, ◌&&◌, List, [], ◌++◌, Bool, true, false, not, Option, Some, None, is_some, if◌then◌else◌, codes, fold, slice_get}
use Rattle.std.specs.Option.{option_map_or, option_or}
use Rattle.std.specs.Str.{bytes_eq}
use Rattle.link_input.specs.declared.internal_symbols.SymbolPlacement.{SymbolPlacement}
use Rattle.link_input.specs.declared.internal_symbols.SymbolPlacement.TheVariants.{Undefined, ForceUndefined, SectionStart, SectionEnd, TlsEnd, SectionGroupEnd, Redirect, LoadBaseAddress, PlatformSpecific}
use Rattle.link_input.specs.Entries.{is_local}
use Rattle.link_input.specs.Symbols.{Symbol, Origin, in_prelude, in_object, in_script, in_stub}
use Rattle.link_rules.specs.Places.{Bytes, places_from, first_of, behind_head, is_empty, same_version}
use Rattle.link_rules.specs.World.{Stage, is_definition}

-- the undefined symbol and the forced undefined names define nothing
abbrev pub is_defining : SymbolPlacement → Bool
is_defining Undefined = false
is_defining ForceUndefined = false
is_defining (SectionStart n) = true
is_defining (SectionEnd n) = true
is_defining (TlsEnd n) = true
is_defining (SectionGroupEnd n) = true
is_defining (Redirect r) = true
is_defining LoadBaseAddress = true
is_defining PlatformSpecific = true

-- whether a definition of this name and origin is found by its plain name
abbrev pub is_named : Bytes → Origin → Bool
is_named name (in_prelude d) = is_defining d.placement
is_named name (in_object n shared e) = not (is_local e.binding) && e.is_default
is_named name (in_script d) = not (is_empty name)
is_named name (in_stub strength) = true

-- it stands in the list of its plain name
abbrev pub is_listed : Symbol → Bool
is_listed x = is_definition x && is_named x.name x.origin

-- whether it can be found by its name and version
abbrev pub is_version_named : Origin → Bool
is_version_named (in_prelude d) = false
is_version_named (in_object n shared e) = not (is_local e.binding)
is_version_named (in_script d) = false
is_version_named (in_stub strength) = false

-- it stands in the list of its name and version
abbrev pub is_version_listed : Symbol → Bool
is_version_listed x = is_definition x && is_version_named x.origin && is_some x.version

-- the definitions of a plain name among symbols, in the order of their ids
abbrev pub definitions_of : List Symbol → Bytes → List ℕ
definitions_of symbols name = places_from (λ x. is_listed x && bytes_eq x.name name) 0 symbols

-- the definitions of a name and version, in the order of their ids
abbrev pub versioned_definitions_of : List Symbol → Bytes → Bytes → List ℕ
versioned_definitions_of symbols name version =
    places_from (λ x. is_version_listed x && bytes_eq x.name name && same_version x.version (Some version)) 0 symbols

-- the definitions of its name that come after the symbol, where it is the first of them
abbrev pub later_definitions : List Symbol → ℕ → List ℕ
later_definitions symbols s = option_map_or (λ x. behind_head s (definitions_of symbols x.name)) (slice_get symbols s) []

-- what each name is mapped to
abbrev pub Mapping : Type 0
Mapping = Bytes → Option ℕ

-- one name is mapped anew, if there is a symbol for it
abbrev pub mapping_with : Bytes → Option ℕ → Mapping → Mapping
mapping_with name None old = old
mapping_with name (Some s) old = λ n. if bytes_eq n name then Some s else old n

-- the symbol that a wrapped name had: that of its real name, if one is mapped
abbrev pub original_of : Mapping → Bytes → Option ℕ
original_of old name = option_or (old (codes "__real_" ++ name)) (old name)

-- a wrapped name stands for its wrapper, and its real name for what it had (GNU ld, `--wrap`)
abbrev pub wrapped : Mapping → Bytes → Mapping
wrapped old name =
    mapping_with (codes "__real_" ++ name) (original_of old name) (mapping_with name (old (codes "__wrap_" ++ name)) old)

-- each name is mapped to its first definition
abbrev pub unwrapped : List Symbol → Mapping
unwrapped symbols = λ name. first_of (definitions_of symbols name)

-- what a name is mapped to: its first definition, but for the wraps, which are done anew with each batch
abbrev pub first_definition : Stage → Mapping
first_definition w = fold wrapped (unwrapped w.symbols) w.options.wrap

-- what a name with a version is mapped to: its first definition
abbrev pub first_versioned_definition : List Symbol → Bytes → Bytes → Option ℕ
first_versioned_definition symbols name version = first_of (versioned_definitions_of symbols name version)

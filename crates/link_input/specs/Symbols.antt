-- The symbols of the files of a link in one list. A symbol's id is its place in that list.
use Rattle.std.specs.Prelude.{ℕ, ◌+◌, Bool, true, false, List, [], ◌∷◌, ◌++◌, map, Option, Some, None, nat_lt, slice_get, option_map, if◌then◌else◌}
use Rattle.std.specs.Option.{option_and_then, option_map_or}
use Rattle.link_ids.specs.Span.{Span, id_at}
use Rattle.link_flags.specs.declared.strength.SymbolStrength.{SymbolStrength}
use Rattle.link_flags.specs.declared.strength.SymbolStrength.TheVariants.{Undefined, Weak, Strong}
use Rattle.link_flags.specs.declared.visibility.Visibility.{Visibility}
use Rattle.link_flags.specs.declared.visibility.Visibility.TheVariants.{Default}
use Rattle.link_input.specs.declared.internal_symbols.InternalSymDefInfo.{InternalSymDefInfo}
use Rattle.link_input.specs.declared.symbol_entry.SymbolEntry.{SymbolEntry}
use Rattle.link_input.specs.declared.world.StubSymbol.{StubSymbol}
use Rattle.link_input.specs.BindingStrength as entry
use Rattle.link_input.specs.Entries.{section_of}
use Rattle.link_input.specs.ObjectFile.{ObjectFile}
use Rattle.link_input.specs.InputFiles.{InputFile, prelude, object, linker_script, stub_library, synthetic, object_count}

-- where a symbol comes from; that of an object has the object's place, and says whether it is a shared object
pub data Origin : Type 0 where
  in_prelude : (definition : InternalSymDefInfo) → Origin
  in_object : (object : ℕ) (is_dynamic : Bool) (entry : SymbolEntry) → Origin
  in_script : (definition : InternalSymDefInfo) → Origin
  in_stub : (strength : SymbolStrength) → Origin

-- a symbol of a link: its name, its version if it has one, and where it comes from
pub record Symbol : Type 0 where
  pub name : List ℕ
  pub version : Option (List ℕ)
  pub origin : Origin

-- a symbol without a version
abbrev pub symbol_of : List ℕ → Origin → Symbol
symbol_of name origin = record { name = name; version = None; origin = origin }

-- the symbol of an entry of the object at this place
abbrev pub object_symbol : ℕ → ObjectFile → SymbolEntry → Symbol
object_symbol n o e = record { name = e.name; version = e.version; origin = in_object n o.object.is_dynamic e }

-- strong or weak, by the list of the library that names it
abbrev pub stub_strength : StubSymbol → SymbolStrength
stub_strength s = if s.is_weak then Weak else Strong

-- the symbols of a file, before which there are so many objects
abbrev pub file_symbols : ℕ → InputFile → List Symbol
file_symbols n (prelude symbols) = map (λ d. symbol_of d.name (in_prelude d)) symbols
file_symbols n (object o) = map (object_symbol n o) o.object.symbols
file_symbols n (linker_script s) = map (λ d. symbol_of d.name (in_script d)) s.symbol_defs
file_symbols n (stub_library input symbols) = map (λ s. symbol_of s.name (in_stub (stub_strength s))) symbols
file_symbols n synthetic = []

-- the symbols of files, before which there are so many objects
abbrev pub symbols_of : ℕ → List InputFile → List Symbol
symbols_of n [] = []
symbols_of n (f ∷ fs) = file_symbols n f ++ symbols_of (n + object_count f) fs

-- the place of the object that holds a symbol
abbrev pub object_in : Origin → Option ℕ
object_in (in_prelude d) = None
object_in (in_object n shared e) = Some n
object_in (in_script d) = None
object_in (in_stub strength) = None

-- it stands in a shared object or in a stub library
abbrev pub is_shared : Origin → Bool
is_shared (in_prelude d) = false
is_shared (in_object n shared e) = shared
is_shared (in_script d) = false
is_shared (in_stub strength) = true

-- the entry of an object's symbol
abbrev pub entry_in : Origin → Option SymbolEntry
entry_in (in_prelude d) = None
entry_in (in_object n shared e) = Some e
entry_in (in_script d) = None
entry_in (in_stub strength) = None

-- it is an object's symbol, whose entry passes the test
abbrev pub entry_passes : (SymbolEntry → Bool) → Origin → Bool
entry_passes p origin = option_map_or p (entry_in origin) false

-- how strongly a symbol binds, whether its file is loaded or not; the linker's own symbols yield to all others
abbrev pub binding_strength : Origin → SymbolStrength
binding_strength (in_prelude d) = Undefined
binding_strength (in_object n shared e) = entry.binding_strength e
binding_strength (in_script d) = Undefined
binding_strength (in_stub strength) = strength

-- only objects' symbols have another visibility than the default one
abbrev pub visibility_in : Origin → Visibility
visibility_in (in_prelude d) = Default
visibility_in (in_object n shared e) = e.visibility
visibility_in (in_script d) = Default
visibility_in (in_stub strength) = Default

-- the id of the section of an entry, where these ids have one for it
abbrev pub section_id : Span → SymbolEntry → Option ℕ
section_id ids e = option_and_then (λ n. if nat_lt n ids.len then Some (id_at ids n) else None) (section_of e.place)

-- the id of the section that a symbol stands in; only objects' symbols stand in sections of files
abbrev pub section_in : Span → Origin → Option ℕ
section_in ids (in_prelude d) = None
section_in ids (in_object n shared e) = section_id ids e
section_in ids (in_script d) = None
section_in ids (in_stub strength) = None

-- the symbol of a file at a place; what is asked of it below doesn't depend on the place of its object
abbrev pub symbol_at : InputFile → ℕ → Option Symbol
symbol_at f i = slice_get (file_symbols 0 f) i

-- the name of a file's symbol at a place
abbrev pub name_at : InputFile → ℕ → Option (List ℕ)
name_at f i = option_map (λ (x : Symbol). x.name) (symbol_at f i)

-- its version; only objects' symbols have one
abbrev pub version_at : InputFile → ℕ → Option (List ℕ)
version_at f i = option_and_then (λ (x : Symbol). x.version) (symbol_at f i)

-- how strongly it binds; the start and stop symbols that the linker adds behind all files yield to all others
abbrev pub strength_at : InputFile → ℕ → Option SymbolStrength
strength_at synthetic i = Some Undefined
strength_at f i = option_map (λ (x : Symbol). binding_strength x.origin) (symbol_at f i)

-- the id of the section that it stands in
abbrev pub section_at : InputFile → Span → ℕ → Option ℕ
section_at f ids i = option_and_then (λ (x : Symbol). section_in ids x.origin) (symbol_at f i)

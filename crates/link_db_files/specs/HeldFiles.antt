-- The files that a link holds, and what is asked of their symbols.
use Rattle.std.specs.Prelude.{ℕ, ◌++◌, Bool, false, List, map, Option, option_and_then, slice_get}
use Rattle.std.specs.Option.{option_map_or}
use Rattle.link_flags.specs.declared.strength.SymbolStrength.{SymbolStrength}
use Rattle.link_flags.specs.declared.strength.SymbolStrength.TheVariants.{Undefined}
use Rattle.link_flags.specs.declared.visibility.Visibility.{Visibility}
use Rattle.link_flags.specs.declared.visibility.Visibility.TheVariants.{Default}
use Rattle.link_input.specs.declared.internal_symbols.InternalSymDefInfo.{InternalSymDefInfo}
use Rattle.link_input.specs.declared.symbol_entry.SymbolEntry.{SymbolEntry}
use Rattle.link_input.specs.Entries.{is_undefined}
use Rattle.link_input.specs.Symbols.{binding_strength, entry_in, entry_passes, is_shared, object_in, visibility_in}
use Rattle.link_input_groups.specs.declared.group.Group.{Group}
use Rattle.link_db_files.specs.GroupFiles.{symbols_in}
use Rattle.link_db_files.specs.Origins.{definition_in}

-- the files of a link in their groups, and the names of the symbols that the linker added behind those of all files
pub record HeldFiles (P : Type 0) : Type 0 where
  pub groups : List (Group P)
  pub added : List (List ℕ)

-- the names of all symbols: a symbol's id is its place here
abbrev pub names_in : {P : Type 0} → HeldFiles P → List (List ℕ)
names_in held = map (λ x. x.name) (symbols_in held.groups) ++ held.added

-- the version of the symbol, where it has one
abbrev pub version_of : {P : Type 0} → HeldFiles P → ℕ → Option (List ℕ)
version_of held id = option_and_then (λ x. x.version) (slice_get (symbols_in held.groups) id)

-- how strongly the symbol binds; those that the linker added yield to all others
abbrev pub strength_of : {P : Type 0} → HeldFiles P → ℕ → SymbolStrength
strength_of held id = option_map_or (λ x. binding_strength x.origin) (slice_get (symbols_in held.groups) id) Undefined

-- the symbol stands in a shared object or in a stub library
abbrev pub is_shared_in : {P : Type 0} → HeldFiles P → ℕ → Bool
is_shared_in held id = option_map_or (λ x. is_shared x.origin) (slice_get (symbols_in held.groups) id) false

-- the place of the symbol's object among all objects, where it stands in one
abbrev pub object_with : {P : Type 0} → HeldFiles P → ℕ → Option ℕ
object_with held id = option_and_then (λ x. object_in x.origin) (slice_get (symbols_in held.groups) id)

-- the entry of the symbol, where it stands in an object
abbrev pub entry_of : {P : Type 0} → HeldFiles P → ℕ → Option SymbolEntry
entry_of held id = option_and_then (λ x. entry_in x.origin) (slice_get (symbols_in held.groups) id)

-- the definition of the symbol, where it stands in the prelude
abbrev pub prelude_definition_of : {P : Type 0} → HeldFiles P → ℕ → Option InternalSymDefInfo
prelude_definition_of held id = option_and_then (λ x. definition_in x.origin) (slice_get (symbols_in held.groups) id)

-- how far the symbol is seen; those that the linker added are seen as others are by default
abbrev pub visibility_of : {P : Type 0} → HeldFiles P → ℕ → Visibility
visibility_of held id = option_map_or (λ x. visibility_in x.origin) (slice_get (symbols_in held.groups) id) Default

-- the symbol stands in an object that doesn't define it
abbrev pub is_undefined_in : {P : Type 0} → HeldFiles P → ℕ → Bool
is_undefined_in held id = option_map_or (λ x. entry_passes (λ e. is_undefined e.place) x.origin) (slice_get (symbols_in held.groups) id) false

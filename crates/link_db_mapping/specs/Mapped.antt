-- Which symbols define a name, and what it is mapped to.
use Rattle.std.specs.Prelude.{◌≡◌, ℕ, Bool, false, List, [], Option, None, Some, slice_get}
use Rattle.std.specs.List.{slice_index_or}
use Rattle.std.specs.Option.{option_map_or, option_or}
use Rattle.link_db_buckets.specs.Keys.{Key}
use Rattle.link_db_files.specs.HeldFiles.{HeldFiles, names_in, version_of}
use Rattle.link_input.specs.Symbols.{Symbol}
use Rattle.link_rules.specs.Names.{Mapping, definitions_of, versioned_definitions_of}
use Rattle.link_rules.specs.Places.{behind_head, first_of}
use Rattle.link_db_mapping.specs.Keys.{plain_key, versioned_key}

-- the files of a link, the ids of the definitions of each name, or name and version, in order, and what plain names were overridden with
pub record Mapped (P : Type 0) : Type 0 where
  pub files : HeldFiles P
  pub lists : Key → List ℕ
  pub overridden : List ℕ → Option ℕ

-- what a key was overridden with: none that has a version was
abbrev pub override_of : {P : Type 0} → Mapped P → List ℕ → Option (List ℕ) → Option ℕ
override_of m name None = m.overridden name
override_of m name (Some version) = None

-- what a key is mapped to: what it was overridden with, else its first definition
abbrev pub mapped_key : {P : Type 0} → Mapped P → Key → Option ℕ
mapped_key m key = option_or (override_of m key.name key.version) (first_of (m.lists key))

-- what each plain name is mapped to
abbrev pub mapping_of : {P : Type 0} → Mapped P → Mapping
mapping_of m = λ name. mapped_key m (plain_key name)

-- the lists are those of these symbols
pub record AreListed {P : Type 0} (symbols : List Symbol) (m : Mapped P) : Type 0 where
  pub plain : (name : List ℕ) → m.lists (plain_key name) ≡ definitions_of symbols name
  pub versioned : (name version : List ℕ) → m.lists (versioned_key name version) ≡ versioned_definitions_of symbols name version

-- the definitions of its name, with this version or without one, that come after the symbol, where it is the first of them
abbrev pub later_with : {P : Type 0} → Mapped P → Option (List ℕ) → ℕ → List ℕ
later_with m version id = option_map_or (λ name. behind_head id (m.lists (record { name = name; version = version }))) (slice_get (names_in m.files) id) []

-- the definitions of its name that come after the symbol, where it is the first of them
abbrev pub later_in : {P : Type 0} → Mapped P → ℕ → List ℕ
later_in m id = later_with m None id

-- the definitions of its name and version that come after the symbol, where it is the first of them
abbrev pub later_versioned_in : {P : Type 0} → Mapped P → ℕ → List ℕ
later_versioned_in m id = option_map_or (λ version. later_with m (Some version) id) (version_of m.files id) []

-- a symbol without a mark has no definitions that come later, neither by its name nor by its name and version
pub record AreHeadsMarked {P : Type 0} (m : Mapped P) (marks : List Bool) : Type 0 where
  pub plain : (id : ℕ) → slice_index_or marks id false ≡ false → later_in m id ≡ []
  pub versioned : (id : ℕ) → slice_index_or marks id false ≡ false → later_versioned_in m id ≡ []

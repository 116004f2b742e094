-- What is added behind the files of batches.
use Rattle.std.specs.Prelude.{ℕ, ◌≡◌, ◌+◌, ◌^◌, ◌<◌, List, [], ◌∷◌, ◌++◌, length}
use Rattle.std.specs.List.{AllByRecursion}
use Rattle.link_ids.specs.FilePlace.{FilePlace}
use Rattle.link_ids.specs.Span.{Span}
use Rattle.link_input.specs.InputFiles.{symbol_count}
use Rattle.link_input.specs.SequencedFiles.{SequencedFile}
use Rattle.link_input_groups.specs.declared.group.Group.{Group}
use Rattle.link_input_groups.specs.declared.group.Group.TheVariants as group
use Rattle.link_input_groups.specs.declared.sequenced.SyntheticSymbols.{SyntheticSymbols}
use Rattle.link_input_groups.specs.FileIds.{ids_from}
use Rattle.link_input_groups.specs.Groups.{file_ids, files_of}
use Rattle.link_db_files.specs.HeldFiles.{HeldFiles, names_in}

-- no ids, where the next one would be this
abbrev pub no_ids : ℕ → Span
no_ids next = record { start = next; len = 0 }

-- a file without symbols and without ids for any
abbrev pub HasNoSymbols : ℕ → SequencedFile → Type 0
HasNoSymbols next f = (symbol_count f.file ≡ 0) × (f.symbols ≡ no_ids next)

-- a group of files without symbols, with the ids of the next group's files
pub record CanFollow {P : Type 0} (held : HeldFiles P) (g : Group P) : Type 0 where
  pub ids : file_ids g ≡ ids_from (length held.groups) 0 (files_of g)
  pub none : AllByRecursion (HasNoSymbols (length (names_in held))) (files_of g)

-- the first file of the next group
abbrev pub next_file : {P : Type 0} → HeldFiles P → FilePlace
next_file held = record { group = length held.groups; file = 0 }

-- the next group, for symbols that the linker adds, of which there is none yet
abbrev pub synthetic_group : {P : Type 0} → HeldFiles P → Group P
synthetic_group held = group.SyntheticSymbols (record { file_id = next_file held; symbol_id_range = no_ids (length (names_in held)) })

-- the same symbols with another number of ids
abbrev pub with_len : SyntheticSymbols → ℕ → SyntheticSymbols
with_len s len = record s { symbol_id_range = record { start = s.symbol_id_range.start; len = len } }

-- a group with an id more, if it is of symbols that the linker adds
abbrev pub grown : {P : Type 0} → Group P → Group P
grown (group.SyntheticSymbols s) = group.SyntheticSymbols (with_len s (s.symbol_id_range.len + 1))
grown g = g

-- groups of which the last one has an id more
abbrev pub with_id : {P : Type 0} → List (Group P) → List (Group P)
with_id [] = []
with_id (g ∷ []) = grown g ∷ []
with_id (g ∷ h ∷ gs) = g ∷ with_id (h ∷ gs)

-- the last group is of symbols that the linker adds
abbrev pub EndsInSynthetic : {P : Type 0} → List (Group P) → Type 0
EndsInSynthetic {P} groups = (before : List (Group P)) × ((s : SyntheticSymbols) × (groups ≡ before ++ group.SyntheticSymbols s ∷ []))

-- with the name of one more symbol that the linker adds, whose id is the last group's
abbrev pub with_symbol : {P : Type 0} → HeldFiles P → List ℕ → HeldFiles P
with_symbol held name = record { groups = with_id held.groups; added = held.added ++ name ∷ [] }

-- the last symbol was added to these by the linker
pub record HadBefore {P : Type 0} (held before : HeldFiles P) : Type 0 where
  pub name : List ℕ
  pub last : EndsInSynthetic before.groups
  pub is : held ≡ with_symbol before name

-- the id behind those of the last group, if that is of symbols that the linker adds, is one that 32 bits can say
abbrev pub HasRoom : {P : Type 0} → List (Group P) → Type 0
HasRoom {P} groups = (before : List (Group P)) (s : SyntheticSymbols) → groups ≡ before ++ group.SyntheticSymbols s ∷ [] → s.symbol_id_range.start + (s.symbol_id_range.len + 1) < 2 ^ 32

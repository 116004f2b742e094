-- What the symbols of items stand for and ask for, told by where symbols stand, by what earlier batches settled, and by what names mean.
use Rattle.std.specs.Prelude.{◌≡◌, ℕ, List, map, Bool, false, Option, None, Some, if◌then◌else◌, is_some, option_map, option_to_list, length, slice_get}
use Rattle.std.specs.List.{flat_map}
use Rattle.std.specs.Option.{option_map_or}
use Rattle.link_closure.specs.declared.workload.Mark.{Mark}
use Rattle.link_input.specs.Symbols.{Symbol}
use Rattle.link_rules.specs.Marking.{reference_flags}
use Rattle.link_rules.specs.Targets.{is_open, target_in}
use Rattle.link_rules.specs.World.{is_reference}
use Rattle.link_db_symbols.specs.Lookups.{target_at}
use Rattle.link_db_files.specs.GroupFiles.{symbols_in}
use Rattle.link_db_files.specs.Sources.{sources_of}
use Rattle.link_db_files.specs.declared.sources.SymbolSource.{SymbolSource}
use Rattle.link_resolve_requests.specs.Requests.{request_by}
use Rattle.link_db.specs.Database.{Database, name_table_of}
use Rattle.link_resolve_extraction.specs.declared.found.FoundItem.{FoundItem}
use Rattle.link_resolve_extraction.specs.declared.found.FoundReference.{FoundReference}
use Rattle.link_resolve_extraction.specs.declared.found.ReadItem.{ReadItem}

-- where each symbol stands, what the references of earlier batches stand for, and what any other reference stands for
pub record Known : Type 0 where
  pub sources : List SymbolSource
  pub settled : List (Option ℕ)
  pub target : Symbol → Option ℕ

-- what is known by a database, on a platform that lets weak definitions pass by common ones or not
abbrev pub known_by : {P : Type 0} → Bool → Database P → List (Option ℕ) → Known
known_by weak_overrides_common db settled = record {
  sources = sources_of (symbols_in db.mapping.files.groups);
  settled = settled;
  target = λ x. target_in weak_overrides_common (name_table_of db) (is_open x) x.name x.version;
}

-- these are symbols of all, each with its id
abbrev pub ArePart : List Symbol → List (ℕ × Symbol) → Type 0
ArePart all symbols = (at : ℕ) (s : ℕ × Symbol) → slice_get symbols at ≡ Some s → slice_get all s.0 ≡ Some s.1

-- what a symbol means, where it is a reference
abbrev pub meant : Known → Symbol → Option ℕ
meant known x = if is_reference x then known.target x else None

-- what a symbol stands for anew: what an earlier batch settled is done
abbrev pub new_target : Known → ℕ × Symbol → Option ℕ
new_target known s = if is_some (target_at known.settled s.0) then None else meant known s.1

-- whether the symbol of this id stands in a shared file
abbrev pub is_shared_by : List SymbolSource → ℕ → Bool
is_shared_by sources t = option_map_or (λ s. s.is_shared) (slice_get sources t) false

-- the object that it requests
abbrev pub requests_by : Known → ℕ × Symbol → List ℕ
requests_by known s = option_to_list (request_by known.sources s.1 (new_target known s))

-- the mark of a reference on this symbol
abbrev pub mark_by : List SymbolSource → Symbol → ℕ → Mark
mark_by sources x t = record { symbol = t; bits = reference_flags x (is_shared_by sources t) }

-- the mark that it makes
abbrev pub marks_by : Known → ℕ × Symbol → List Mark
marks_by known s = option_to_list (option_map (mark_by known.sources s.1) (new_target known s))

-- its id, with what it stands for
abbrev pub targets_by : Known → ℕ × Symbol → List (ℕ × ℕ)
targets_by known s = option_to_list (option_map (λ t. (s.0, t)) (new_target known s))

-- a reference that was found, with what it stands for
abbrev pub found_target : FoundReference → ℕ × ℕ
found_target r = (r.reference, r.target)

-- its mark
abbrev pub found_mark : FoundReference → Mark
found_mark r = record { symbol = r.target; bits = r.flags.0 }

-- what is read in these symbols: what they request, what they stand for, and their marks
pub record IsReadIn (known : Known) (symbols : List (ℕ × Symbol)) (read : ReadItem) : Type 0 where
  pub requests : read.requests.items ≡ flat_map (requests_by known) symbols
  pub targets : map found_target read.references.items ≡ flat_map (targets_by known) symbols
  pub marks : map found_mark read.references.items ≡ flat_map (marks_by known) symbols

-- what is found in these symbols: how much they request, what they stand for, and their marks
pub record IsFoundIn (known : Known) (symbols : List (ℕ × Symbol)) (found : FoundItem) : Type 0 where
  pub requests : found.requests ≡ length (flat_map (requests_by known) symbols)
  pub targets : map found_target found.references.items ≡ flat_map (targets_by known) symbols
  pub marks : map found_mark found.references.items ≡ flat_map (marks_by known) symbols

-- The files of a batch are added.
use Rattle.std.specs.Prelude.{ℕ, ◌≡◌, ◌-◌, List, [], ◌∷◌, ◌++◌, drop, length, map, not, Option, None}
use Rattle.std.specs.List.{flat_map, range_with_len}
use Rattle.link_flags.specs.declared.value_flags.RawFlags.{RawFlags}
use Rattle.link_input_groups.specs.declared.groups_error.GroupsError.{GroupsError}
use Rattle.link_input_groups.specs.declared.groups_error.GroupsError.TheVariants as groups
use Rattle.link_input.specs.InputFiles.{Batch}
use Rattle.link_input.specs.Limits.{counts_of, first_excess}
use Rattle.link_db_ingest.specs.declared.read_symbols.ReadSymbols.{ReadSymbols}
use Rattle.link_db_ingest.specs.Files as read
use Rattle.link_rules.specs.declared.refusal.LinkError.{LinkError}
use Rattle.link_rules.specs.declared.refusal.LinkError.TheVariants.{TooMany, Memory}
use Rattle.link_rules.specs.Opening.{opening_flags}
use Rattle.link_rules.specs.Places.{is_empty}
use Rattle.link_rules.specs.Refusals.{first_cause, linker_script_cause, too_many}
use Rattle.link_rules.specs.World.{Stage}
use Rattle.link_db_files.specs.GroupFiles.{symbols_in}
use Rattle.link_db.specs.Database.{Database, HasTable, symbol_names}
use Rattle.link_flags.specs.FlagWords.{numbers_of}

-- a refusal of groups, as that of a link
abbrev pub error_of : GroupsError → LinkError
error_of (groups.TooMany kind count) = TooMany kind count
error_of groups.Memory = Memory

-- the flags that were read, in order
abbrev pub flags_in : List ReadSymbols → List ℕ
flags_in parts = flat_map (λ part. read.numbers_of part.flags.items) parts

-- the first cause that the files of a batch bring: a version text, or more of something than ids can name
abbrev pub inputs_cause : {P : Type 0} → Database P → List Batch → Batch → Option LinkError
inputs_cause db batches b = first_cause
    (linker_script_cause db.rules.profile (not (is_empty batches)) db.rules.is_taken (length (flat_map (λ x. x.scripts) batches)) b.scripts
    ∷ too_many (first_excess (counts_of db.options (batches ++ b ∷ []))) ∷ [])

-- more symbols: the table has an entry for each, of which each new one points to itself, and no name is overridden; options and workers are as before, and the linker has added no symbol
pub record IsGrown {P : Type 0} (old new : Database P) : Type 0 where
  pub options : new.options ≡ old.options
  pub workers : new.workers ≡ old.workers
  pub overridden : new.mapping.overridden ≡ (λ name. None)
  pub table : new.table ≡ old.table ++ range_with_len (length old.table) (length (symbol_names new) - length old.table)
  pub whole : HasTable new
  pub added : new.mapping.files.added ≡ old.mapping.files.added

-- the new symbols have their opening flags behind the words that there were
abbrev pub HaveOpeningFlags : {P : Type 0} → Stage → Database P → Database P → List RawFlags → List RawFlags → Type 0
HaveOpeningFlags w old new before after =
    numbers_of after ≡ numbers_of before ++ map (opening_flags w) (drop (length (symbols_in old.mapping.files.groups)) (symbols_in new.mapping.files.groups))

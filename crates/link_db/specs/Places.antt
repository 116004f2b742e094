-- Where a symbol stands, as messages show it.
use Rattle.std.specs.Prelude.{ℕ, ◌≡◌, Some}
use Rattle.link_ids.specs.Span.{offset_in}
use Rattle.link_input_groups.specs.SequencedInputs.{sequenced_file}
use Rattle.link_db_files.specs.GroupFiles.{IsIn, file_at}
use Rattle.link_db_files.specs.HeldFiles.{HeldFiles}
use Rattle.link_db_display.specs.declared.symbol_debug.SymbolPlace.{SymbolPlace}

-- the symbol stands there: in which file, and at which place among its symbols
pub record IsPlaceOf {P : Type 0} (held : HeldFiles P) (id : ℕ) (place : SymbolPlace P) : Type 0 where
  pub same : place.id ≡ id
  pub file : file_at held.groups place.file_id ≡ Some (sequenced_file place.file)
  pub within : IsIn held.groups id (sequenced_file place.file)
  pub offset : place.offset ≡ offset_in (sequenced_file place.file).symbols id

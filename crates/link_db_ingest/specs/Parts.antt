-- What is read of a group.
use Rattle.std.specs.Prelude.{◌≡◌, length}
use Rattle.std.specs.List.{flat_map}
use Rattle.link_input.specs.declared.options.OutputKind.{OutputKind}
use Rattle.link_input_groups.specs.declared.group.Group.{Group}
use Rattle.link_input_groups.specs.Groups.{files_of, length_of_spans, symbol_spans}
use Rattle.link_rules.specs.Places.{Bytes}
use Rattle.link_rules.specs.Rules.{PlatformRules}
use Rattle.link_rules.specs.World.{Stage}
use Rattle.link_db_texts.specs.ReadTexts.{ReadTexts}
use Rattle.link_db_ingest.specs.declared.read_symbols.ReadSymbols.{ReadSymbols}
use Rattle.link_db_ingest.specs.Files.{IsStageBy, file_definitions, file_flags, numbers_of}

-- there are flags for each id of a group's symbols
abbrev pub HasAllFlags : {P : Type 0} → Group P → ReadSymbols → Type 0
HasAllFlags g read = length read.flags.items ≡ length_of_spans (symbol_spans g)

-- the definitions and the flags of a group's symbols
pub record IsReadOf {P : Type 0} (platform : PlatformRules) (demangle : Bytes → Bytes) (texts : ReadTexts) (output : OutputKind) (g : Group P) (read : ReadSymbols) : Type 0 where
  pub definitions : read.definitions.items ≡ flat_map file_definitions (files_of g)
  pub flags : (w : Stage) → IsStageBy platform demangle texts output w → numbers_of read.flags.items ≡ flat_map (file_flags w) (files_of g)
  pub count : HasAllFlags g read

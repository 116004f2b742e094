-- What is read of the symbols of files.
use Rattle.std.specs.Prelude.{ℕ, ◌≡◌, ◌<◌, ◌^◌, List, Bool, map}
use Rattle.std.specs.List.{AllByRecursion}
use Rattle.link_flags.specs.declared.value_flags.ValueFlags.{ValueFlags}
use Rattle.link_db_buckets.specs.declared.definition.Definition.{Definition}
use Rattle.link_input.specs.declared.options.OutputKind.{OutputKind}
use Rattle.link_input.specs.declared.symbol_entry.SymbolEntry.{SymbolEntry}
use Rattle.link_input.specs.SequencedFiles.{SequencedFile}
use Rattle.link_input.specs.Symbols.{Symbol, file_symbols, in_object}
use Rattle.link_input_groups.specs.declared.group.Group.{Group}
use Rattle.link_input_groups.specs.Asked.{HasIdsForAll}
use Rattle.link_input_groups.specs.Groups.{files_of, length_of_spans, symbol_spans}
use Rattle.link_rules.specs.Opening.{opening_flags}
use Rattle.link_rules.specs.Places.{Bytes}
use Rattle.link_rules.specs.Rules.{PlatformRules}
use Rattle.link_rules.specs.World.{Stage}
use Rattle.link_db_texts.specs.Holds.{AreRulesOf}
use Rattle.link_db_texts.specs.ReadTexts.{ReadTexts}
use Rattle.link_db_ingest.specs.Definitions.{definitions_from}

-- the definitions that the symbols of a file give
abbrev pub file_definitions : SequencedFile → List Definition
file_definitions f = definitions_from f.symbols.start (file_symbols 0 f.file)

-- the flags of each symbol of a file as it is read
abbrev pub file_flags : Stage → SequencedFile → List ℕ
file_flags w f = map (opening_flags w) (file_symbols 0 f.file)

-- flags as numbers
abbrev pub numbers_of : List ValueFlags → List ℕ
numbers_of flags = map (λ f. f.0) flags

-- the symbol of an entry of an object, which may be a shared one; the object's place shows neither in a definition nor in flags
abbrev pub entry_symbol : Bool → SymbolEntry → Symbol
entry_symbol is_dynamic e = record { name = e.name; version = e.version; origin = in_object 0 is_dynamic e }

-- a stage of a link on a platform by the rules of which this was read, where names demangle so, with this output
pub record IsStageBy (platform : PlatformRules) (demangle : Bytes → Bytes) (read : ReadTexts) (kind : OutputKind) (w : Stage) : Type 0 where
  pub rules : AreRulesOf platform demangle read w.rules
  pub output : w.options.output ≡ kind

-- each file of a group has an id for each of its symbols, and no number of an id is too large
pub record CanBeRead {P : Type 0} (g : Group P) : Type 0 where
  pub fits : length_of_spans (symbol_spans g) < 2 ^ 32
  pub tables : AllByRecursion HasIdsForAll (files_of g)

-- each group can be read
abbrev pub AllCanBeRead : {P : Type 0} → List (Group P) → Type 0
AllCanBeRead groups = AllByRecursion (λ g. CanBeRead g) groups

-- What is told of a selection by columns.
use Rattle.std.specs.Prelude.{ℕ, ◌≡◌, ◌&&◌, List, Bool, IsTrue, Option, Some, slice_get}
use Rattle.link_input.specs.Symbols.{Symbol}
use Rattle.link_rules.specs.Loading.{is_origin_loaded}
use Rattle.link_rules.specs.Places.{Bytes}
use Rattle.link_rules.specs.Rivals.{versioned_table}
use Rattle.link_rules.specs.Selection.{Selection, target_of}
use Rattle.link_rules.specs.World.{is_reference}
use Rattle.link_check_targets.specs.Tables.{target_at}

-- a selection with these symbols, loaded objects, custom sections, and table before undefined names are settled, whose references in
-- loaded objects have these targets
pub record TellsOf (symbols : List Symbol) (marks : List Bool) (targets : List (Option ℕ)) (sections : List Bytes)
    (table : List ℕ) (l : Selection) : Type 0 where
  pub symbols_are : l.stage.symbols ≡ symbols
  pub marks_are : l.marks ≡ marks
  pub targets_are : (s : ℕ) (u : Symbol) → slice_get symbols s ≡ Some u → IsTrue (is_reference u && is_origin_loaded marks u.origin)
      → target_at targets s ≡ target_of l s
  pub sections_are : l.stage.options.custom_sections ≡ sections
  pub table_is : table ≡ versioned_table l

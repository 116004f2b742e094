-- The numbers of the sections of a link that may be kept.
use Rattle.std.specs.Prelude.{◌≡◌, ℕ, ◌+◌, List, [], ◌∷◌, Option, None, Some, Bool, if◌then◌else◌, option_and_then, option_map}
use Rattle.std.specs.List.{enumerate_from}
use Rattle.link_closure.specs.Closure.{is_marked}
use Rattle.link_core_answer.specs.Parts.{Parts}
use Rattle.link_core.specs.Steps.{IsKept}
use Rattle.link_db.specs.Database.{symbol_names}
use Rattle.link_input.specs.InputFiles.{sections_of}
use Rattle.link_input.specs.ObjectFile.{ObjectFile}
use Rattle.link_input.specs.Symbols.{Origin}
use Rattle.link_resolve_discarded.specs.Indexed.{AreGroupsOf, IndexedGroups}
use Rattle.link_rules.specs.Answer.{symbol_names as names_of}
use Rattle.link_rules.specs.FinalFlags.{final_flags}
use Rattle.link_rules.specs.Loading.{root_symbols}
use Rattle.link_rules.specs.Selection.{Selection}
use Rattle.link_rules.specs.Undefined.{resolved}
use Rattle.link_gc_sections.specs.LiveSections.{SectionPlace, home, is_node, section_number, stands_in}
use Rattle.link_gc.specs.declared.numbers.SectionSpan.{SectionSpan}

-- a link that is answered ends with this selection
pub record IsOf {P : Type 0} (l : Selection) (x : Parts P) : Type 0 where
  pub kept : IsKept l x.db x.known x.groups
  pub names : symbol_names x.db ≡ names_of (resolved l)
  pub table : x.db.table ≡ (resolved l).table
  pub flags : x.flags ≡ final_flags (resolved l)
  pub roots : x.roots ≡ root_symbols l.stage

-- the numbers of the sections of objects with their places, from a number on: those of an object that isn't loaded are passed over
abbrev pub spans_from : List Bool → ℕ → List (ℕ × ObjectFile) → List SectionSpan
spans_from marks start [] = []
spans_from marks start (o ∷ os) = record { start = start; len = if is_marked marks o.0 then sections_of o.1 else 0 } ∷ spans_from marks (start + sections_of o.1) os

-- they are those of the objects of a selection, with its groups
pub record AreNumbersOf (l : Selection) (spans : List SectionSpan) (groups : IndexedGroups) : Type 0 where
  pub spans_are : spans ≡ spans_from l.marks 0 (enumerate_from 0 l.stage.objects)
  pub groups_are : AreGroupsOf l.marks l.stage.objects groups

-- the number of a section, where that may be kept
abbrev pub node_number : Selection → SectionPlace → Option ℕ
node_number l p = if is_node l p then Some (section_number l.stage p) else None

-- that of the section in which a symbol stands
abbrev pub placed_number : Selection → Origin → Option ℕ
placed_number l origin = option_and_then (node_number l) (stands_in origin)

-- that of the home of a symbol
abbrev pub home_number : Selection → ℕ → Option ℕ
home_number l s = option_map (section_number l.stage) (home (resolved l) s)

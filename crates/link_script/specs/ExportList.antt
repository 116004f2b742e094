-- Which names an export list has, and what its text makes of it.
use Rattle.std.specs.Prelude.{◌≡◌, ◌↔◌, ◌⊎◌, ℕ, Bool, List, [], ◌∷◌, Ok}
use Rattle.link_script.specs.declared.export_list.ExportList.{ExportList}
use Rattle.link_script_syntax.specs.declared.matcher.SymbolMatcher.{SymbolMatcher}
use Rattle.link_script_syntax.specs.declared.matcher.ParsedSymbolMatcher.{ParsedSymbolMatcher}
use Rattle.link_script_syntax.specs.declared.matcher.ParsedSymbolMatcher.TheVariants.{Multiple}
use Rattle.link_script_syntax.specs.declared.profile.ScriptProfile.{ScriptProfile}
use Rattle.link_script.specs.Filter.{Filter, HasFilter, of_language, EntryHas, EntriesHave}
use Rattle.link_script_syntax.specs.ForcedName.{added_entry}
use Rattle.link_script_syntax.specs.GnuList.{gnu_list}
use Rattle.link_script.specs.Lookup.{Asked, name_of, text_of}
use Rattle.link_script_syntax.specs.MachoList.{macho_list, exact_names}
use Rattle.link_script.specs.Rank.{Fits}

-- the list has this filter, on plain names or on names of C++
abbrev pub ListHas : ExportList → Bool → Filter → Type 0
ListHas list cxx f = HasFilter (of_language list.rules cxx) f

-- the names that must be defined
abbrev pub required_names : ExportList → List (List ℕ)
required_names list = list.required

-- Some filter of the list fits the name.
abbrev pub IsListed : ExportList → Asked → Type 0
IsListed list a = (cxx : Bool) × (f : Filter) × ListHas list cxx f × Fits (name_of a cxx) (text_of a cxx) f

-- The list has exactly the filters of these entries, and requires these names.
pub record IsListOf (entries : List ParsedSymbolMatcher) (required : List (List ℕ)) (list : ExportList) : Type 0 where
  pub filters : (cxx : Bool) (f : Filter) → ListHas list cxx f ↔ EntriesHave entries cxx f
  pub names : required_names list ≡ required

-- A GNU list requires no name.
abbrev pub IsGnuList : ScriptProfile → List ℕ → ExportList → Type 0
IsGnuList profile text list = (entries : List ParsedSymbolMatcher) × (gnu_list profile text ≡ Ok entries) × IsListOf entries [] list

-- A Mach-O list requires the names that stand in it as they are.
abbrev pub IsMachoList : List ℕ → ExportList → Type 0
IsMachoList text list = (matchers : List SymbolMatcher) × (macho_list text ≡ Ok matchers) × IsListOf (Multiple matchers ∷ []) (exact_names matchers) list

-- The new list has the filters of this entry more, and requires the same names.
pub record Gains (entry : ParsedSymbolMatcher) (old new : ExportList) : Type 0 where
  pub filters : (cxx : Bool) (f : Filter) → ListHas new cxx f ↔ (ListHas old cxx f ⊎ EntryHas entry cxx f)
  pub names : required_names new ≡ required_names old

-- What the text says was added.
abbrev pub AddsText : Bool → List ℕ → ExportList → ExportList → Type 0
AddsText without_semicolon text old new = (entry : ParsedSymbolMatcher) × (added_entry without_semicolon text ≡ Ok entry) × Gains entry old new

-- Both lists have the same filters and require the same names.
pub record SameList (old new : ExportList) : Type 0 where
  pub filters : (cxx : Bool) (f : Filter) → ListHas new cxx f ↔ ListHas old cxx f
  pub names : required_names new ≡ required_names old

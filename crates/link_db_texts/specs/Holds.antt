-- What the texts of a link say is what was read of them, and so are the rules of the link.
use Rattle.std.specs.Prelude.{◌≡◌, ◌++◌, ◌||◌, not, Bool, true, false, List, filter_map, Option, Some, None, is_some}
use Rattle.link_input.specs.declared.options.Options.{Options}
use Rattle.link_input.specs.declared.platform.Platform.{Ghosts}
use Rattle.link_input.specs.declared.world.ProcessedLinkerScript.{ProcessedLinkerScript}
use Rattle.link_input.specs.declared.world.Scripts.{Scripts}
use Rattle.link_script_syntax.specs.declared.matcher.ParsedSymbolMatcher.{ParsedSymbolMatcher}
use Rattle.link_script_syntax.specs.declared.profile.ScriptProfile.{ScriptProfile}
use Rattle.link_script_syntax.specs.ForcedName.{forced_name}
use Rattle.link_script.specs.declared.export_list.ExportList.{ExportList}
use Rattle.link_script.specs.declared.script.VersionScript.{VersionScript}
use Rattle.link_script.specs.ExportList.{IsListOf}
use Rattle.link_script.specs.ListedNames.{ListedNames}
use Rattle.link_script.specs.Script.{IsScriptOf}
use Rattle.link_rules.specs.Places.{Bytes, is_empty}
use Rattle.link_rules.specs.Rules.{PlatformRules, Rules, rules_of, taken_text, script_of, list_of, ok_of}
use Rattle.link_db_texts.specs.ReadTexts.{ReadTexts}

-- the rules of a platform, by its trait
abbrev pub platform_of : {P : Type 0} → Ghosts P → PlatformRules
platform_of p = record {
  weak_overrides_common = p.WEAK_SYMBOLS_OVERRIDE_COMMON;
  is_non_interposable = p.is_non_interposable;
  read_export_list = p.read_export_list;
}

-- the entries of forced names
abbrev pub forced_entries : List Bytes → List ParsedSymbolMatcher
forced_entries forced = filter_map (λ name. ok_of (forced_name name)) forced

-- the entries of an export list, and those of forced names
abbrev pub exported_entries : ListedNames → List Bytes → List ParsedSymbolMatcher
exported_entries names forced = names.entries ++ forced_entries forced

-- there is a list where one is given or a name is forced
abbrev pub is_listing : Option Bytes → List Bytes → Bool
is_listing text forced = is_some text || not (is_empty forced)

-- the list, if there is to be one, has just these entries and requires these names
abbrev pub IsListIf : Bool → List ParsedSymbolMatcher → List Bytes → Option ExportList → Type 0
IsListIf false entries required None = Unit {0}
IsListIf false entries required (Some list) = ⊥
IsListIf true entries required None = ⊥
IsListIf true entries required (Some list) = IsListOf entries required list

-- the list that is read of the text of one, with the forced names
abbrev pub IsListRead : ListedNames → Option Bytes → List Bytes → Option ExportList → Type 0
IsListRead names text forced list = IsListIf (is_listing text forced) (exported_entries names forced) names.required list

-- the script of a text, if there is one
abbrev pub IsScriptIf : ScriptProfile → Option Bytes → Option VersionScript → Type 0
IsScriptIf profile None None = Unit {0}
IsScriptIf profile (Some text) (Some script) = IsScriptOf (script_of profile (Some text)) script
IsScriptIf profile None (Some script) = ⊥
IsScriptIf profile (Some text) None = ⊥

-- What was read is what the texts of the options and of these linker scripts say.
pub record HoldsTexts (platform : PlatformRules) (options : Options) (texts : Scripts) (scripts : List ProcessedLinkerScript) (read : ReadTexts) : Type 0 where
  pub profile : read.profile ≡ options.script_profile
  pub script : IsScriptOf (script_of options.script_profile (taken_text texts scripts)) read.script
  pub taken : read.is_taken ≡ is_some (taken_text texts scripts)
  pub list : IsListRead (list_of platform options.script_profile texts.export_list) texts.export_list options.force_export read.list

-- These are the rules of a link of which this was read, where names demangle so.
pub record AreRulesOf (platform : PlatformRules) (demangle : Bytes → Bytes) (read : ReadTexts) (rules : Rules) : Type 0 where
  pub options : Options
  pub texts : Scripts
  pub scripts : List ProcessedLinkerScript
  pub holds : HoldsTexts platform options texts scripts read
  pub same : rules ≡ rules_of platform demangle options texts scripts

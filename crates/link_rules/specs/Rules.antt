-- What a link takes as given: the platform's rules, the demangler's, and what the texts of scripts say.
use Rattle.std.specs.Prelude.{ℕ, ◌-◌, List, [], ◌++◌, length, filter_map, Bool, true, false, Option, Some, None, Result, Ok, Err, if◌then◌else◌}
use Rattle.std.specs.Option.{option_or}
use Rattle.std.specs.List.{list_any}
use Rattle.link_input.specs.declared.symbol_entry.SymbolEntry.{SymbolEntry}
use Rattle.link_input.specs.declared.options.OutputKind.{OutputKind}
use Rattle.link_input.specs.declared.options.Options.{Options}
use Rattle.link_input.specs.declared.world.ProcessedLinkerScript.{ProcessedLinkerScript}
use Rattle.link_input.specs.declared.world.Scripts.{Scripts}
use Rattle.link_input.specs.Interposition.{keeps_place}
use Rattle.link_script_syntax.specs.declared.fault.Fault.{Fault}
use Rattle.link_script_syntax.specs.declared.fault.ScriptError.{ScriptError}
use Rattle.link_script_syntax.specs.declared.matcher.ParsedSymbolMatcher.{ParsedSymbolMatcher}
use Rattle.link_script_syntax.specs.declared.profile.ScriptProfile.{ScriptProfile}
use Rattle.link_script_syntax.specs.declared.script.RawScript.{RawScript}
use Rattle.link_script_syntax.specs.declared.script.RawScript.TheVariants.{Anonymous, Named}
use Rattle.link_script_syntax.specs.ForcedName.{forced_name}
use Rattle.link_script.specs.ListedNames.{ListedNames, no_names, gnu_names, macho_names}
use Rattle.link_script.specs.Lookup.{asked}
use Rattle.link_script.specs.RustForm.{listed_names}
use Rattle.link_script_syntax.specs.Script.{script_at}
use Rattle.link_script.specs.Script.{of_rust_form}
use Rattle.link_script.specs.VersionOf.{Undeclared}
use Rattle.link_rules.specs.Places.{Bytes, first_of}
use Rattle.link_rules.specs.Matching.{entry_fits, is_local_by, version_by}

-- a platform's constant and rules
pub record PlatformRules : Type 0 where
  pub weak_overrides_common : Bool
  pub is_non_interposable : SymbolEntry → OutputKind → Option Bool → Bool
  pub read_export_list : ScriptProfile → Bytes → Result ListedNames Fault

-- platforms whose objects are like ELF's
abbrev pub elf_like : PlatformRules
elf_like = record { weak_overrides_common = false; is_non_interposable = keeps_place false; read_export_list = gnu_names }

-- platforms whose objects are like Mach-O's
abbrev pub mach_like : PlatformRules
mach_like = record { weak_overrides_common = true; is_non_interposable = keeps_place true; read_export_list = λ profile. macho_names }

-- the rules of one link
pub record Rules : Type 0 where
  -- the platform's
  pub weak_overrides_common : Bool
  pub is_non_interposable : SymbolEntry → OutputKind → Option Bool → Bool
  -- of the export list and the forced export names together, where there are any
  pub is_exported : Option (Bytes → Bool)
  pub required_exports : List Bytes
  -- of the version script: its names, where it is of the Rust form
  pub rust_names : Option (List Bytes)
  pub is_local_name : Bytes → Bool
  pub version_of : Bytes → Option Bytes → Result (Option ℕ) Undeclared
  -- why a text is no export list
  pub export_list_fault : Bytes → Option ScriptError

-- why a text could not be read, and at which of its bytes
abbrev pub fault_in : {A : Type 0} → Bytes → Result A Fault → Option ScriptError
fault_in text (Ok x) = None
fault_in text (Err e) = Some (record { at = length text - e.left; kind = e.kind })

-- what was read of a text, or else something
abbrev pub read_or : {A : Type 0} → A → Result A Fault → A
read_or other (Ok x) = x
read_or other (Err e) = other

-- what was read of a text, if it could be read
abbrev pub ok_of : {A : Type 0} → Result A Fault → Option A
ok_of (Ok x) = Some x
ok_of (Err e) = None

-- the version script's text: that of the options, else that of the first linker script that has one
abbrev pub taken_text : Scripts → List ProcessedLinkerScript → Option Bytes
taken_text texts scripts = option_or texts.version_script (first_of (filter_map (λ s. s.version) scripts))

-- no script is the one without versions
abbrev pub script_of : ScriptProfile → Option Bytes → RawScript
script_of profile None = Named []
script_of profile (Some text) = read_or (Named []) (script_at profile text)

-- the global entries of the body that has no name
abbrev pub unnamed_globals : RawScript → List ParsedSymbolMatcher
unnamed_globals (Anonymous body) = body.globals
unnamed_globals (Named versions) = []

-- the names that a script of the Rust form lists
abbrev pub rust_names_of : RawScript → Option (List Bytes)
rust_names_of script = if of_rust_form script then Some (listed_names (unnamed_globals script)) else None

-- the export list of a text, where one is given
abbrev pub list_of : PlatformRules → ScriptProfile → Option Bytes → ListedNames
list_of platform profile None = no_names
list_of platform profile (Some text) = read_or no_names (platform.read_export_list profile text)

-- whether a name is exported, where there is a list or a forced name
abbrev pub exported_by : (Bytes → Bytes) → Option Bytes → List Bytes → List ParsedSymbolMatcher → Option (Bytes → Bool)
exported_by demangle None [] entries = None
exported_by demangle list forced entries = Some (λ n. list_any (entry_fits (asked demangle n)) entries)

-- the rules of a platform and a demangler, over a version script and an export list that are read in a profile
abbrev pub rules_over : PlatformRules → ScriptProfile → (Bytes → Bytes) → RawScript → ListedNames → Option (Bytes → Bool) → Rules
rules_over platform profile demangle script list exported = record {
  weak_overrides_common = platform.weak_overrides_common;
  is_non_interposable = platform.is_non_interposable;
  is_exported = exported;
  required_exports = list.required;
  rust_names = rust_names_of script;
  is_local_name = λ n. is_local_by script (asked demangle n);
  version_of = λ n explicit. version_by script (asked demangle n) explicit;
  export_list_fault = λ text. fault_in text (platform.read_export_list profile text);
}

-- an export list with the forced export names
abbrev pub exported_with : (Bytes → Bytes) → Option Bytes → List Bytes → ListedNames → Option (Bytes → Bool)
exported_with demangle text forced list =
    exported_by demangle text forced (list.entries ++ filter_map (λ name. ok_of (forced_name name)) forced)

-- the rules by the texts of a link
abbrev pub rules_of : PlatformRules → (Bytes → Bytes) → Options → Scripts → List ProcessedLinkerScript → Rules
rules_of platform demangle options texts scripts = rules_over platform options.script_profile demangle
    (script_of options.script_profile (taken_text texts scripts))
    (list_of platform options.script_profile texts.export_list)
    (exported_with demangle texts.export_list options.force_export (list_of platform options.script_profile texts.export_list))

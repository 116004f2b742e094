-- Why a link of one batch is refused before anything of it is loaded.
use Rattle.std.specs.Prelude.{◌≡◌, ◌⊎◌, ℕ, [], ◌∷◌, List, filter_map, length, false, option_and_then, is_some, Option, None, Some, Result, Ok, Err, if◌then◌else◌}
use Rattle.std.specs.List.{enumerate_from}
use Rattle.link_input.specs.declared.options.Options.{Options}
use Rattle.link_input.specs.declared.world.Scripts.{Scripts}
use Rattle.link_input.specs.InputFiles.{Batch}
use Rattle.link_input.specs.Limits.{Counts, first_excess, section_total, with_boundaries}
use Rattle.link_input.specs.ObjectFile.{ObjectFile}
use Rattle.link_script_syntax.specs.declared.fault.ScriptFault.{ScriptFault}
use Rattle.link_script_syntax.specs.declared.fault.ScriptFault.TheVariants as faults
use Rattle.link_script_syntax.specs.declared.profile.ScriptProfile.{ScriptProfile}
use Rattle.link_rules.specs.declared.refusal.LinkError.{LinkError}
use Rattle.link_rules.specs.declared.refusal.LinkError.TheVariants.{Memory, NoInputs, Script}
use Rattle.link_rules.specs.declared.refusal.ScriptOrigin.{ScriptOrigin}
use Rattle.link_rules.specs.declared.refusal.ScriptOrigin.TheVariants.{ExportList, VersionScript}
use Rattle.link_rules.specs.Places.{Bytes, first_of, is_empty}
use Rattle.link_rules.specs.Refusals.{batch_refusal, first_cause, forced_export_cause, linker_script_cause, script_cause, text_refusal, too_many, version_script_fault}
use Rattle.link_rules.specs.Rules.{PlatformRules, fault_in}
use Rattle.link_rules.specs.World.{World, start_of}

-- there is no cause where a call answers Ok. Where it answers Err, that is the cause, or want of memory
abbrev pub TellsCause : {A : Type 0} → Option LinkError → Result A LinkError → Type 0
TellsCause cause (Ok x) = cause ≡ None
TellsCause cause (Err error) = (error ≡ Memory) ⊎ (cause ≡ Some error)

-- the first cause that the texts of the options, or the batch, bring before anything of it is loaded
abbrev pub opening_refusal : World → Option LinkError
opening_refusal w = first_cause (text_refusal w ∷ batch_refusal false (start_of w) w.first ∷ [])

-- what is counted of a link of one batch with so many symbols
abbrev pub counts_of_batch : Options → Batch → ℕ → Counts
counts_of_batch options b symbols = record {
  objects = length b.objects;
  scripts = length b.scripts;
  stubs = length b.stubs;
  sections = section_total b.objects;
  symbols = with_boundaries options symbols;
}

-- no object is a cause
abbrev pub none_cause : List ObjectFile → Option LinkError
none_cause objects = if is_empty objects then Some NoInputs else None

-- more of something than ids can name, or no object
abbrev pub count_refusal : Options → Batch → ℕ → Option LinkError
count_refusal options b symbols = first_cause (too_many (first_excess (counts_of_batch options b symbols)) ∷ none_cause b.objects ∷ [])

-- a fault in a text, as the error of a link
abbrev pub error_of : ScriptOrigin → ScriptFault → LinkError
error_of origin (faults.Text error) = Script origin error
error_of origin faults.Memory = Memory

-- why the text of an export list is none, on a platform
abbrev pub list_cause : PlatformRules → ScriptProfile → Option Bytes → Option LinkError
list_cause platform profile text = script_cause ExportList (option_and_then (λ t. fault_in t (platform.read_export_list profile t)) text)

-- the first cause of forced export names, of which the first has this place
abbrev pub forced_causes : ℕ → List Bytes → Option LinkError
forced_causes i forced = first_of (filter_map forced_export_cause (enumerate_from i forced))

-- the first text of the options that can't be read
abbrev pub options_refusal : PlatformRules → Options → Scripts → Option LinkError
options_refusal platform options texts = first_cause
    (script_cause VersionScript (option_and_then (version_script_fault options.script_profile) texts.version_script)
    ∷ list_cause platform options.script_profile texts.export_list ∷ forced_causes 0 options.force_export ∷ [])

-- all of these causes, where the batch has so many symbols with those of the prelude
abbrev pub refusal_with : PlatformRules → Options → Scripts → Batch → ℕ → Option LinkError
refusal_with platform options texts b symbols = first_cause (options_refusal platform options texts
    ∷ linker_script_cause options.script_profile false (is_some texts.version_script) 0 b.scripts
    ∷ count_refusal options b symbols ∷ [])

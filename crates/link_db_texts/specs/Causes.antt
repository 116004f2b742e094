-- How a call that reads texts tells why a link is refused.
use Rattle.std.specs.Prelude.{◌≡◌, List, filter_map, Option, Some, None, Result, Ok, Err, ◌⊎◌}
use Rattle.std.specs.Option.{option_and_then}
use Rattle.std.specs.List.{enumerate_from}
use Rattle.link_input.specs.declared.options.Options.{Options}
use Rattle.link_input.specs.declared.world.Scripts.{Scripts}
use Rattle.link_script_syntax.specs.declared.fault.ScriptFault.{ScriptFault}
use Rattle.link_script_syntax.specs.declared.profile.ScriptProfile.{ScriptProfile}
use Rattle.link_script_syntax.specs.declared.fault.ScriptFault.TheVariants as faults
use Rattle.link_rules.specs.declared.refusal.LinkError.{LinkError}
use Rattle.link_rules.specs.declared.refusal.LinkError.TheVariants.{Script, Memory}
use Rattle.link_rules.specs.declared.refusal.ScriptOrigin.{ScriptOrigin}
use Rattle.link_rules.specs.declared.refusal.ScriptOrigin.TheVariants.{ExportList}
use Rattle.link_rules.specs.Places.{Bytes, first_of}
use Rattle.link_rules.specs.Refusals.{script_cause, forced_export_cause}
use Rattle.link_rules.specs.Rules.{PlatformRules, fault_in}
use Rattle.link_rules.specs.World.{World}

-- There is no cause where the call answers Ok. Where it answers Err, that is the cause, or want of memory.
abbrev pub TellsCause : {A : Type 0} → Option LinkError → Result A LinkError → Type 0
TellsCause cause (Ok x) = cause ≡ None
TellsCause cause (Err error) = (error ≡ Memory) ⊎ (cause ≡ Some error)

-- a fault in a text, as the error of a link
abbrev pub error_of : ScriptOrigin → ScriptFault → LinkError
error_of origin (faults.Text error) = Script origin error
error_of origin faults.Memory = Memory

-- why the text of an export list is none, on a platform
abbrev pub list_cause : PlatformRules → ScriptProfile → Option Bytes → Option LinkError
list_cause platform profile text = script_cause ExportList (option_and_then (λ t. fault_in t (platform.read_export_list profile t)) text)

-- the first forced export name that can't be read
abbrev pub forced_cause : List Bytes → Option LinkError
forced_cause forced = first_of (filter_map forced_export_cause (enumerate_from 0 forced))

-- the world has these options and texts, and is linked on this platform
pub record IsGiven (platform : PlatformRules) (options : Options) (texts : Scripts) (w : World) : Type 0 where
  pub same_options : w.options ≡ options
  pub same_texts : w.texts ≡ texts
  pub list_fault : w.rules.export_list_fault ≡ (λ text. fault_in text (platform.read_export_list options.script_profile text))

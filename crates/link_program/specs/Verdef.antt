-- What `verdef` writes: the version definitions that the version script of a manifest makes (LSB Core, "Symbol Versioning").
use Rattle.std.specs.Prelude.{◌≡◌, ◌==◌, ℕ, ◌^◌, List, [], ◌∷◌, ◌++◌, length, Option, Some, None, Result, Ok, Err, codes, decimal, nat_lt, option_map, option_and_then, if◌then◌else◌}
use Rattle.std.specs.Option.{option_or}
use Rattle.hex.specs.Hex.{encode_lower}
use Rattle.link_input.specs.declared.options.Options.{Options}
use Rattle.link_input.specs.declared.world.Scripts.{Scripts}
use Rattle.link_rules.specs.declared.refusal.ScriptOrigin.TheVariants.{VersionScript}
use Rattle.link_rules.specs.Places.{Bytes}
use Rattle.link_rules.specs.Refusals.{script_cause, version_script_fault}
use Rattle.link_rules.specs.Report.{refusal_text}
use Rattle.link_rules.specs.Rules.{script_of}
use Rattle.link_manifest.specs.declared.fault.ManifestFault.{ManifestFault}
use Rattle.link_manifest.specs.declared.fault.Problem.TheVariants.{Missing}
use Rattle.link_manifest.specs.declared.fault.Step.TheVariants.{Key}
use Rattle.link_manifest.specs.declared.manifest.Manifest.{Manifest as Described}
use Rattle.link_manifest.specs.FaultText.{fault_text}
use Rattle.link_manifest.specs.Manifest.{manifest_of}
use Rattle.link_verdef.specs.declared.item.VersionItem.{VersionItem}
use Rattle.link_verdef.specs.Image.{first_with_zero}
use Rattle.link_verdef.specs.Records.{verdef_records}
use Rattle.link_verdef.specs.ScriptItems.{items_of_text}
use Rattle.link_verdef.specs.Strings.{verdef_strings}
use Rattle.link_program.specs.declared.status.Status.{Status}
use Rattle.link_program.specs.declared.status.Status.TheVariants.{Linked, Refused, Manifest}
use Rattle.link_program.specs.Described.{error_line, given_of}

-- ---- the text

-- bytes in lower-case hexadecimal digits, two for each; a dash where there are none
abbrev pub hex_text : Bytes → Bytes
hex_text bytes = if length bytes == 0 then codes "-" else encode_lower bytes

-- a line for the records of versions, and one for the strings that these name
abbrev pub image_text : Bytes → Bytes → Bytes
image_text records strings = codes "records " ++ hex_text records ++ codes "\nstrings " ++ hex_text strings ++ codes "\n"

-- ---- what is written, or why nothing is

-- the versions that a shared object of this name defines by the version script that is given; no script is the empty one
abbrev pub items_given : Options → Scripts → Bytes → List VersionItem
items_given options texts soname = items_of_text (script_of options.script_profile texts.version_script) soname

-- the first fault of the version script, as a link tells it
abbrev pub script_refusal : Options → Scripts → Option Bytes
script_refusal options texts =
    option_map refusal_text (script_cause VersionScript (option_and_then (version_script_fault options.script_profile) texts.version_script))

-- a name that no string table can hold
abbrev pub zero_refusal : List VersionItem → Option Bytes
zero_refusal items = option_map (λ number. codes "Zero byte in version name " ++ decimal number) (first_with_zero items)

-- more strings than places of 32 bits can tell apart
abbrev pub length_refusal : ℕ → Option Bytes
length_refusal len = if nat_lt len (2 ^ 32) then None else Some (codes "Version names too long: " ++ decimal len)

-- why versions can't be written
abbrev pub items_refusal : List VersionItem → Option Bytes
items_refusal items = option_or (zero_refusal items) (length_refusal (length (verdef_strings items)))

-- ---- how the command ends, with its text

-- there is no manifest
abbrev pub fault_ending : ManifestFault → Status × Bytes
fault_ending fault = (Manifest, error_line (codes "manifest: " ++ fault_text fault))

-- refused where there is a cause
abbrev pub refused_or : Option Bytes → Bytes → Status × Bytes
refused_or None text = (Linked, text)
refused_or (Some cause) text = (Refused, error_line cause)

-- of these versions
abbrev pub items_ending : Option Bytes → List VersionItem → Status × Bytes
items_ending script items = refused_or (option_or script (items_refusal items)) (image_text (verdef_records items) (verdef_strings items))

-- a manifest has to name the shared object, though no other command asks for that
abbrev pub soname_ending : Options → Scripts → Option Bytes → Status × Bytes
soname_ending options texts None = fault_ending (record { path = Key (codes "soname") ∷ []; problem = Missing })
soname_ending options texts (Some soname) = items_ending (script_refusal options texts) (items_given options texts soname)

-- by the options and texts of a manifest
abbrev pub verdef_ending : Options → Scripts → Status × Bytes
verdef_ending options texts = soname_ending options texts options.soname

-- by what is read of a manifest
abbrev pub manifest_ending : Result Described ManifestFault → Status × Bytes
manifest_ending (Err fault) = fault_ending fault
manifest_ending (Ok m) = verdef_ending (given_of m).options (given_of m).texts

-- These bytes end the command so, with this text.
abbrev pub IsVerdefOf : Bytes → Status → Bytes → Type 0
IsVerdefOf bytes status text = manifest_ending (manifest_of bytes) ≡ (status, text)

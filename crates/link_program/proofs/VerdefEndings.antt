-- How `verdef` ends, by what the calls answer that it makes.
use Rattle.std.proofs.Common.{◌≡◌, ℕ, ◌++◌, List, [], true, Option, Some, None, Result, Ok, Err, codes, refl, sym, ap, ◌∙◌}
use Rattle.std.specs.Prelude.{decimal, option_and_then, option_map}
use Rattle.link_script_syntax.specs.declared.fault.Fault.{Fault}
use Rattle.link_script_syntax.specs.declared.fault.ScriptError.{ScriptError}
use Rattle.link_script_syntax.specs.declared.profile.ScriptProfile.{ScriptProfile}
use Rattle.link_script_syntax.specs.declared.script.RawScript.{RawScript}
use Rattle.link_script_syntax.specs.declared.script.RawScript.TheVariants.{Named}
use Rattle.link_script_syntax.specs.Faults.{ScriptFails}
use Rattle.link_script_syntax.specs.Grammar.{IsVersionScript}
use Rattle.link_script_syntax.specs.Script.{script_at}
use Rattle.link_script_syntax.proofs.Judged.{found}
use Rattle.link_script_syntax.proofs.ScriptLaws.{script_judged}
use Rattle.link_script.specs.declared.script.VersionScript.{VersionScript}
use Rattle.link_script.specs.Script.{IsScriptOf}
use Rattle.link_rules.specs.declared.refusal.LinkError.{LinkError}
use Rattle.link_rules.specs.declared.refusal.ScriptOrigin.TheVariants as origin
use Rattle.link_rules.specs.Places.{Bytes}
use Rattle.link_rules.specs.Refusals.{script_cause, version_script_fault}
use Rattle.link_rules.specs.Report.{refusal_text}
use Rattle.link_rules.specs.Rules.{fault_in, read_or, script_of}
use Rattle.link_verdef.specs.declared.item.VersionItem.{VersionItem}
use Rattle.link_verdef.specs.Image.{first_with_zero}
use Rattle.link_verdef.specs.Item.{is_lawful}
use Rattle.link_verdef.specs.ScriptItems.{items_of_text}
use Rattle.link_program.specs.declared.status.Status.{Status}
use Rattle.link_program.specs.declared.status.Status.TheVariants.{Refused}
use Rattle.link_program.specs.Described.{error_line}
use Rattle.link_program.specs.Verdef.{items_ending}

-- ---- versions of which one has a zero byte in its name

pub zero-ending : (items : List VersionItem) (number : ℕ) (s : Status) (text : Bytes) → first_with_zero items ≡ Some number → s ≡ Refused
    → text ≡ error_line (codes "Zero byte in version name " ++ decimal number) → items_ending None items ≡ (s, text)
zero-ending items number s text zero ends line = rw (zero, ends, line) refl

-- ---- versions of a script that is read

-- such a script is no cause, and its versions end the command
pub read-ending : (profile : ScriptProfile) (text : Option Bytes) (items : List VersionItem) (soname : Bytes) (ending : Status × Bytes)
    → script_cause origin.VersionScript (option_and_then (version_script_fault profile) text) ≡ None → items ≡ items_of_text (script_of profile text) soname
    → items_ending None items ≡ ending
    → items_ending (option_map refusal_text (script_cause origin.VersionScript (option_and_then (version_script_fault profile) text))) (items_of_text (script_of profile text) soname) ≡ ending
read-ending profile text items soname ending none is ends =
    ap (λ (cause : Option LinkError). items_ending (option_map refusal_text cause) (items_of_text (script_of profile text) soname)) none
    ∙ ap (items_ending None) (sym is) ∙ ends

-- ---- versions that a file can define

-- where there is no cause the text has no fault
no-fault : (o : Option ScriptError) → script_cause origin.VersionScript o ≡ None → o ≡ None
no-fault None e = refl
no-fault (Some error) e = absurd cc

-- a text without a fault is spelled by the grammar
spelled : (profile : ScriptProfile) (text : Bytes) (read : Result RawScript Fault) → script_at profile text ≡ read → fault_in text read ≡ None → IsVersionScript profile text (read_or (Named []) read)
spelled profile text (Ok raw) reads none = found (script_at profile text) (IsVersionScript profile text) (ScriptFails profile text) (script_judged profile text) raw reads
spelled profile text (Err fault) reads none = absurd cc

-- those of a script that is read are such
pub given-lawful : (profile : ScriptProfile) (text : Option Bytes) (script : VersionScript) (items : List VersionItem) (soname : Bytes)
    → script_cause origin.VersionScript (option_and_then (version_script_fault profile) text) ≡ None → IsScriptOf (script_of profile text) script
    → items ≡ items_of_text (script_of profile text) soname
    → ((p : ScriptProfile) (t : Bytes) (raw : RawScript) → IsVersionScript p t raw → IsScriptOf raw script → is_lawful items ≡ true) → is_lawful items ≡ true
given-lawful profile None script items soname none read is lawful = rw is refl
given-lawful profile (Some text) script items soname none read is lawful =
    lawful profile text (script_of profile (Some text)) (spelled profile text (script_at profile text) refl (no-fault (version_script_fault profile text) none)) read

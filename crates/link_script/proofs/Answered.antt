-- What a script's public calls answer, by the grammar.
use Rattle.std.proofs.Common.{◌≡◌, ℕ, Bool, true, false, List, length, Option, None, Result, Ok, Err, refl, sym, subst, ◌∙◌}
use Rattle.std.specs.Prelude.{IfOk, IfErr}
use Rattle.link_script_syntax.specs.declared.profile.ScriptProfile.{ScriptProfile}
use Rattle.link_script_syntax.specs.declared.fault.ScriptFault.{ScriptFault}
use Rattle.link_script_syntax.specs.declared.fault.ScriptFault.TheVariants as faults
use Rattle.link_script_syntax.specs.declared.script.RawScript.{RawScript}
use Rattle.link_script_syntax.specs.declared.script.RawScript.TheVariants.{Anonymous, Named}
use Rattle.link_script_syntax.specs.declared.fault.ScriptErrorKind.{ScriptErrorKind}
use Rattle.link_script_syntax.specs.Faults.{IsFaultOf, IsRefusedWith, ScriptFails}
use Rattle.link_script_syntax.specs.Grammar.{IsVersionScript}
use Rattle.link_script_syntax.specs.Script.{script_at}
use Rattle.link_script_syntax.proofs.Answered.{fault_is, refuses_by}
use Rattle.link_script_syntax.proofs.Judged.{never_both, found}
use Rattle.link_script_syntax.proofs.Places.{ok_same}
use Rattle.link_script_syntax.proofs.ScriptLaws.{script_judged}
use Rattle.link_script.specs.declared.script.VersionScript.{VersionScript}
use Rattle.link_script.specs.declared.script.VersionScript.TheVariants.{Regular, Rust}
use Rattle.link_script.specs.Lookup.{Asked}
use Rattle.link_script.specs.VersionOf.{Undeclared, version_of}
use Rattle.link_script.specs.Script.{versions_in, of_rust_form, IsScriptOf, Parses, IsSpelledBy, VersionBy, IsVersionBy, version_in_script}
use Rattle.link_script.proofs.Declared.{version_of_text}

pub parse_found : (profile : ScriptProfile) (text : List ℕ) (r : Result VersionScript ScriptFault) → Parses text r (script_at profile text) → IfOk r (λ script. (raw : RawScript) × IsVersionScript profile text raw × IsScriptOf raw script)
parse_found profile text (Ok script) p = (p.0, found (script_at profile text) (IsVersionScript profile text) (ScriptFails profile text) (script_judged profile text) p.0 p.1, p.2)
parse_found profile text (Err e) p = tt

pub parse_only : (profile : ScriptProfile) (text : List ℕ) (raw : RawScript) (r : Result VersionScript ScriptFault) → IsVersionScript profile text raw → Parses text r (script_at profile text) → IsSpelledBy raw r
parse_only profile text raw (Ok script) x p = subst (λ (y : RawScript). IsScriptOf y script) (ok_same p.0 raw (sym p.1 ∙ (script_judged profile text).values raw x)) p.2
parse_only profile text raw (Err faults.Memory) x p = tt
parse_only profile text raw (Err (faults.Text t)) x p = never_both raw (record { left = p.0; kind = t.kind }) (sym ((script_judged profile text).values raw x) ∙ p.2)

pub parse_refused : (profile : ScriptProfile) (text : List ℕ) (r : Result VersionScript ScriptFault) → Parses text r (script_at profile text) → IfErr r (λ e. IsFaultOf (ScriptFails profile text) text e)
parse_refused profile text (Ok script) p = tt
parse_refused profile text (Err e) p = fault_is text (script_at profile text) (IsVersionScript profile text) (ScriptFails profile text) (script_judged profile text) e p

pub parse_refuses : (profile : ScriptProfile) (text : List ℕ) (kind : ScriptErrorKind) (at : List ℕ) (r : Result VersionScript ScriptFault) → ScriptFails profile text kind at → Parses text r (script_at profile text) → IsRefusedWith kind at text r
parse_refuses profile text kind at (Ok script) f p = never_both p.0 (record { left = length at; kind = kind }) (sym p.1 ∙ (script_judged profile text).faults kind at f)
parse_refuses profile text kind at (Err e) f p = refuses_by VersionScript text (script_at profile text) kind at ((script_judged profile text).faults kind at f) e p

by_form : (b : Bool) (raw : RawScript) (a : Asked) (explicit : Option (List ℕ)) (r : Result (Option ℕ) Undeclared) → of_rust_form raw ≡ b → VersionBy b raw a explicit r → IsVersionBy raw a explicit r
by_form b raw a explicit r is v = subst (λ (c : Bool). VersionBy c raw a explicit r) (sym is) v

pub version_by_text : (raw : RawScript) (script : VersionScript) (a : Asked) (explicit : Option (List ℕ)) → IsScriptOf raw script → IsVersionBy raw a explicit (version_in_script script a explicit)
version_by_text raw (Regular versions) a explicit is = by_form false raw a explicit (version_of versions a explicit) is.0 (version_of_text (versions_in raw) versions a explicit is.1)
version_by_text (Anonymous body) (Rust script) a explicit is = by_form true (Anonymous body) a explicit (Ok None) is.0 refl
version_by_text (Named versions) (Rust script) a explicit is = absurd is

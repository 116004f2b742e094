-- What a list's public calls refuse, by the grammar of its faults.
use Rattle.std.proofs.Common.{◌≡◌, ℕ, Bool, List, length, Result, Ok, Err, sym, ◌∙◌}
use Rattle.std.specs.Prelude.{IfOk, IfErr, OnOk}
use Rattle.link_script_syntax.specs.declared.fault.Fault.{Fault}
use Rattle.link_script_syntax.specs.declared.fault.ScriptErrorKind.{ScriptErrorKind}
use Rattle.link_script_syntax.specs.declared.profile.ScriptProfile.{ScriptProfile}
use Rattle.link_script_syntax.specs.declared.fault.ScriptFault.{ScriptFault}
use Rattle.link_script_syntax.specs.Fault.{Refuses}
use Rattle.link_script_syntax.specs.ForcedName.{added_entry}
use Rattle.link_script_syntax.specs.GnuList.{gnu_list}
use Rattle.link_script_syntax.specs.MachoList.{macho_list}
use Rattle.link_script.specs.declared.export_list.ExportList.{ExportList}
use Rattle.link_script.specs.ExportList.{IsGnuList, IsMachoList, AddsText}
use Rattle.link_script_syntax.specs.Faults.{IsFaultOf, IsRefusedWith}
use Rattle.link_script_syntax.proofs.Answered.{fault_is, refuses_by}
use Rattle.link_script_syntax.proofs.Judged.{Judges, never_both}

-- that a value was read
abbrev pub HasRead : {A X : Type 0} → Result A Fault → Result X ScriptFault → Type 0
HasRead {A} read (Ok x) = (value : A) × (read ≡ Ok value)
HasRead read (Err e) = Unit {0}

-- what is refused is a fault that the text has, at its place
pub is_fault : {A X : Type 0} (text : List ℕ) (read : Result A Fault) (says : A → Type 0) (fails : ScriptErrorKind → List ℕ → Type 0) → Judges read says fails
    → (r : Result X ScriptFault) → IfErr r (λ e. Refuses e text read) → IfErr r (λ e. IsFaultOf fails text e)
is_fault text read says fails j (Ok x) refused = tt
is_fault text read says fails j (Err e) refused = fault_is text read says fails j e refused

-- a fault that the text has is what is refused, unless memory ran out
pub is_refused : {A X : Type 0} (text : List ℕ) (read : Result A Fault) (says : A → Type 0) (fails : ScriptErrorKind → List ℕ → Type 0) → Judges read says fails
    → (r : Result X ScriptFault) → HasRead read r → IfErr r (λ e. Refuses e text read) → (kind : ScriptErrorKind) (at : List ℕ) → fails kind at → IsRefusedWith kind at text r
is_refused {A} text read says fails j (Ok x) has refused kind at f = never_both {A = A} has.0 (record { left = length at; kind = kind }) (sym has.1 ∙ j.faults kind at f)
is_refused {A} {X} text read says fails j (Err e) has refused kind at f = refuses_by {A = A} X text read kind at (j.faults kind at f) e refused

-- ---- what each call has read

pub gnu_read : (profile : ScriptProfile) (text : List ℕ) (r : Result ExportList ScriptFault) → IfOk r (λ list. IsGnuList profile text list) → HasRead (gnu_list profile text) r
gnu_read profile text (Ok list) read = (read.0, read.1)
gnu_read profile text (Err e) read = tt

pub macho_read : (text : List ℕ) (r : Result ExportList ScriptFault) → IfOk r (λ list. IsMachoList text list) → HasRead (macho_list text) r
macho_read text (Ok list) read = (read.0, read.1)
macho_read text (Err e) read = tt

pub added_read : (without_semicolon : Bool) (text : List ℕ) (old new : ExportList) (r : Result (Unit {0}) ScriptFault) → OnOk r (AddsText without_semicolon text old new) → HasRead (added_entry without_semicolon text) r
added_read without_semicolon text old new (Ok x) added = (added.0, added.1)
added_read without_semicolon text old new (Err e) added = tt

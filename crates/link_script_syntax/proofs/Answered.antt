-- What the public readers answer, by the grammar and its faults.
use Rattle.std.proofs.Common.{◌≡◌, ◌+◌, ℕ, List, length, Result, Ok, Err, sym, ap, subst, ◌∙◌}
use Rattle.std.specs.Prelude.{IfOk, IfErr}
use Rattle.link_script_syntax.specs.declared.fault.Fault.{Fault}
use Rattle.link_script_syntax.specs.declared.fault.ScriptErrorKind.{ScriptErrorKind}
use Rattle.link_script_syntax.specs.declared.fault.ScriptFault.{ScriptFault}
use Rattle.link_script_syntax.specs.declared.fault.ScriptFault.TheVariants as faults
use Rattle.link_script_syntax.specs.declared.matcher.ParsedSymbolMatcher.{ParsedSymbolMatcher}
use Rattle.link_script_syntax.specs.Entry.{entry_at, ReadsEntry, EntryIs}
use Rattle.link_script_syntax.specs.declared.profile.ScriptProfile.{ScriptProfile}
use Rattle.link_script_syntax.specs.Fault.{refuse, Refuses, Answers, IsRead}
use Rattle.link_script_syntax.specs.Faults.{IsFaultOf, IsRefusedWith, EntryFails}
use Rattle.link_script_syntax.specs.Grammar.{IsEntry}
use Rattle.link_script_syntax.proofs.Judged.{Judges, err_same, never_both, found, refused}
use Rattle.link_script_syntax.proofs.Places.{ok_same, pair_parts}
use Rattle.link_script_syntax.proofs.BlockLaws.{entry_judged}

-- ---- a fault, by what reading gives

-- what is refused is a fault of the text
pub fault_is : {A : Type 0} (text : List ℕ) (read : Result A Fault) (says : A → Type 0) (fails : ScriptErrorKind → List ℕ → Type 0) → Judges read says fails → (e : ScriptFault) → Refuses e text read → IsFaultOf fails text e
fault_is text read says fails j faults.Memory p = tt
fault_is text read says fails j (faults.Text t) p =
    let f = refused read says fails j (record { left = p.0; kind = t.kind }) p.2 in
    (f.0, f.1, subst (λ (n : ℕ). t.at + n ≡ length text) f.2 p.1)

-- a fault of the text is what is refused, unless memory ran out
pub refuses_by : {A : Type 0} (X : Type 0) (text : List ℕ) (read : Result A Fault) (kind : ScriptErrorKind) (at : List ℕ) → read ≡ refuse kind at → (e : ScriptFault) → Refuses e text read → IsRefusedWith {X = X} kind at text (Err e)
refuses_by X text read kind at is faults.Memory p = tt
refuses_by {A} X text read kind at is (faults.Text t) p =
    let same = err_same {A = A} (record { left = p.0; kind = t.kind }) (record { left = length at; kind = kind }) (sym p.2 ∙ is) in
    (ap (λ (f : Fault). f.kind) same, subst (λ (n : ℕ). t.at + n ≡ length text) (ap (λ (f : Fault). f.left) same) p.1)

-- ---- values and faults of a whole text

pub answers_found : {X : Type 0} (text : List ℕ) (read : Result X Fault) (says : X → Type 0) (fails : ScriptErrorKind → List ℕ → Type 0) → Judges read says fails → (r : Result X ScriptFault) → Answers (λ (x : X). x) text r read → IfOk r (λ x. says x)
answers_found text read says fails j (Ok x) p = found read says fails j x p
answers_found text read says fails j (Err e) p = tt

pub answers_only : {X : Type 0} (text : List ℕ) (read : Result X Fault) (says : X → Type 0) (fails : ScriptErrorKind → List ℕ → Type 0) → Judges read says fails → (r : Result X ScriptFault) → Answers (λ (x : X). x) text r read → (x : X) → says x → IsRead x r
answers_only {X} text read says fails j (Ok y) p x said = ok_same {A = X} y x (sym p ∙ j.values x said)
answers_only text read says fails j (Err faults.Memory) p x said = tt
answers_only {X} text read says fails j (Err (faults.Text t)) p x said = never_both {A = X} x (record { left = p.0; kind = t.kind }) (sym (j.values x said) ∙ p.2)

pub answers_refused : {X : Type 0} (text : List ℕ) (read : Result X Fault) (says : X → Type 0) (fails : ScriptErrorKind → List ℕ → Type 0) → Judges read says fails → (r : Result X ScriptFault) → Answers (λ (x : X). x) text r read → IfErr r (λ e. IsFaultOf fails text e)
answers_refused text read says fails j (Ok x) p = tt
answers_refused text read says fails j (Err e) p = fault_is text read says fails j e p

pub answers_refuses : {X : Type 0} (text : List ℕ) (read : Result X Fault) (says : X → Type 0) (fails : ScriptErrorKind → List ℕ → Type 0) → Judges read says fails → (r : Result X ScriptFault) → Answers (λ (x : X). x) text r read → (kind : ScriptErrorKind) (at : List ℕ) → fails kind at → IsRefusedWith kind at text r
answers_refuses {X} text read says fails j (Ok x) p kind at f = never_both {A = X} x (record { left = length at; kind = kind }) (sym p ∙ j.faults kind at f)
answers_refuses {X} text read says fails j (Err e) p kind at f = refuses_by {A = X} X text read kind at (j.faults kind at f) e p

-- ---- an entry at a place of a text

abbrev Says : ScriptProfile → List ℕ → ParsedSymbolMatcher × List ℕ → Type 0
Says profile here x = IsEntry profile here x.0 x.1

pub entry_reads : (profile : ScriptProfile) (text here : List ℕ) (r : Result (ParsedSymbolMatcher × ℕ) ScriptFault) → ReadsEntry text r (entry_at profile here) → IfOk r (λ x. (rest : List ℕ) × IsEntry profile here x.0 rest × (x.1 + length rest ≡ length text))
entry_reads profile text here (Ok x) p = (p.0, found (entry_at profile here) (Says profile here) (EntryFails profile here) (entry_judged profile here) (x.0, p.0) p.1, p.2)
entry_reads profile text here (Err e) p = tt

pub entry_is : (profile : ScriptProfile) (text here : List ℕ) (entry : ParsedSymbolMatcher) (rest : List ℕ) (r : Result (ParsedSymbolMatcher × ℕ) ScriptFault) → IsEntry profile here entry rest → ReadsEntry text r (entry_at profile here) → EntryIs text entry rest r
entry_is profile text here entry rest (Ok x) e p =
    let same = pair_parts x.0 entry p.0 rest (ok_same {A = ParsedSymbolMatcher × List ℕ} (x.0, p.0) (entry, rest) (sym p.1 ∙ (entry_judged profile here).values (entry, rest) e)) in
    (same.0, subst (λ (t : List ℕ). x.1 + length t ≡ length text) same.1 p.2)
entry_is profile text here entry rest (Err faults.Memory) e p = tt
entry_is profile text here entry rest (Err (faults.Text t)) e p =
    never_both {A = ParsedSymbolMatcher × List ℕ} (entry, rest) (record { left = p.0; kind = t.kind }) (sym ((entry_judged profile here).values (entry, rest) e) ∙ p.2)

pub entry_refused : (profile : ScriptProfile) (text here : List ℕ) (r : Result (ParsedSymbolMatcher × ℕ) ScriptFault) → ReadsEntry text r (entry_at profile here) → IfErr r (λ e. IsFaultOf (EntryFails profile here) text e)
entry_refused profile text here (Ok x) p = tt
entry_refused profile text here (Err e) p = fault_is text (entry_at profile here) (Says profile here) (EntryFails profile here) (entry_judged profile here) e p

pub entry_refuses : (profile : ScriptProfile) (text here : List ℕ) (r : Result (ParsedSymbolMatcher × ℕ) ScriptFault) → ReadsEntry text r (entry_at profile here) → (kind : ScriptErrorKind) (at : List ℕ) → EntryFails profile here kind at → IsRefusedWith kind at text r
entry_refuses profile text here (Ok x) p kind at f = never_both {A = ParsedSymbolMatcher × List ℕ} (x.0, p.0) (record { left = length at; kind = kind }) (sym p.1 ∙ (entry_judged profile here).faults kind at f)
entry_refuses profile text here (Err e) p kind at f = refuses_by {A = ParsedSymbolMatcher × List ℕ} (ParsedSymbolMatcher × ℕ) text (entry_at profile here) kind at ((entry_judged profile here).faults kind at f) e p

-- Which of some linker scripts brings the version script, and what that says of all scripts so far.
use Rattle.std.proofs.Common.{◌≡◌, ℕ, ◌+◌, ◌<◌, List, [], ◌∷◌, ◌++◌, length, get_or, drop, arith, Bool, true, false, Option, Some, None, refl, sym, ap, subst, ◌∙◌}
use Rattle.std.specs.Prelude.{◌||◌, filter_map, is_some}
use Rattle.std.specs.List.{cons_option}
use Rattle.std.specs.Option.{option_or, option_and_then}
use Rattle.std.proofs.lemmas.List.Elements.{filter_map-append}
use Rattle.link_input.specs.declared.options.Options.{Options}
use Rattle.link_input.specs.declared.world.ProcessedLinkerScript.{ProcessedLinkerScript}
use Rattle.link_input.specs.declared.world.Scripts.{Scripts}
use Rattle.link_script.specs.declared.export_list.ExportList.{ExportList}
use Rattle.link_script.specs.declared.script.VersionScript.{VersionScript}
use Rattle.link_script.specs.Script.{IsScriptOf}
use Rattle.link_script_syntax.specs.declared.profile.ScriptProfile.{ScriptProfile}
use Rattle.link_rules.specs.declared.refusal.LinkError.{LinkError}
use Rattle.link_rules.specs.Places.{Bytes, first_of}
use Rattle.link_rules.specs.Refusals.{linker_script_cause, version_text_cause}
use Rattle.link_rules.specs.Rules.{PlatformRules, taken_text, script_of}
use Rattle.link_db_texts.specs.Holds.{HoldsTexts, IsScriptIf}
use Rattle.link_db_texts.specs.ReadTexts.{ReadTexts}
use Rattle.link_db_texts.proofs.Forced.{rest_is}

-- the version texts of linker scripts
abbrev pub texts_in : List ProcessedLinkerScript → List Bytes
texts_in scripts = filter_map (λ s. s.version) scripts

-- a test or nothing is the test
pub or_false : (b : Bool) → (b || false) ≡ b
or_false true = refl
or_false false = refl

-- a test or what holds holds
pub or_true : (b : Bool) → (b || true) ≡ true
or_true true = refl
or_true false = refl

-- an option or nothing is the option
or_none : {X : Type 0} (o : Option X) → option_or o None ≡ o
or_none None = refl
or_none (Some x) = refl

-- where neither of two options is something, the first isn't
or_left : {X : Type 0} (a b : Option X) → option_or a b ≡ None → a ≡ None
or_left None b e = refl
or_left (Some x) b e = absurd cc

-- the first of three options is that of the first two, or the third
or_assoc : {X : Type 0} (a b c : Option X) → option_or (option_or a b) c ≡ option_or a (option_or b c)
or_assoc None b c = refl
or_assoc (Some x) b c = refl

-- ---- causes, script by script

-- the cause of a script with this text, if it has one, before others
abbrev cause_by : ScriptProfile → Bool → Bool → ℕ → List ProcessedLinkerScript → Option Bytes → Option LinkError
cause_by profile late taken i ss o = option_or (option_and_then (version_text_cause profile late taken i) o) (linker_script_cause profile late (taken || is_some o) (i + 1) ss)

-- a script without a version text changes nothing
pub next_none : (profile : ScriptProfile) (late taken : Bool) (i : ℕ) (s : ProcessedLinkerScript) (ss : List ProcessedLinkerScript) → s.version ≡ None
    → linker_script_cause profile late taken i (s ∷ ss) ≡ linker_script_cause profile late taken (i + 1) ss
next_none profile late taken i s ss none =
    ap (cause_by profile late taken i ss) none ∙ ap (λ (b : Bool). linker_script_cause profile late b (i + 1) ss) (or_false taken)

-- behind one whose text is taken no other is
pub next_some : (profile : ScriptProfile) (late taken : Bool) (i : ℕ) (s : ProcessedLinkerScript) (ss : List ProcessedLinkerScript) (text : Bytes) → s.version ≡ Some text
    → version_text_cause profile late taken i text ≡ None → linker_script_cause profile late taken i (s ∷ ss) ≡ linker_script_cause profile late true (i + 1) ss
next_some profile late taken i s ss text some none =
    ap (cause_by profile late taken i ss) some
    ∙ ap (λ c. option_or c (linker_script_cause profile late (taken || true) (i + 1) ss)) none
    ∙ ap (λ (b : Bool). linker_script_cause profile late b (i + 1) ss) (or_true taken)

-- a text is taken only where none was before, and of the first batch
text_taken : (profile : ScriptProfile) (late taken : Bool) (i : ℕ) (text : Bytes) → version_text_cause profile late taken i text ≡ None → (taken ≡ false) × (late ≡ false)
text_taken profile late true i text e = absurd cc
text_taken profile true false i text e = absurd cc
text_taken profile false false i text e = (refl, refl)

-- the first text of scripts, by that of the first of them
abbrev first_by : List ProcessedLinkerScript → Option Bytes → Option Bytes
first_by ss o = first_of (cons_option o (texts_in ss))

-- a script without a version text is passed over
pub first_later : (s : ProcessedLinkerScript) (ss : List ProcessedLinkerScript) → s.version ≡ None → first_of (texts_in (s ∷ ss)) ≡ first_of (texts_in ss)
first_later s ss none = ap (first_by ss) none

-- the text of the first is the first
pub first_here : (s : ProcessedLinkerScript) (ss : List ProcessedLinkerScript) (text : Bytes) → s.version ≡ Some text
    → first_of (texts_in (s ∷ ss)) ≡ Some text
first_here s ss text some = ap (first_by ss) some

-- where scripts bring a text and have no cause, none was taken before them, and their batch is not late
pub untaken : (profile : ScriptProfile) (late taken : Bool) (i : ℕ) (ss : List ProcessedLinkerScript) (text : Bytes) → linker_script_cause profile late taken i ss ≡ None
    → first_of (texts_in ss) ≡ Some text → (taken ≡ false) × (late ≡ false)
untaken profile late taken i [] text none some = absurd cc
untaken profile late taken i (s ∷ ss) text none some = by s.version refl (untaken profile late taken (i + 1) ss text)
  where
    by : (o : Option Bytes) → s.version ≡ o
        → (linker_script_cause profile late taken (i + 1) ss ≡ None → first_of (texts_in ss) ≡ Some text → (taken ≡ false) × (late ≡ false))
        → (taken ≡ false) × (late ≡ false)
    by None is later = later (sym (next_none profile late taken i s ss is) ∙ none) (sym (first_later s ss is) ∙ some)
    by (Some t) is later = text_taken profile late taken i t (or_left (version_text_cause profile late taken i t) _ (sym (ap (cause_by profile late taken i ss) is) ∙ none))

-- ---- causes, by places

-- behind a script without a text the cause is the same
pub cause_passed : (profile : ScriptProfile) (late taken : Bool) (first : ℕ) (scripts : List ProcessedLinkerScript) (i : ℕ) (s : ProcessedLinkerScript) (cause : Option LinkError)
    → i < length scripts → s ≡ get_or scripts i s → s.version ≡ None → linker_script_cause profile late taken (first + i) (drop i scripts) ≡ cause
    → linker_script_cause profile late taken (first + (i + 1)) (drop (i + 1) scripts) ≡ cause
cause_passed profile late taken first scripts i s cause lt is none before =
    let next : first + (i + 1) ≡ (first + i) + 1 = omega arith in
    ap (λ (n : ℕ). linker_script_cause profile late taken n (drop (i + 1) scripts)) next
    ∙ sym (next_none profile late taken (first + i) s (drop (i + 1) scripts) none)
    ∙ ap (linker_script_cause profile late taken (first + i)) (sym (rest_is scripts i s lt is)) ∙ before

-- and behind one whose text is taken
pub cause_taken : (profile : ScriptProfile) (late taken was : Bool) (first : ℕ) (scripts : List ProcessedLinkerScript) (i : ℕ) (s : ProcessedLinkerScript) (text : Bytes)
    (cause : Option LinkError) → i < length scripts → s ≡ get_or scripts i s → s.version ≡ Some text
    → version_text_cause profile late was (first + i) text ≡ None → linker_script_cause profile late was (first + i) (drop i scripts) ≡ cause
    → linker_script_cause profile late (taken || true) (first + (i + 1)) (drop (i + 1) scripts) ≡ cause
cause_taken profile late taken was first scripts i s text cause lt is some none before =
    let next : first + (i + 1) ≡ (first + i) + 1 = omega arith in
    ap (λ (n : ℕ). linker_script_cause profile late (taken || true) n (drop (i + 1) scripts)) next
    ∙ ap (λ (b : Bool). linker_script_cause profile late b (first + i + 1) (drop (i + 1) scripts)) (or_true taken)
    ∙ sym (next_some profile late was (first + i) s (drop (i + 1) scripts) text some none)
    ∙ ap (linker_script_cause profile late was (first + i)) (sym (rest_is scripts i s lt is)) ∙ before

-- ---- a walk over the scripts

-- what was found of the scripts before the rest
pub record SoFar (profile : ScriptProfile) (scripts rest : List ProcessedLinkerScript) (found : Option VersionScript) : Type 0 where
  pub text : Option Bytes
  pub script : IsScriptIf profile text found
  pub first : option_or text (first_of (texts_in rest)) ≡ first_of (texts_in scripts)

-- past a script without a text
pub passed : (profile : ScriptProfile) (scripts rest : List ProcessedLinkerScript) (s : ProcessedLinkerScript) (found : Option VersionScript) → s.version ≡ None
    → SoFar profile scripts (s ∷ rest) found → SoFar profile scripts rest found
passed profile scripts rest s found none so_far = record {
  text = so_far.text;
  script = so_far.script;
  first = ap (option_or so_far.text) (sym (first_later s rest none)) ∙ so_far.first;
}

-- past the first script with a text
pub found_here : (profile : ScriptProfile) (scripts rest : List ProcessedLinkerScript) (s : ProcessedLinkerScript) (text : Bytes) (script : VersionScript) → s.version ≡ Some text
    → IsScriptOf (script_of profile (Some text)) script → SoFar profile scripts (s ∷ rest) None → SoFar profile scripts rest (Some script)
found_here profile scripts rest s text script some is so_far = record {
  text = Some text;
  script = is;
  first = by so_far.text so_far.script so_far.first;
}
  where
    by : (t : Option Bytes) → IsScriptIf profile t None → option_or t (first_of (texts_in (s ∷ rest))) ≡ first_of (texts_in scripts) → Some text ≡ first_of (texts_in scripts)
    by None none first = sym (first_here s rest text some) ∙ first
    by (Some t) none first = absurd none

-- past a script without a text, by places
pub passed_at : (profile : ScriptProfile) (scripts : List ProcessedLinkerScript) (i : ℕ) (s : ProcessedLinkerScript) (found : Option VersionScript) → i < length scripts
    → s ≡ get_or scripts i s → s.version ≡ None → SoFar profile scripts (drop i scripts) found → SoFar profile scripts (drop (i + 1) scripts) found
passed_at profile scripts i s found lt is none so_far =
    passed profile scripts (drop (i + 1) scripts) s found none (subst (λ rest. SoFar profile scripts rest found) (rest_is scripts i s lt is) so_far)

-- past one whose text is taken
pub found_at : (profile : ScriptProfile) (late taken : Bool) (place : ℕ) (scripts : List ProcessedLinkerScript) (i : ℕ) (s : ProcessedLinkerScript) (text : Bytes)
    (found : Option VersionScript) (script : VersionScript) → i < length scripts → s ≡ get_or scripts i s → s.version ≡ Some text
    → version_text_cause profile late (taken || is_some found) place text ≡ None → IsScriptOf (script_of profile (Some text)) script
    → SoFar profile scripts (drop i scripts) found → SoFar profile scripts (drop (i + 1) scripts) (Some script)
found_at profile late taken place scripts i s text (Some before) script lt is some none read so_far =
    absurd (let wrong : (taken || true) ≡ false = (text_taken profile late (taken || true) place text none).0 in let right = or_true taken in cc)
found_at profile late taken place scripts i s text None script lt is some none read so_far =
    found_here profile scripts (drop (i + 1) scripts) s text script some read (subst (λ rest. SoFar profile scripts rest None) (rest_is scripts i s lt is) so_far)

-- ---- the script of all scripts so far

-- the first of two lists
first_of_both : {X : Type 0} (xs ys : List X) → first_of (xs ++ ys) ≡ option_or (first_of xs) (first_of ys)
first_of_both [] ys = refl
first_of_both (x ∷ xs) ys = refl

-- the text that is taken of more scripts
taken_more : (texts : Scripts) (before more : List ProcessedLinkerScript)
    → taken_text texts (before ++ more) ≡ option_or (taken_text texts before) (first_of (texts_in more))
taken_more texts before more =
    ap (λ (ts : List Bytes). option_or texts.version_script (first_of ts)) (filter_map-append (λ (s : ProcessedLinkerScript). s.version) before more)
    ∙ ap (option_or texts.version_script) (first_of_both (texts_in before) (texts_in more))
    ∙ sym (or_assoc texts.version_script (first_of (texts_in before)) (first_of (texts_in more)))

-- what is not something is nothing
no_some : {X : Type 0} (o : Option X) → is_some o ≡ false → o ≡ None
no_some None e = refl
no_some (Some x) e = absurd cc

-- scripts without a text change nothing
pub held_without : (platform : PlatformRules) (options : Options) (texts : Scripts) (before more : List ProcessedLinkerScript) (read : ReadTexts)
    → first_of (texts_in more) ≡ None → HoldsTexts platform options texts before read → HoldsTexts platform options texts (before ++ more) read
held_without platform options texts before more read none holds =
    let same : taken_text texts (before ++ more) ≡ taken_text texts before =
    taken_more texts before more ∙ ap (option_or (taken_text texts before)) none ∙ or_none (taken_text texts before) in
    record {
      profile = holds.profile;
      script = subst (λ t. IsScriptOf (script_of options.script_profile t) read.script) (sym same) holds.script;
      taken = holds.taken ∙ ap is_some (sym same);
      list = holds.list;
    }

-- scripts with a text bring the script, where none was taken before
pub held_with : (platform : PlatformRules) (options : Options) (texts : Scripts) (before more : List ProcessedLinkerScript) (read : ReadTexts)
    (text : Bytes) (script : VersionScript) → first_of (texts_in more) ≡ Some text → read.is_taken ≡ false → IsScriptOf (script_of options.script_profile (Some text)) script
    → HoldsTexts platform options texts before read
    → HoldsTexts platform options texts (before ++ more) (record read { script = script; is_taken = true })
held_with platform options texts before more read text script some untaken is holds =
    let none : taken_text texts before ≡ None = no_some (taken_text texts before) (sym holds.taken ∙ untaken) in
    let same : taken_text texts (before ++ more) ≡ Some text =
    taken_more texts before more ∙ ap (λ t. option_or t (first_of (texts_in more))) none ∙ some in
    record {
      profile = holds.profile;
      script = subst (λ t. IsScriptOf (script_of options.script_profile t) script) (sym same) is;
      taken = ap is_some (sym same);
      list = holds.list;
    }

module _ (profile : ScriptProfile) (more : List ProcessedLinkerScript) (late taken : Bool) (first : ℕ) (none : linker_script_cause profile late taken first more ≡ None) where
  -- where a batch brings a script, its first text is that of the script, none was taken before, and it isn't late
  brought : (script : VersionScript) → IsScriptIf profile (first_of (texts_in more)) (Some script)
      → (text : Bytes) × (first_of (texts_in more) ≡ Some text) × IsScriptOf (script_of profile (Some text)) script × (taken ≡ false) × (late ≡ false)
  brought script is = by (first_of (texts_in more)) refl is
    where
      by : (o : Option Bytes) → first_of (texts_in more) ≡ o → IsScriptIf profile o (Some script)
          → (text : Bytes) × (first_of (texts_in more) ≡ Some text) × IsScriptOf (script_of profile (Some text)) script × (taken ≡ false) × (late ≡ false)
      by None same no_script = absurd no_script
      by (Some text) same read = let new = untaken profile late taken first more text none same in (text, same, read, new.0, new.1)

  -- a batch that brings a script is not late
  pub not_late : (script : VersionScript) → IsScriptIf profile (first_of (texts_in more)) (Some script) → late ≡ false
  not_late script is = (brought script is).4

  -- what is kept with the script that a batch brings
  pub held_batch : (platform : PlatformRules) (options : Options) (texts : Scripts) (before : List ProcessedLinkerScript) (old script : VersionScript)
      (list : Option ExportList) → IsScriptIf profile (first_of (texts_in more)) (Some script)
      → HoldsTexts platform options texts before (record { profile = profile; script = old; is_taken = taken; list = list })
      → HoldsTexts platform options texts (before ++ more) (record { profile = profile; script = script; is_taken = true; list = list })
  held_batch platform options texts before old script list is holds =
      let new = brought script is in
      held_with platform options texts before more (record { profile = profile; script = old; is_taken = taken; list = list }) new.0 script new.1 new.3
      (subst (λ (p : ScriptProfile). IsScriptOf (script_of p (Some new.0)) script) holds.profile new.2) holds

-- a batch that brings no script has no text
pub no_text : (profile : ScriptProfile) (more : List ProcessedLinkerScript) → IsScriptIf profile (first_of (texts_in more)) None → first_of (texts_in more) ≡ None
no_text profile more is = by (first_of (texts_in more)) refl is
  where
    by : (o : Option Bytes) → first_of (texts_in more) ≡ o → IsScriptIf profile o None → first_of (texts_in more) ≡ None
    by None same none = same
    by (Some text) same none = absurd none

-- Which of some linker scripts brings a version script that is refused, script by script.
use Rattle.std.proofs.Common.{◌≡◌, ℕ, ◌+◌, ◌<◌, List, ◌∷◌, length, get_or, drop, Bool, true, false, Option, Some, None, refl, sym, ap, ◌∙◌}
use Rattle.std.specs.Prelude.{◌||◌, is_some}
use Rattle.std.specs.Option.{option_or}
use Rattle.std.specs.Prelude.{option_and_then}
use Rattle.link_input.specs.declared.world.ProcessedLinkerScript.{ProcessedLinkerScript}
use Rattle.link_script_syntax.specs.declared.profile.ScriptProfile.{ScriptProfile}
use Rattle.link_rules.specs.declared.refusal.LinkError.{LinkError}
use Rattle.link_rules.specs.Places.{Bytes}
use Rattle.link_rules.specs.Refusals.{linker_script_cause, version_text_cause}
use Rattle.link_check_texts.proofs.Forced.{rest_is}

-- a test or nothing is the test
or_false : (b : Bool) → (b || false) ≡ b
or_false true = refl
or_false false = refl

-- a test or what holds holds
or_true : (b : Bool) → (b || true) ≡ true
or_true true = refl
or_true false = refl

-- the cause of a script with this text, if it has one, before others
abbrev cause_by : ScriptProfile → Bool → ℕ → List ProcessedLinkerScript → Option Bytes → Option LinkError
cause_by profile taken i ss o = option_or (option_and_then (version_text_cause profile false taken i) o) (linker_script_cause profile false (taken || is_some o) (i + 1) ss)

-- a script without a version text changes nothing
next_none : (profile : ScriptProfile) (taken : Bool) (i : ℕ) (s : ProcessedLinkerScript) (ss : List ProcessedLinkerScript) → s.version ≡ None
    → linker_script_cause profile false taken i (s ∷ ss) ≡ linker_script_cause profile false taken (i + 1) ss
next_none profile taken i s ss none =
    ap (cause_by profile taken i ss) none ∙ ap (λ (b : Bool). linker_script_cause profile false b (i + 1) ss) (or_false taken)

-- behind one whose text is taken no other is
next_some : (profile : ScriptProfile) (taken : Bool) (i : ℕ) (s : ProcessedLinkerScript) (ss : List ProcessedLinkerScript) (text : Bytes) → s.version ≡ Some text
    → version_text_cause profile false taken i text ≡ None → linker_script_cause profile false taken i (s ∷ ss) ≡ linker_script_cause profile false true (i + 1) ss
next_some profile taken i s ss text some none =
    ap (cause_by profile taken i ss) some
    ∙ ap (λ c. option_or c (linker_script_cause profile false (taken || true) (i + 1) ss)) none
    ∙ ap (λ (b : Bool). linker_script_cause profile false b (i + 1) ss) (or_true taken)

-- behind a script without a text the cause is the same
pub cause_passed : (profile : ScriptProfile) (taken : Bool) (scripts : List ProcessedLinkerScript) (i : ℕ) (s : ProcessedLinkerScript) (cause : Option LinkError)
    → i < length scripts → s ≡ get_or scripts i s → s.version ≡ None → linker_script_cause profile false taken i (drop i scripts) ≡ cause
    → linker_script_cause profile false taken (i + 1) (drop (i + 1) scripts) ≡ cause
cause_passed profile taken scripts i s cause lt is none before =
    sym (next_none profile taken i s (drop (i + 1) scripts) none)
    ∙ ap (linker_script_cause profile false taken i) (sym (rest_is scripts i s lt is)) ∙ before

-- and behind one whose text is taken
pub cause_taken : (profile : ScriptProfile) (taken : Bool) (scripts : List ProcessedLinkerScript) (i : ℕ) (s : ProcessedLinkerScript) (text : Bytes)
    (cause : Option LinkError) → i < length scripts → s ≡ get_or scripts i s → s.version ≡ Some text
    → version_text_cause profile false taken i text ≡ None → linker_script_cause profile false taken i (drop i scripts) ≡ cause
    → linker_script_cause profile false true (i + 1) (drop (i + 1) scripts) ≡ cause
cause_taken profile taken scripts i s text cause lt is some none before =
    sym (next_some profile taken i s (drop (i + 1) scripts) text some none)
    ∙ ap (linker_script_cause profile false taken i) (sym (rest_is scripts i s lt is)) ∙ before

-- Forced export names, one by one.
use Rattle.std.proofs.Common.{◌≡◌, ℕ, ◌+◌, ◌<◌, true, List, ◌∷◌, length, get_or, drop, suc, add-one, Option, Result, Ok, inl, inr, refl, sym, ap, subst, ◌∙◌}
use Rattle.std.specs.Prelude.{filter_map}
use Rattle.std.specs.List.{cons_option, enumerate_from}
use Rattle.std.proofs.Math.Seq.{drop-cons}
use Rattle.link_script_syntax.specs.declared.fault.Fault.{Fault}
use Rattle.link_script_syntax.specs.declared.fault.ScriptFault.{ScriptFault}
use Rattle.link_script_syntax.specs.declared.matcher.ParsedSymbolMatcher.{ParsedSymbolMatcher}
use Rattle.link_script_syntax.specs.Fault.{Refuses}
use Rattle.link_script_syntax.specs.ForcedName.{added_entry, forced_name}
use Rattle.link_rules.specs.declared.refusal.LinkError.{LinkError}
use Rattle.link_rules.specs.declared.refusal.ScriptOrigin.TheVariants.{ForcedExport}
use Rattle.link_rules.specs.Places.{Bytes, first_of}
use Rattle.link_rules.specs.Refusals.{forced_export_cause, script_cause}
use Rattle.link_rules.specs.Rules.{fault_in}
use Rattle.link_check_texts.specs.Causes.{error_of, forced_causes}
use Rattle.link_check_texts.proofs.Told.{IsTold, told}

-- that cause, by what is read of the first
abbrev by_first : ℕ → Bytes → List Bytes → Result ParsedSymbolMatcher Fault → Option LinkError
by_first i name rest read =
    first_of (cons_option (script_cause (ForcedExport i) (fault_in name read)) (filter_map forced_export_cause (enumerate_from (i + 1) rest)))

-- a text without a semicolon is a forced name
pub added_is : (text : Bytes) → added_entry true text ≡ forced_name text
unfolding added_entry
added_is text = refl

-- a name that is read has no cause
next_cause : (i : ℕ) (name : Bytes) (rest : List Bytes) (e : ParsedSymbolMatcher) → added_entry true name ≡ Ok e
    → forced_causes i (name ∷ rest) ≡ forced_causes (i + 1) rest
next_cause i name rest e is = ap (by_first i name rest) (sym (added_is name) ∙ is)

-- one that isn't is the cause
here_cause : (i : ℕ) (name : Bytes) (rest : List Bytes) (fault : ScriptFault) → Refuses fault name (added_entry true name)
    → IsTold (forced_causes i (name ∷ rest)) (error_of (ForcedExport i) fault)
here_cause i name rest fault refused =
    by (told (ForcedExport i) name (forced_name name) fault (subst (Refuses fault name) (added_is name) refused))
  where
    by : IsTold (script_cause (ForcedExport i) (fault_in name (forced_name name))) (error_of (ForcedExport i) fault)
        → IsTold (forced_causes i (name ∷ rest)) (error_of (ForcedExport i) fault)
    by (inl memory) = inl memory
    by (inr is) = inr (ap (λ c. first_of (cons_option c (filter_map forced_export_cause (enumerate_from (i + 1) rest)))) is)

-- what stands from a place on begins with what stands there
pub rest_is : {X : Type 0} (xs : List X) (i : ℕ) (x : X) → i < length xs → x ≡ get_or xs i x → drop i xs ≡ x ∷ drop (i + 1) xs
rest_is xs i x lt is =
    drop-cons xs i x lt ∙ ap (λ y. y ∷ drop (suc i) xs) (sym is) ∙ ap (λ k. x ∷ drop k xs) (sym (add-one i))

-- a name that is refused is the cause of all
pub refused_at : (forced : List Bytes) (i : ℕ) (name : Bytes) (fault : ScriptFault) (error : LinkError) → i < length forced → name ≡ get_or forced i name
    → forced_causes i (drop i forced) ≡ forced_causes 0 forced → Refuses fault name (added_entry true name) → error ≡ error_of (ForcedExport i) fault
    → IsTold (forced_causes 0 forced) error
refused_at forced i name fault error lt is before refused same =
    subst (IsTold (forced_causes 0 forced)) (sym same)
    (subst (λ cause. IsTold cause (error_of (ForcedExport i) fault)) (ap (forced_causes i) (sym (rest_is forced i name lt is)) ∙ before)
    (here_cause i name (drop (i + 1) forced) fault refused))

-- one that is read leaves the cause to those behind it
pub cause_kept : (forced : List Bytes) (i : ℕ) (name : Bytes) (e : ParsedSymbolMatcher) → i < length forced → name ≡ get_or forced i name
    → forced_causes i (drop i forced) ≡ forced_causes 0 forced → added_entry true name ≡ Ok e
    → forced_causes (i + 1) (drop (i + 1) forced) ≡ forced_causes 0 forced
cause_kept forced i name e lt is before read =
    sym (next_cause i name (drop (i + 1) forced) e read) ∙ ap (forced_causes i) (sym (rest_is forced i name lt is)) ∙ before

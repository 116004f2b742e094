-- Forced export names, one by one.
use Rattle.std.proofs.Common.{◌≡◌, ℕ, ◌+◌, ◌<◌, true, List, [], ◌∷◌, ◌++◌, length, get_or, take, drop, suc, add-one, Option, Result, Ok, inl, inr, refl, sym, ap, subst, ◌∙◌, append_assoc}
use Rattle.std.specs.Prelude.{filter_map}
use Rattle.std.specs.List.{cons_option, enumerate_from}
use Rattle.std.proofs.Math.Seq.{drop-cons}
use Rattle.std.proofs.lemmas.List.{take_more}
use Rattle.std.proofs.lemmas.List.Elements.{filter_map-append}
use Rattle.link_script_syntax.specs.declared.fault.Fault.{Fault}
use Rattle.link_script_syntax.specs.declared.fault.ScriptFault.{ScriptFault}
use Rattle.link_script_syntax.specs.declared.matcher.ParsedSymbolMatcher.{ParsedSymbolMatcher}
use Rattle.link_script_syntax.specs.Fault.{Refuses}
use Rattle.link_script_syntax.specs.ForcedName.{added_entry, forced_name}
use Rattle.link_script.specs.declared.export_list.ExportList.{ExportList}
use Rattle.link_script.specs.ExportList.{AddsText, IsListOf}
use Rattle.link_rules.specs.declared.refusal.LinkError.{LinkError}
use Rattle.link_rules.specs.declared.refusal.ScriptOrigin.TheVariants.{ForcedExport}
use Rattle.link_rules.specs.Places.{Bytes, first_of}
use Rattle.link_rules.specs.Refusals.{forced_export_cause, script_cause}
use Rattle.link_rules.specs.Rules.{fault_in, ok_of}
use Rattle.link_db_texts.specs.Causes.{error_of, forced_cause}
use Rattle.link_db_texts.specs.Holds.{forced_entries}
use Rattle.link_db_texts.proofs.Lists.{gained}
use Rattle.link_db_texts.proofs.Told.{IsTold, told}

-- the first cause of forced names, of which the first has this place
abbrev pub causes_from : ℕ → List Bytes → Option LinkError
causes_from i forced = first_of (filter_map forced_export_cause (enumerate_from i forced))

-- that cause, by what is read of the first
abbrev by_first : ℕ → Bytes → List Bytes → Result ParsedSymbolMatcher Fault → Option LinkError
by_first i name rest read =
    first_of (cons_option (script_cause (ForcedExport i) (fault_in name read)) (filter_map forced_export_cause (enumerate_from (i + 1) rest)))

-- a text without a semicolon is a forced name
pub added_is : (text : Bytes) → added_entry true text ≡ forced_name text
unfolding added_entry
added_is text = refl

-- a name that is read has no cause
pub next_cause : (i : ℕ) (name : Bytes) (rest : List Bytes) (e : ParsedSymbolMatcher) → added_entry true name ≡ Ok e
    → causes_from i (name ∷ rest) ≡ causes_from (i + 1) rest
next_cause i name rest e is = ap (by_first i name rest) (sym (added_is name) ∙ is)

-- one that isn't is the cause
pub here_cause : (i : ℕ) (name : Bytes) (rest : List Bytes) (fault : ScriptFault) → Refuses fault name (added_entry true name)
    → IsTold (causes_from i (name ∷ rest)) (error_of (ForcedExport i) fault)
here_cause i name rest fault refused =
    by (told (ForcedExport i) name (forced_name name) fault (subst (Refuses fault name) (added_is name) refused))
  where
    by : IsTold (script_cause (ForcedExport i) (fault_in name (forced_name name))) (error_of (ForcedExport i) fault)
        → IsTold (causes_from i (name ∷ rest)) (error_of (ForcedExport i) fault)
    by (inl memory) = inl memory
    by (inr is) = inr (ap (λ c. first_of (cons_option c (filter_map forced_export_cause (enumerate_from (i + 1) rest)))) is)

-- the entries of one name more
next_entries : (forced : List Bytes) (i : ℕ) (name : Bytes) (e : ParsedSymbolMatcher) → i < length forced → get_or forced i name ≡ name
    → added_entry true name ≡ Ok e → forced_entries (take (i + 1) forced) ≡ forced_entries (take i forced) ++ e ∷ []
next_entries forced i name e lt at is =
    ap forced_entries (take_more forced i name lt)
    ∙ filter_map-append (λ (n : Bytes). ok_of (forced_name n)) (take i forced) (get_or forced i name ∷ [])
    ∙ ap (λ (n : Bytes). forced_entries (take i forced) ++ cons_option (ok_of (forced_name n)) []) at
    ∙ ap (λ (r : Result ParsedSymbolMatcher Fault). forced_entries (take i forced) ++ cons_option (ok_of r) []) (sym (added_is name) ∙ is)

-- what stands from a place on begins with what stands there
pub rest_is : {X : Type 0} (xs : List X) (i : ℕ) (x : X) → i < length xs → x ≡ get_or xs i x → drop i xs ≡ x ∷ drop (i + 1) xs
rest_is xs i x lt is =
    drop-cons xs i x lt ∙ ap (λ y. y ∷ drop (suc i) xs) (sym is) ∙ ap (λ k. x ∷ drop k xs) (sym (add-one i))

-- a name that is refused is the cause of all
pub refused_at : (forced : List Bytes) (i : ℕ) (name : Bytes) (fault : ScriptFault) (error : LinkError) → i < length forced → name ≡ get_or forced i name
    → causes_from i (drop i forced) ≡ forced_cause forced → Refuses fault name (added_entry true name) → error ≡ error_of (ForcedExport i) fault
    → IsTold (forced_cause forced) error
refused_at forced i name fault error lt is before refused same =
    subst (IsTold (forced_cause forced)) (sym same)
    (subst (λ cause. IsTold cause (error_of (ForcedExport i) fault)) (ap (causes_from i) (sym (rest_is forced i name lt is)) ∙ before)
    (here_cause i name (drop (i + 1) forced) fault refused))

-- one that is read leaves the cause to those behind it
pub cause_kept : (forced : List Bytes) (i : ℕ) (name : Bytes) (e : ParsedSymbolMatcher) → i < length forced → name ≡ get_or forced i name
    → causes_from i (drop i forced) ≡ forced_cause forced → added_entry true name ≡ Ok e → causes_from (i + 1) (drop (i + 1) forced) ≡ forced_cause forced
cause_kept forced i name e lt is before read =
    sym (next_cause i name (drop (i + 1) forced) e read) ∙ ap (causes_from i) (sym (rest_is forced i name lt is)) ∙ before

-- the list with one name more
pub next_list : (forced : List Bytes) (i : ℕ) (name : Bytes) (entries : List ParsedSymbolMatcher) (required : List Bytes) (old new : ExportList)
    → i < length forced → get_or forced i name ≡ name → IsListOf (entries ++ forced_entries (take i forced)) required old
    → AddsText true name old new → IsListOf (entries ++ forced_entries (take (i + 1) forced)) required new
next_list forced i name entries required old new lt at is adds =
    subst (λ es. IsListOf es required new)
    (append_assoc entries (forced_entries (take i forced)) (adds.0 ∷ []) ∙ ap (λ es. entries ++ es) (sym (next_entries forced i name adds.0 lt at adds.1)))
    (gained (entries ++ forced_entries (take i forced)) adds.0 required old new is adds.2)

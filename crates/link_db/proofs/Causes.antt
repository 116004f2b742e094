-- Why the files of a batch are refused.
use Rattle.std.proofs.Common.{rules, suc, ◌≡◌, ◌≤◌, ◌==◌, ◌∙◌, ℕ, Bool, false, List, [], ◌∷◌, Option, None, Result, Ok, Err, refl, sym, ap, subst, arith, length, inl, inr}
use Rattle.std.specs.Prelude.{not, OnOk}
use Rattle.std.specs.List.{flat_map}
use Rattle.std.specs.Result.{IsErr, IsErrAnd}
use Rattle.std.specs.Option.{option_or}
use Rattle.link_input.specs.declared.options.Options.{Options}
use Rattle.link_input.specs.declared.world.ProcessedLinkerScript.{ProcessedLinkerScript}
use Rattle.link_input.specs.InputFiles.{Batch}
use Rattle.link_input_groups.specs.declared.group.Group.{Group}
use Rattle.link_input_groups.specs.Held.{AreGroupsOf}
use Rattle.link_db_files.specs.Inputs.{scripts_in}
use Rattle.link_db_files.proofs.Joining.{scripts-of-batches}
use Rattle.link_script_syntax.specs.declared.profile.ScriptProfile.{ScriptProfile}
use Rattle.link_rules.specs.declared.refusal.LinkError.{LinkError}
use Rattle.link_rules.specs.Places.{is_empty}
use Rattle.link_rules.specs.Refusals.{linker_script_cause}
use Rattle.link_db_texts.specs.Causes.{TellsCause}

-- a call that tells the first of two causes tells the first cause
pub tells-first : (A B : Type 0) (first other : Option LinkError) (e : LinkError) → TellsCause {A = A} first (Err e) → TellsCause {A = B} (option_or first other) (Err e)
tells-first A B first other e (inl memory) = inl memory
tells-first A B first other e (inr is) = inr (ap (λ (o : Option LinkError). option_or o other) is)

-- where the first cause is none, one that tells the other tells the first cause
pub tells-other : (A B : Type 0) (first other : Option LinkError) (e : LinkError) → first ≡ None → TellsCause {A = A} other (Err e) → TellsCause {A = B} (option_or first (option_or other None)) (Err e)
tells-other A B first other e none (inl memory) = inl memory
tells-other A B first other e none (inr is) = inr (ap (λ (o : Option LinkError). option_or o (option_or other None)) none ∙ ap (λ (o : Option LinkError). option_or o None) is)

-- where there is neither there is none
pub neither : (first other : Option LinkError) → first ≡ None → other ≡ None → option_or first (option_or other None) ≡ None
neither first other none others = ap (λ (o : Option LinkError). option_or o (option_or other None)) none ∙ ap (λ (o : Option LinkError). option_or o None) others

-- a list is empty where it has no element
pub empty-counted : {A : Type 0} (xs : List A) → not (length xs == 0) ≡ not (is_empty xs)
empty-counted [] = refl
empty-counted (x ∷ xs) = let some : (suc (length xs) == 0) ≡ false = search rules in ap not some

-- there are groups where there are batches
pub late-batches : {P : Type 0} (options : Options) (batches : List Batch) (groups : List (Group P)) → AreGroupsOf options batches groups → not (is_empty groups) ≡ not (is_empty batches)
late-batches options [] groups none = ap (λ gs. not (is_empty gs)) none
late-batches {P} options (b ∷ bs) [] held = absurd (let files = held.files in cc)
late-batches options (b ∷ bs) (g ∷ gs) held = refl

-- there are few linker scripts in the groups of batches
pub few-scripts : {P : Type 0} (options : Options) (batches : List Batch) (groups : List (Group P)) → AreGroupsOf options batches groups → length (scripts_in groups) ≤ 256
few-scripts options [] groups none = omega (arith, ap (λ gs. length (scripts_in gs)) none)
few-scripts options (b ∷ bs) groups held =
    omega (arith, held.within.scripts, ap (λ (l : List ProcessedLinkerScript). length l) (scripts-of-batches options (b ∷ bs) groups held))

-- the cause of the linker scripts of a batch, as the call asks for it and as the batches before it say it
pub same-cause : {P : Type 0} (profile : ScriptProfile) (options : Options) (batches : List Batch) (groups lent all : List (Group P)) (none_held : Bool) (first : ℕ) (scripts given : List ProcessedLinkerScript) (taken : Bool)
    → AreGroupsOf options batches groups → lent ≡ groups → none_held ≡ (length lent == 0) → all ≡ groups → first ≡ length (scripts_in all) → scripts ≡ given
    → linker_script_cause profile (not none_held) taken first scripts ≡ linker_script_cause profile (not (is_empty batches)) taken (length (flat_map (λ (b : Batch). b.scripts) batches)) given
same-cause {P} profile options batches groups lent all none_held first scripts given taken held same none every count own =
    let late : not none_held ≡ not (is_empty batches) =
    ap not none ∙ ap (λ (gs : List (Group P)). not (length gs == 0)) same ∙ empty-counted groups ∙ late-batches options batches groups held in
    let at : first ≡ length (flat_map (λ (b : Batch). b.scripts) batches) =
    count ∙ ap (λ (gs : List (Group P)). length (scripts_in gs)) every ∙ ap (λ (l : List ProcessedLinkerScript). length l) (scripts-of-batches options batches groups held) in
    ap (λ (b : Bool). linker_script_cause profile b taken first scripts) late ∙ ap (λ (n : ℕ). linker_script_cause profile (not (is_empty batches)) taken n scripts) at
    ∙ ap (linker_script_cause profile (not (is_empty batches)) taken (length (flat_map (λ (b : Batch). b.scripts) batches))) own

-- a refusal that is handed on tells what it told
pub tells-through : (A : Type 0) (cause : Option LinkError) (e : LinkError) (r : Result A LinkError) → IsErr r → IsErrAnd r (λ x. x ≡ e) → TellsCause {A = A} cause (Err e) → TellsCause cause r
tells-through A cause e (Ok x) is same told = absurd (let wrong = is in cc)
tells-through A cause e (Err x) is same told = subst (λ (y : LinkError). TellsCause {A = A} cause (Err y)) (sym same) told

-- a refused call does not succeed
pub refused-not-ok : (A : Type 0) (P : Type 0) (r : Result A LinkError) → IsErr r → OnOk r P
refused-not-ok A P (Ok x) is = absurd (let wrong = is in cc)
refused-not-ok A P (Err x) is = tt

-- A table that is settled by what is noted at the heads of lists.
use Rattle.std.proofs.Common.{◌≡◌, ◌+◌, ◌∙◌, ◌&&◌, ℕ, Bool, true, false, List, [], ◌∷◌, Option, None, Some, cond, slice_index, unwrap_or, is_none, refl, ap, arith}
use Rattle.std.specs.Option.{option_map_or}
use Rattle.std.proofs.lemmas.Bool.{eq-eqb}
use Rattle.link_input.specs.Symbols.{Symbol}
use Rattle.link_rules.proofs.Twice.{slice_get-each_from}
use Rattle.link_rules.specs.Places.{are_several, each_from, first_of, is_number}
use Rattle.link_rules.specs.Rivals.{choice, clash, plain_entry, plain_table, reference_table, settled_entry, versioned_table}
use Rattle.link_rules.specs.Selection.{Selection}
use Rattle.link_check_targets.specs.Tables.{target_at}
use Rattle.link_check_targets.proofs.Columns.{each-alike}
use Rattle.link_check_rivals.specs.Lists.{entries_of, head_choice, list_choice, noted_entry, own_list, settled_table}
use Rattle.link_check_rivals.specs.declared.lists.Naming.{Naming}
use Rattle.link_check_rivals.specs.declared.lists.Naming.TheVariants.{Plain, Versioned}
use Rattle.link_check_rivals.proofs.Heads.{head-shares}

-- what is noted at the head of a list
choice-noted : (naming : Naming) (l : Selection) (table : List ℕ) (h : ℕ) (hs : List ℕ) (y : Symbol) → own_list naming l.stage.symbols y ≡ h ∷ hs
    → head_choice naming l table h y ≡ list_choice naming l table (h ∷ hs)
choice-noted naming l table h hs y own =
    ap (λ xs. cond (is_number (first_of xs) h) (list_choice naming l table xs) None) own
    ∙ ap (λ b. cond b (list_choice naming l table (h ∷ hs)) None) (eq-eqb h h refl)

-- a choice, or what was there
chosen : (b : Bool) (c old : ℕ) → unwrap_or (cond b (Some c) None) old ≡ cond b c old
chosen true c old = refl
chosen false c old = refl

-- what a symbol points to by the choices that are noted
pub noted-is : (naming : Naming) (l : Selection) (table : List ℕ) (choices : List (Option ℕ)) (x : Symbol) (old : ℕ)
    → choices ≡ each_from (head_choice naming l table) 0 l.stage.symbols
    → noted_entry naming l.stage.symbols choices x old
    ≡ settled_entry l (own_list naming l.stage.symbols x) (entries_of naming l table (own_list naming l.stage.symbols x)) old
noted-is naming l table choices x old told = by (own_list naming l.stage.symbols x) refl
  where
    by : (own : List ℕ) → own_list naming l.stage.symbols x ≡ own
        → option_map_or (λ head. unwrap_or (target_at choices head) old) (first_of own) old ≡ settled_entry l own (entries_of naming l table own) old
    by [] is = refl
    by (h ∷ hs) is =
        let (y, at, same) = head-shares naming l.stage.symbols x h hs is in
        let zero_add : 0 + h ≡ h = omega arith in
        ap (λ cs. unwrap_or (target_at cs h) old) told
        ∙ (ap (λ o. unwrap_or (option_map_or (λ (t : Option ℕ). t) o None) old) (slice_get-each_from (head_choice naming l table) 0 l.stage.symbols h y at)
        ∙ (ap (λ k. unwrap_or (head_choice naming l table k y) old) zero_add
        ∙ (ap (λ o. unwrap_or o old) (choice-noted naming l table h hs y (same ∙ is))
        ∙ chosen (are_several (h ∷ hs) && is_none (clash l (entries_of naming l table (h ∷ hs)))) (choice l (entries_of naming l table (h ∷ hs)) h) old)))

-- the entries of a list of a plain name are its symbols
pub plain-entries : (l : Selection) (table own : List ℕ) → entries_of Plain l table own ≡ own
plain-entries l table [] = refl
plain-entries l table (s ∷ ss) = ap (λ (xs : List ℕ). s ∷ xs) (plain-entries l table ss)

-- settled by plain names
pub plain-settled : (l : Selection) → settled_table Plain l (reference_table l) ≡ plain_table l
plain-settled l = each-alike
    (λ s x. settled_entry l (own_list Plain l.stage.symbols x) (entries_of Plain l (reference_table l) (own_list Plain l.stage.symbols x)) (slice_index (reference_table l) s))
    (plain_entry l (reference_table l)) 0 l.stage.symbols
    (λ k x at. ap (λ entries. settled_entry l (own_list Plain l.stage.symbols x) entries (slice_index (reference_table l) (0 + k))) (plain-entries l (reference_table l) (own_list Plain l.stage.symbols x)))

-- and then by names with versions
pub versioned-settled : (l : Selection) → settled_table Versioned l (plain_table l) ≡ versioned_table l
versioned-settled l = refl

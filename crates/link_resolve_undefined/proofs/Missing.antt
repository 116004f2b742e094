-- What is known of symbols in columns says which references stay undefined.
use Rattle.std.proofs.Common.{◌≡◌, ℕ, List, [], ◌∷◌, Bool, true, false, ◌&&◌, ◌||◌, not, Option, Some, None, option_and_then, refl, sym, ◌∙◌, subst, filter, slice_get, eqb, zero, suc, arith}
use Rattle.std.specs.List.{enumerate_from}
use Rattle.std.specs.Option.{option_map_or}
use Rattle.std.proofs.lemmas.Bool.Decides.{nat_tests}
use Rattle.link_closure.specs.Closure.{is_marked}
use Rattle.link_input.specs.declared.symbol_entry.SymbolEntry.{SymbolEntry}
use Rattle.link_input.specs.Entries.{is_local, is_undefined}
use Rattle.link_input.specs.Symbols.{Symbol, Origin, in_prelude, in_object, in_script, in_stub, object_in, entry_passes}
use Rattle.link_rules.specs.Places.{same_number}
use Rattle.link_rules.specs.Loading.{is_loaded, is_origin_loaded}
use Rattle.link_rules.specs.Selection.{Selection, target_of}
use Rattle.link_rules.specs.Undefined.{Numbered, is_target_missing, is_weak_symbol, left_undefined, stays_undefined}
use Rattle.link_rules.specs.World.{is_concealed, object_of, is_reference}
use Rattle.link_resolve_undefined.specs.Records.{TellsOf}
use Rattle.link_resolve_undefined.specs.Remaining.{held_by, is_missing_in, remaining_from, stays_in}
use Rattle.link_db_symbols.specs.Lookups.{target_at}

never : (b : Bool) → b && false ≡ false
never true = refl
never false = refl

always : (b : Bool) → b && true ≡ b || false
always true = refl
always false = refl

-- the mark of a symbol is that of its file
pub held-at : (marks : List Bool) (symbols : List Symbol) (t : ℕ) → is_marked (held_by marks symbols) t ≡ option_map_or (λ (x : Symbol). is_origin_loaded marks x.origin) (slice_get symbols t) false
held-at marks [] t = refl
held-at marks (x ∷ xs) zero = refl
held-at marks (x ∷ xs) (suc t) = held-at marks xs t

by-mark : (marks : List Bool) (n m : ℕ) (weak b c : Bool) → is_marked marks n ≡ true → is_marked marks m ≡ b → eqb n m ≡ c
    → weak && not b ≡ not b && (weak || c)
by-mark marks n m weak true c loaded is same = never weak
by-mark marks n m weak false false loaded is same = always weak
by-mark marks n m weak false true loaded is same =
    let e : n ≡ m = grind (arith, nat_tests) in absurd (cc)

by-object : (marks : List Bool) (n : ℕ) (weak : Bool) (o : Option ℕ) → is_marked marks n ≡ true
    → weak && not (option_map_or (is_marked marks) o true) ≡ not (option_map_or (is_marked marks) o true) && (weak || same_number (Some n) o)
by-object marks n weak None loaded = never weak
by-object marks n weak (Some m) loaded = by-mark marks n m weak (is_marked marks m) (eqb n m) loaded refl refl

by-symbol : (marks : List Bool) (n : ℕ) (weak : Bool) (y : Option Symbol) → is_marked marks n ≡ true
    → weak && not (option_map_or (λ (x : Symbol). is_origin_loaded marks x.origin) y false)
    ≡ not (option_map_or (λ (x : Symbol). is_origin_loaded marks x.origin) y false) && (weak || same_number (Some n) (option_and_then (λ (x : Symbol). object_in x.origin) y))
by-symbol marks n weak None loaded = always weak
by-symbol marks n weak (Some x) loaded = by-object marks n weak (object_in x.origin) loaded

by-target : (l : Selection) (u : Symbol) (n : ℕ) (t : Option ℕ) → object_in u.origin ≡ Some n → is_marked l.marks n ≡ true
    → is_missing_in (held_by l.marks l.stage.symbols) u t ≡ is_target_missing l u t
by-target l u n None at loaded = refl
by-target l u n (Some t) at loaded =
    (λ i. is_weak_symbol u && not (held-at l.marks l.stage.symbols t i))
    ∙ (by-symbol l.marks n (is_weak_symbol u) (slice_get l.stage.symbols t) loaded
    ∙ (λ i. not (is_loaded l.stage l.marks t) && (is_weak_symbol u || same_number (sym at i) (object_of l.stage t))))

-- only objects' symbols are references
object-of : (p : SymbolEntry → Bool) (c : Bool) (o : Origin) → entry_passes p o && c ≡ true → (n : ℕ) × (object_in o ≡ Some n)
object-of p c (in_prelude d) is = absurd (cc)
object-of p c (in_object n shared e) is = (n, refl)
object-of p c (in_script d) is = absurd (cc)
object-of p c (in_stub strength) is = absurd (cc)

by-parts : (l : Selection) (u : Numbered) (r o : Bool) → is_reference u.1 ≡ r → is_origin_loaded l.marks u.1.origin ≡ o
    → r && o && is_missing_in (held_by l.marks l.stage.symbols) u.1 (target_at l.targets u.0) ≡ r && o && is_target_missing l u.1 (target_of l u.0)
by-parts l u false o is loaded = refl
by-parts l u true false is loaded = refl
by-parts l u true true is loaded =
    let at = object-of (λ e. is_undefined e.place && not (is_local e.binding)) (not (is_concealed u.1.origin)) u.1.origin is in
    by-target l u.1 at.0 (target_of l u.0) at.1 (subst (λ (o : Option ℕ). option_map_or (is_marked l.marks) o true ≡ true) at.1 loaded)

-- the same references stay undefined
stays-same : (l : Selection) (u : Numbered) → stays_in l.marks (held_by l.marks l.stage.symbols) l.targets u ≡ stays_undefined l u
stays-same l u = by-parts l u (is_reference u.1) (is_origin_loaded l.marks u.1.origin) refl refl

-- the references that stay undefined are those that the columns tell
pub remaining-left : (symbols : List Symbol) (marks : List Bool) (targets : List (Option ℕ)) (l : Selection) → TellsOf symbols marks targets l
    → remaining_from marks (held_by marks symbols) targets 0 symbols ≡ left_undefined l
remaining-left symbols marks targets l tells =
    let same : remaining_from l.marks (held_by l.marks l.stage.symbols) l.targets 0 l.stage.symbols ≡ left_undefined l =
    (λ i. filter (λ u. stays-same l u i) (enumerate_from 0 l.stage.symbols)) in
    (λ i. remaining_from (sym tells.marks_are i) (held_by (sym tells.marks_are i) (sym tells.symbols_are i)) (sym tells.targets_are i) 0 (sym tells.symbols_are i)) ∙ same

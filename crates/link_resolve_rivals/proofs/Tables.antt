-- Settling plain names and then names with versions gives the tables of a link, and its lines of duplicates.
use Rattle.std.proofs.Common.{◌≡◌, ◌∙◌, ◌+◌, ◌&&◌, ℕ, suc, Bool, true, false, List, [], ◌∷◌, All, Contains, Option, Some, None, refl, sym, ap, arith, length, map, if◌then◌else◌, slice_get, slice_index, filter_map}
use Rattle.std.specs.Prelude.{cond, option_map, unwrap_or}
use Rattle.std.specs.List.{cons_option, enumerate_from, range_with_len}
use Rattle.std.specs.Option.{option_map_or}
use Rattle.std.proofs.lemmas.List.Elements.{All-contains_itself, All-head, All-tail, All-weaker}
use Rattle.link_input.specs.Symbols.{Origin, Symbol, in_object, in_prelude, in_script, in_stub}
use Rattle.link_input.specs.declared.internal_symbols.SymbolPlacement.{SymbolPlacement}
use Rattle.link_input.specs.declared.internal_symbols.SymbolPlacement.TheVariants.{Undefined, SectionStart, SectionEnd, TlsEnd, SectionGroupEnd, ForceUndefined, Redirect, LoadBaseAddress, PlatformSpecific}
use Rattle.link_rules.proofs.ByPlace.{AllFrom, all-places, each-each, each-same}
use Rattle.link_rules.proofs.Settled.{IsListedAt, both_true, listed_in, nothing_in, slice_index-each_from}
use Rattle.link_rules.specs.Loading.{is_forced_placement}
use Rattle.link_rules.specs.Names.{definitions_of, first_definition, is_defining, is_listed, is_named}
use Rattle.link_rules.specs.Places.{Bytes, are_several, each_from, first_of, is_number}
use Rattle.link_rules.specs.Refusals.{duplicate_line, line_at_head, plain_duplicates, versioned_duplicates}
use Rattle.link_rules.specs.Rivals.{clash, is_forced, plain_entry, plain_list, plain_table, reference_entry, reference_table, settled_entry, stand_in, versioned_list, versioned_table}
use Rattle.link_rules.specs.Selection.{Selection, is_dynamic, target_of}
use Rattle.link_rules.specs.World.{is_definition}
use Rattle.link_resolve_rivals.specs.Lists.{plain_lists, versioned_lists}
use Rattle.link_resolve_rivals.specs.Settled.{clash_at, clash_line, clash_of, clashes, settled_at, settled_table}

-- a symbol that is listed is not a forced name
not-forced : (name : Bytes) (origin : Origin) → is_named name origin ≡ true → is_forced origin ≡ false
not-forced name (in_prelude d) named = by d.placement named
  where
    by : (p : SymbolPlacement) → is_defining p ≡ true → is_forced_placement p ≡ false
    by Undefined is = refl
    by (SectionStart n) is = refl
    by (SectionEnd n) is = refl
    by (TlsEnd n) is = refl
    by (SectionGroupEnd n) is = refl
    by ForceUndefined is = cc
    by (Redirect r) is = refl
    by LoadBaseAddress is = refl
    by PlatformSpecific is = refl
not-forced name (in_object n shared e) named = refl
not-forced name (in_script d) named = refl
not-forced name (in_stub strength) named = refl

-- a definition that is not a forced name points to itself at first
pub own-reference : (l : Selection) (s : ℕ) (x : Symbol) → slice_get l.stage.symbols s ≡ Some x → is_definition x ≡ true → is_forced x.origin ≡ false
    → slice_index (reference_table l) s ≡ s
own-reference l s x at defines unforced =
    let zero_add : 0 + s ≡ s = omega arith in
    slice_index-each_from (reference_entry l) 0 l.stage.symbols s x at
    ∙ ap (λ n. reference_entry l n x) zero_add
    ∙ ap (λ b. cond b (unwrap_or (first_definition l.stage x.name) s) (cond (is_definition x) s (unwrap_or (target_of l s) 0))) unforced
    ∙ ap (λ b. cond b s (unwrap_or (target_of l s) 0)) defines

-- so does a listed symbol
listed-reference : (l : Selection) (s : ℕ) (x : Symbol) → IsListedAt l.stage s x → slice_index (reference_table l) s ≡ s
listed-reference l s x listed =
    let both = both_true (is_definition x) (is_named x.name x.origin) listed.listed in
    own-reference l s x listed.at both.0 (not-forced x.name x.origin both.1)

-- symbols that point to themselves stand for themselves
pub stand-themselves : (l : Selection) (table xs : List ℕ) → All (λ e. slice_index table e ≡ e) xs → map (stand_in l table) xs ≡ xs
stand-themselves l table [] all = refl
stand-themselves l table (x ∷ xs) all =
    ap (λ t. (if is_dynamic l t then x else t) ∷ map (stand_in l table) xs) (All-head (λ e. slice_index table e ≡ e) x xs all)
    ∙ ap (λ t. t ∷ map (stand_in l table) xs) (either (is_dynamic l x))
    ∙ ap (λ ys. x ∷ ys) (stand-themselves l table xs (All-tail (λ e. slice_index table e ≡ e) x xs all))
  where
    either : (b : Bool) → (if b then x else x) ≡ x
    either true = refl
    either false = refl

-- the definitions of a plain name stand for themselves
pub plain-themselves : (l : Selection) (x : Symbol) → map (stand_in l (reference_table l)) (plain_list l.stage x) ≡ plain_list l.stage x
plain-themselves l x = stand-themselves l (reference_table l) (plain_list l.stage x)
    (All-weaker (Contains (plain_list l.stage x)) (λ e. slice_index (reference_table l) e ≡ e) (λ e. itself e (is_listed x)) (plain_list l.stage x)
    (All-contains_itself (plain_list l.stage x)))
  where
    itself : (e : ℕ) (b : Bool) → Contains (if b then definitions_of l.stage.symbols x.name else []) e → slice_index (reference_table l) e ≡ e
    itself e false within = absurd (nothing_in e within)
    itself e true within = let it = listed_in l.stage x.name e within in listed-reference l e it.0 it.1

-- the list of the symbol of an id, by what gives each symbol its list
abbrev lists_by : Selection → (Symbol → List ℕ) → ℕ → List ℕ
lists_by l own s = option_map_or own (slice_get l.stage.symbols s) []

-- the table, by what gives each symbol its entry
abbrev table_by : Selection → (ℕ → Symbol → ℕ) → List ℕ
table_by l first = each_from first 0 l.stage.symbols

-- lists of symbols that are settled over a table of symbols
settled-symbols : (l : Selection) (own : Symbol → List ℕ) (first : ℕ → Symbol → ℕ)
    → settled_table l (λ s. option_map_or own (slice_get l.stage.symbols s) []) (each_from first 0 l.stage.symbols)
    ≡ each_from (λ s x. settled_entry l (own x) (map (stand_in l (each_from first 0 l.stage.symbols)) (own x)) (slice_index (each_from first 0 l.stage.symbols) s)) 0 l.stage.symbols
settled-symbols l own first =
    each-each (settled_at l (lists_by l own) (table_by l first)) first 0 l.stage.symbols
    ∙ each-same (λ s x. settled_at l (lists_by l own) (table_by l first) s (first s x)) (λ s x. settled_entry l (own x) (map (stand_in l (table_by l first)) (own x)) (slice_index (table_by l first) s)) 0 l.stage.symbols
    (all-places (λ s x. settled_at l (lists_by l own) (table_by l first) s (first s x) ≡ settled_entry l (own x) (map (stand_in l (table_by l first)) (own x)) (slice_index (table_by l first) s)) l.stage.symbols each)
  where
    each : (s : ℕ) (x : Symbol) → slice_get l.stage.symbols s ≡ Some x
        → settled_at l (lists_by l own) (table_by l first) s (first s x) ≡ settled_entry l (own x) (map (stand_in l (table_by l first)) (own x)) (slice_index (table_by l first) s)
    each s x at =
        let zero_add : 0 + s ≡ s = omega arith in
        ap (λ o. settled_entry l (option_map_or own o []) (map (stand_in l (table_by l first)) (option_map_or own o [])) (first s x)) at
        ∙ ap (settled_entry l (own x) (map (stand_in l (table_by l first)) (own x))) (sym (slice_index-each_from first 0 l.stage.symbols s x at ∙ ap (λ n. first n x) zero_add))

-- settling plain names gives the plain table
pub plain-settled : (l : Selection) → settled_table l (plain_lists l.stage) (reference_table l) ≡ plain_table l
plain-settled l =
    settled-symbols l (plain_list l.stage) (reference_entry l)
    ∙ each-same (λ s x. settled_entry l (plain_list l.stage x) (map (stand_in l (reference_table l)) (plain_list l.stage x)) (slice_index (reference_table l) s))
    (plain_entry l (reference_table l)) 0 l.stage.symbols
    (all-places (λ s x. settled_entry l (plain_list l.stage x) (map (stand_in l (reference_table l)) (plain_list l.stage x)) (slice_index (reference_table l) s) ≡ plain_entry l (reference_table l) s x) l.stage.symbols
    (λ s x at. ap (λ entries. settled_entry l (plain_list l.stage x) entries (slice_index (reference_table l) s)) (plain-themselves l x)))

-- settling names with versions after it gives the table of versions
pub versioned-settled : (l : Selection) → settled_table l (versioned_lists l.stage) (plain_table l) ≡ versioned_table l
versioned-settled l = settled-symbols l (versioned_list l.stage) (plain_entry l (reference_table l))

-- a table has as many entries as what it is made of
pub each-length : {X : Type 0} (f : ℕ → X → ℕ) (n : ℕ) (xs : List X) → length (each_from f n xs) ≡ length xs
each-length f n [] = refl
each-length f n (x ∷ xs) = ap suc (each-length f (n + 1) xs)

-- what is made of numbers in a row, and of the symbols that they number
lines-numbered : {A B : Type 0} (f : ℕ → Option A) (h : A → B) (g : ℕ × Symbol → Option B) (n : ℕ) (xs : List Symbol)
    → AllFrom (λ s x. option_map h (f s) ≡ g (s, x)) n xs → map h (filter_map f (range_with_len n (length xs))) ≡ filter_map g (enumerate_from n xs)
lines-numbered f h g n [] all = refl
lines-numbered {A} {B} f h g n (x ∷ xs) all =
    by (f n) (filter_map f (range_with_len (n + 1) (length xs)))
    ∙ ap (λ o. cons_option o (map h (filter_map f (range_with_len (n + 1) (length xs))))) all.0
    ∙ ap (cons_option (g (n, x))) (lines-numbered f h g (n + 1) xs all.1)
  where
    by : (o : Option A) (ys : List A) → map h (cons_option o ys) ≡ cons_option (option_map h o) (map h ys)
    by None ys = refl
    by (Some a) ys = refl

-- the line of a list's clash is that of the list
line-of : (l : Selection) (own table : List ℕ) (s : ℕ) (x : Symbol) → slice_get l.stage.symbols s ≡ Some x
    → option_map (clash_line l.stage) (clash_at l own table s) ≡ line_at_head l s x.name own (map (stand_in l table) own)
line-of l own table s x at = by (is_number (first_of own) s && are_several own) (clash l (map (stand_in l table) own))
  where
    by : (b : Bool) (o : Option (ℕ × ℕ))
        → option_map (clash_line l.stage) (if b then option_map (clash_of s) o else None) ≡ (if b then option_map (duplicate_line l.stage x.name) o else None)
    by false o = refl
    by true None = refl
    by true (Some pair) = ap (λ o. Some (duplicate_line l.stage (option_map_or (λ (y : Symbol). y.name) o []) pair)) at

-- the lines of the clashes of lists of symbols
lines-of : (l : Selection) (own : Symbol → List ℕ) (first : ℕ → Symbol → ℕ)
    → map (clash_line l.stage) (clashes l (λ s. option_map_or own (slice_get l.stage.symbols s) []) (each_from first 0 l.stage.symbols))
    ≡ filter_map (λ s. line_at_head l s.0 s.1.name (own s.1) (map (stand_in l (each_from first 0 l.stage.symbols)) (own s.1))) (enumerate_from 0 l.stage.symbols)
lines-of l own first =
    ap (λ n. map (clash_line l.stage) (filter_map (λ s. clash_at l (lists_by l own s) (table_by l first) s) (range_with_len 0 n))) (each-length first 0 l.stage.symbols)
    ∙ lines-numbered (λ s. clash_at l (lists_by l own s) (table_by l first) s) (clash_line l.stage) (λ s. line_at_head l s.0 s.1.name (own s.1) (map (stand_in l (table_by l first)) (own s.1))) 0 l.stage.symbols
    (all-places (λ s x. option_map (clash_line l.stage) (clash_at l (lists_by l own s) (table_by l first) s) ≡ line_at_head l s x.name (own x) (map (stand_in l (table_by l first)) (own x))) l.stage.symbols
    (λ s x at. ap (λ o. option_map (clash_line l.stage) (clash_at l (option_map_or own o []) (table_by l first) s)) at ∙ line-of l (own x) (table_by l first) s x at))

-- functions that agree give the same
lines-same : {X Y : Type 0} (f g : X → Option Y) → ((x : X) → f x ≡ g x) → (xs : List X) → filter_map f xs ≡ filter_map g xs
lines-same f g agree [] = refl
lines-same f g agree (x ∷ xs) = ap (λ o. cons_option o (filter_map f xs)) (agree x) ∙ ap (cons_option (g x)) (lines-same f g agree xs)

-- the clashes of plain names are the lines of plain names
pub plain-lines : (l : Selection) → map (clash_line l.stage) (clashes l (plain_lists l.stage) (reference_table l)) ≡ plain_duplicates l
plain-lines l =
    lines-of l (plain_list l.stage) (reference_entry l)
    ∙ lines-same (λ s. line_at_head l s.0 s.1.name (plain_list l.stage s.1) (map (stand_in l (reference_table l)) (plain_list l.stage s.1)))
    (λ s. line_at_head l s.0 s.1.name (plain_list l.stage s.1) (plain_list l.stage s.1))
    (λ s. ap (line_at_head l s.0 s.1.name (plain_list l.stage s.1)) (plain-themselves l s.1)) (enumerate_from 0 l.stage.symbols)

-- those of names with versions are theirs
pub versioned-lines : (l : Selection) → map (clash_line l.stage) (clashes l (versioned_lists l.stage) (plain_table l)) ≡ versioned_duplicates l (plain_table l)
versioned-lines l = lines-of l (versioned_list l.stage) (plain_entry l (reference_table l))

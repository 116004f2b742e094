-- In a made-up link no object lists a section twice, and no two definitions of a name are left that clash, whatever is loaded.
use Rattle.std.proofs.Common.{◌≡◌, ℕ, ◌+◌, ◌≤◌, List, [], ◌∷◌, Bool, true, false, map, cond, refl, sym, ◌∙◌, ap, subst, inl, inr, arith, Some, None, Contains, slice_get, filter, option_map}
use Rattle.std.specs.Prelude.{◌&&◌, ◌==◌, not, is_some}
use Rattle.std.specs.List.{enumerate_from, range_with_len}
use Rattle.std.specs.Option.{option_map_or}
use Rattle.std.proofs.lemmas.List.FromFn.{length-map-range_with_len, get_or-map-range_with_len}
use Rattle.std.proofs.lemmas.Option.{slice_get-map, slice_get_read}
use Rattle.link_closure.specs.Closure.{is_marked}
use Rattle.link_flags.specs.declared.strength.SymbolStrength.TheVariants.{Undefined}
use Rattle.link_flags.specs.Pick.{is_strong}
use Rattle.link_input.specs.declared.options.Options.{Options}
use Rattle.link_input.specs.Defaults.{default_options}
use Rattle.link_input.specs.ObjectFile.{ObjectFile}
use Rattle.link_input.specs.PreludeSymbols.{undefined_symbol}
use Rattle.link_input.specs.Symbols.{Symbol, in_prelude, symbol_of, object_symbol}
use Rattle.link_rules.specs.Places.{Bytes, first_of, first_two, is_number, are_several}
use Rattle.link_rules.specs.World.{Stage, is_definition}
use Rattle.link_rules.specs.Names.{is_listed, is_version_named, definitions_of, versioned_definitions_of}
use Rattle.link_rules.specs.Comdat.{loaded_regular, discarded_groups}
use Rattle.link_rules.specs.Selection.{Selection, selection_of, surviving_strength, surviving_origin, is_dynamic}
use Rattle.link_rules.specs.Rivals.{clash, static_entries, plain_list, versioned_list, stand_in}
use Rattle.link_rules.specs.Refusals.{group_cause, group_refusal, line_at_head, duplicate_line, plain_duplicates, versioned_duplicates}
use Rattle.link_rules.proofs.Settled.{here, there, here_or_there, nothing_in, filtered, listed_in}
use Rattle.link_rules.proofs.Members.{map_from}
use Rattle.link_manifest_bulk.specs.Bulk.{bulk_object, bulk_objects}
use Rattle.link_manifest_bulk.proofs.Single.{IsAtMostOne, one-place, first_two-none, passed, none_given}
use Rattle.link_manifest_bulk.proofs.Definitions.{object_by, entry-unversioned}
use Rattle.link_manifest_bulk.proofs.Remaining.{IsLeft, HasObjects, symbols_from, object_from, left-once}

-- ---- a stage of these objects

-- the undefined symbol
abbrev pub undefined : Symbol
undefined = symbol_of undefined_symbol.name (in_prelude undefined_symbol)

-- a stage that has the objects of a made-up link and their symbols, and the options of a link of which the user says nothing
pub record IsBulk (members : ℕ) (w : Stage) : Type 0 where
  pub options : w.options ≡ default_options
  pub objects : w.objects ≡ bulk_objects members
  pub symbols : w.symbols ≡ undefined ∷ symbols_from members 0 (members + 1)

-- each object has its place
bulk-at : (members : ℕ) (w : Stage) → IsBulk members w → HasObjects members w
bulk-at members w it = record { at = λ i within. ap (λ (os : List ObjectFile). slice_get os i) it.objects ∙ at i within }
  where
    at : (i : ℕ) → i ≤ members → slice_get (bulk_objects members) i ≡ Some (bulk_object members i)
    at i within =
        let zero_add : 0 + i ≡ i = omega arith in
        slice_get_read (bulk_objects members) (members + 1) i (bulk_object members i) (sym (length-map-range_with_len (bulk_object members) 0 (members + 1))) (omega arith)
        (sym (get_or-map-range_with_len (bulk_object members) 0 (members + 1) i i (bulk_object members i) (omega arith) zero_add))

-- each object is one of these
bulk-object : (members : ℕ) (w : Stage) (o : ObjectFile) → IsBulk members w → Contains w.objects o → (i : ℕ) × (bulk_object members i ≡ o)
bulk-object members w o it within =
    let from = map_from (bulk_object members) (range_with_len 0 (members + 1)) o (subst (λ (os : List ObjectFile). Contains os o) it.objects within) in
    (from.0, from.2)

module _ {X : Type 0} where
  -- what is numbered is in the list
  numbered_from : (n : ℕ) (xs : List X) (q : ℕ × X) → Contains (enumerate_from n xs) q → Contains xs q.1
  numbered_from n [] q within = absurd (nothing_in q within)
  numbered_from n (x ∷ xs) q within = elim (here_or_there (n, x) (enumerate_from (n + 1) xs) q within) [
    | inl is ↦ subst (λ (r : ℕ × X). Contains (x ∷ xs) r.1) is (here x xs)
    | inr deeper ↦ there x xs q.1 (numbered_from (n + 1) xs q deeper)
  ]

-- ---- groups

-- no object lists a section twice
group-once : (members i k : ℕ) → group_cause (k, bulk_object members i) ≡ None
group-once members i k = by_first (i == 0)
  where
    by_first : (b : Bool) → group_cause (k, object_by b members i) ≡ None
    by_first true = refl
    by_first false = refl

-- so no loaded object does
pub no-groups : (members : ℕ) (w : Stage) (marks : List Bool) → IsBulk members w → group_refusal (selection_of w marks) ≡ None
no-groups members w marks it = ap first_of (none_given group_cause (loaded_regular w marks) (λ q within.
    let from = bulk-object members w q.1 it (numbered_from 0 w.objects q (filtered (λ (o : ℕ × ObjectFile). is_marked marks o.0 && not o.1.object.is_dynamic) (enumerate_from 0 w.objects) q within)) in
    subst (λ (o : ObjectFile). group_cause (q.0, o) ≡ None) from.1 (group-once members from.0 q.0)))

-- ---- duplicates

-- of all symbols at most one is left
all-left-once : (members : ℕ) (w : Stage) (marks : List Bool) (name : Bytes) → members ≤ 100000 → IsBulk members w
    → IsAtMostOne (IsLeft name marks (discarded_groups w marks)) w.symbols
all-left-once members w marks name few it =
    subst (IsAtMostOne (IsLeft name marks (discarded_groups w marks))) (sym it.symbols)
    (λ left. absurd (never left.listed), left-once w marks members name few (bulk-at members w it) 0 (members + 1) (omega arith))
  where
    never : is_listed undefined ≡ true → ⊥
    never is = cc

-- a strong entry that no shared file gives, among the definitions of a name, is left
entry-left : (w : Stage) (marks : List Bool) (name : Bytes) (s : ℕ)
    → Contains (filter (λ s. is_strong (surviving_strength (selection_of w marks) s)) (static_entries (selection_of w marks) (definitions_of w.symbols name))) s
    → (x : Symbol) × (slice_get w.symbols s ≡ Some x) × IsLeft name marks (discarded_groups w marks) x
entry-left w marks name s within =
    let l : Selection = selection_of w marks in
    let strong = passed (λ t. is_strong (surviving_strength l t)) (static_entries l (definitions_of w.symbols name)) s within in
    let static = filtered (λ t. is_strong (surviving_strength l t)) (static_entries l (definitions_of w.symbols name)) s within in
    let it = listed_in w name s (filtered (λ t. not (is_dynamic l t)) (definitions_of w.symbols name) s static) in
    let survives = slice_get-map (λ (x : Symbol). surviving_origin marks (discarded_groups w marks) x.origin) w.symbols s
    ∙ ap (option_map (λ (x : Symbol). surviving_origin marks (discarded_groups w marks) x.origin)) it.1.at in (
      it.0,
      it.1.at,
      record {
        listed = it.1.listed;
        named = it.2;
        strong = sym (ap (λ o. is_strong (option_map_or (λ x. x) o Undefined)) survives) ∙ strong;
      },
    )

-- no two definitions of a name clash
no-clash : (members : ℕ) (w : Stage) (marks : List Bool) (name : Bytes) → members ≤ 100000 → IsBulk members w
    → clash (selection_of w marks) (definitions_of w.symbols name) ≡ None
no-clash members w marks name few it =
    ap (λ (o : Options). cond o.allow_multiple None
    (first_two (filter (λ s. is_strong (surviving_strength (selection_of w marks) s)) (static_entries (selection_of w marks) (definitions_of w.symbols name))))) it.options
    ∙ first_two-none _ (λ m n first second.
    let a = entry-left w marks name m first in
    let b = entry-left w marks name n second in
    one-place (IsLeft name marks (discarded_groups w marks)) w.symbols m n a.0 b.0 (all-left-once members w marks name few it) a.1 b.1 a.2 b.2)

-- nor do those of no name
no-clash-of-none : (members : ℕ) (w : Stage) (marks : List Bool) → IsBulk members w → clash (selection_of w marks) [] ≡ None
no-clash-of-none members w marks it = ap (λ (o : Options). cond o.allow_multiple None (first_two [])) it.options

-- without a clash there is no line
no-line : (l : Selection) (s : ℕ) (name : Bytes) (own entries : List ℕ) → clash l entries ≡ None → line_at_head l s name own entries ≡ None
no-line l s name own entries none = rw none (by_test (is_number (first_of own) s && are_several own))
  where
    by_test : (b : Bool) → cond b (option_map (duplicate_line l.stage name) None) None ≡ None
    by_test true = refl
    by_test false = refl

-- there is no line of a plain name
pub no-plain : (members : ℕ) (w : Stage) (marks : List Bool) → members ≤ 100000 → IsBulk members w → plain_duplicates (selection_of w marks) ≡ []
no-plain members w marks few it =
    none_given (λ (s : ℕ × Symbol). line_at_head (selection_of w marks) s.0 s.1.name (plain_list w s.1) (plain_list w s.1)) (enumerate_from 0 w.symbols)
    (λ q within. no-line (selection_of w marks) q.0 q.1.name (plain_list w q.1) (plain_list w q.1) (by_listed q.1.name (is_listed q.1)))
  where
    by_listed : (name : Bytes) (b : Bool) → clash (selection_of w marks) (cond b (definitions_of w.symbols name) []) ≡ None
    by_listed name true = no-clash members w marks name few it
    by_listed name false = no-clash-of-none members w marks it

-- ---- versions

-- no symbol has a version
unversioned : (members : ℕ) (w : Stage) (x : Symbol) → IsBulk members w → Contains w.symbols x → x.version ≡ None
unversioned members w x it within = elim (here_or_there undefined (symbols_from members 0 (members + 1)) x (subst (λ (xs : List Symbol). Contains xs x) it.symbols within)) [
  | inl is ↦ ap (λ (y : Symbol). y.version) (sym is)
  | inr later ↦
      let found = object_from members 0 (members + 1) x later in
      let from = map_from (object_symbol found.0 (bulk_object members found.0)) (bulk_object members found.0).object.symbols x found.3 in
      ap (λ (y : Symbol). y.version) (sym from.2) ∙ entry-unversioned members found.0 from.0 from.1
]

-- so there is no line of a name with a version
pub no-versioned : (members : ℕ) (w : Stage) (marks : List Bool) (table : List ℕ) → IsBulk members w → versioned_duplicates (selection_of w marks) table ≡ []
no-versioned members w marks table it =
    none_given (λ (s : ℕ × Symbol). line_at_head (selection_of w marks) s.0 s.1.name (versioned_list w s.1) (map (stand_in (selection_of w marks) table) (versioned_list w s.1)))
    (enumerate_from 0 w.symbols) (λ q within. by_list q.0 q.1.name (versioned_list w q.1) (none q.1 (unversioned members w q.1 it (numbered_from 0 w.symbols q within))))
  where
    none : (x : Symbol) → x.version ≡ None → versioned_list w x ≡ []
    none x is = ap (λ v. cond ((is_definition x && is_version_named x.origin) && is_some v) (option_map_or (versioned_definitions_of w.symbols x.name) v []) []) is
        ∙ by_test ((is_definition x && is_version_named x.origin) && false)
      where
        by_test : (b : Bool) → ◌≡◌ {A = List ℕ} (cond b [] []) []
        by_test true = refl
        by_test false = refl

    by_list : (s : ℕ) (name : Bytes) (own : List ℕ) → own ≡ [] → line_at_head (selection_of w marks) s name own (map (stand_in (selection_of w marks) table) own) ≡ None
    by_list s name own is = ap (λ (xs : List ℕ). line_at_head (selection_of w marks) s name xs (map (stand_in (selection_of w marks) table) xs)) is

-- The lists that the definitions of symbols make.
use Rattle.std.proofs.Common.{◌≡◌, ◌∙◌, ◌+◌, ◌<◌, ◌&&◌, ◌++◌, ℕ, suc, Bool, true, false, List, [], ◌∷◌, length, Option, Some, None, refl, sym, ap, subst, arith}
use Rattle.std.specs.Prelude.{All, slice_get}
use Rattle.std.specs.Option.{is_some, option_map}
use Rattle.std.specs.Str.{bytes_eq}
use Rattle.std.proofs.lemmas.List.Elements.{All-append, All-cons, All-nil}
use Rattle.link_db_buckets.specs.declared.definition.Definition.{Definition}
use Rattle.link_db_buckets.specs.declared.label.Label.{Label}
use Rattle.link_db_buckets.specs.declared.label.Label.TheVariants.{Plain, Versioned}
use Rattle.link_db_buckets.specs.Buckets.{AreHashed, ids_with}
use Rattle.link_db_buckets.proofs.Running.{ids_with-append}
use Rattle.link_db_buckets.specs.Keys.{Key, hash_of, leads_to, number_of, same_key}
use Rattle.link_input.specs.Symbols.{Symbol}
use Rattle.link_db_ingest.specs.Definitions.{definition_by, definitions_by, definitions_from}
use Rattle.link_rules.specs.Names.{is_listed, is_version_listed, is_version_named}
use Rattle.link_rules.specs.World.{is_definition}
use Rattle.link_rules.specs.Places.{kept_if, places_from, same_version}
use Rattle.link_db_mapping.specs.Keys.{plain_key, versioned_key}

-- a name with or without a version
abbrev pub key_with : List ℕ → Option (List ℕ) → Key
key_with name version = record { name = name; version = version }

-- the labels of symbols, of which the first has this id, lead to their names
pub record LeadFrom (names : Label → Option Key) (n : ℕ) (symbols : List Symbol) : Type 0 where
  pub plain : (i : ℕ) (x : Symbol) → slice_get symbols i ≡ Some x → names (Plain (n + i)) ≡ Some (plain_key x.name)
  pub versioned : (i : ℕ) (x : Symbol) (version : List ℕ) → slice_get symbols i ≡ Some x → x.version ≡ Some version → names (Versioned (n + i)) ≡ Some (versioned_key x.name version)

-- so do the labels of those behind the first
lead_next : (names : Label → Option Key) (n : ℕ) (x : Symbol) (symbols : List Symbol) → LeadFrom names n (x ∷ symbols) → LeadFrom names (n + 1) symbols
lead_next names n x symbols lead = record {
  plain = λ i y is. let e : n + suc i ≡ n + 1 + i = omega arith in subst (λ (k : ℕ). names (Plain k) ≡ Some (plain_key y.name)) e (lead.plain (suc i) y is);
  versioned = λ i y version is some. let e : n + suc i ≡ n + 1 + i = omega arith in subst (λ (k : ℕ). names (Versioned k) ≡ Some (versioned_key y.name version)) e (lead.versioned (suc i) y version is some);
}

-- the labels of the first
lead_first : (names : Label → Option Key) (n : ℕ) (x : Symbol) (symbols : List Symbol) → LeadFrom names n (x ∷ symbols) → names (Plain n) ≡ Some (plain_key x.name)
lead_first names n x symbols lead = let e : n + 0 ≡ n = omega arith in subst (λ (k : ℕ). names (Plain k) ≡ Some (plain_key x.name)) e (lead.plain 0 x refl)

-- and the label of its version
lead_first_versioned : (names : Label → Option Key) (n : ℕ) (x : Symbol) (symbols : List Symbol) (version : List ℕ) → LeadFrom names n (x ∷ symbols) → x.version ≡ Some version → names (Versioned n) ≡ Some (versioned_key x.name version)
lead_first_versioned names n x symbols version lead some = let e : n + 0 ≡ n = omega arith in subst (λ (k : ℕ). names (Versioned k) ≡ Some (versioned_key x.name version)) e (lead.versioned 0 x version refl some)

-- what is kept in front
kept_first : {X : Type 0} (b : Bool) (x : X) (xs : List X) → kept_if b x [] ++ xs ≡ kept_if b x xs
kept_first true x xs = refl
kept_first false x xs = refl

-- both tests, of which the second passes or fails
pub and_true : (b : Bool) → (b && true) ≡ b
and_true true = refl
and_true false = refl

pub and_false : (b : Bool) → (b && false) ≡ false
and_false true = refl
and_false false = refl

-- where a label leads by its own key
pub leads_by : (names : Label → Option Key) (label : Label) (own asked : Key) → names label ≡ Some own → leads_to names label asked ≡ same_key own asked
leads_by names label own asked is = rw is refl

-- the ids of two definitions, each of which may be there
ids_of_two : (names : Label → Option Key) (key : Key) (a b : Bool) (d e : Definition) → ids_with names (kept_if a d (kept_if b e [])) key ≡ kept_if (a && leads_to names d.label key) d.id (kept_if (b && leads_to names e.label key) e.id [])
ids_of_two names key a b d e = first a b (leads_to names d.label key) refl
  where
    second : (b q : Bool) → leads_to names e.label key ≡ q → ids_with names (kept_if b e []) key ≡ kept_if (b && q) e.id []
    second true true is = rw is refl
    second true false is = rw is refl
    second false q is = refl

    first : (a b p : Bool) → leads_to names d.label key ≡ p → ids_with names (kept_if a d (kept_if b e [])) key ≡ kept_if (a && p) d.id (kept_if (b && leads_to names e.label key) e.id [])
    first true b true is = rw is (ap (λ (l : List ℕ). d.id ∷ l) (second b (leads_to names e.label key) refl))
    first true b false is = rw is (second b (leads_to names e.label key) refl)
    first false b p is = second b (leads_to names e.label key) refl

-- the second of two tests that hold
and_second : (a b : Bool) → (a && b) ≡ true → b ≡ true
and_second true b e = e
and_second false b e = absurd cc

-- what is listed by its version has one
version_there : (x : Symbol) → is_version_listed x ≡ true → (version : List ℕ) × (x.version ≡ Some version)
version_there x listed = by x.version refl (and_second (is_definition x && is_version_named x.origin) (is_some x.version) listed)
  where
    by : (o : Option (List ℕ)) → x.version ≡ o → is_some o ≡ true → (version : List ℕ) × (x.version ≡ Some version)
    by None is e = absurd cc
    by (Some version) is e = (version, is)

-- the label of a version leads to no plain key
no_plain : (names : Label → Option Key) (n : ℕ) (x : Symbol) (name : List ℕ) → ((version : List ℕ) → x.version ≡ Some version → names (Versioned n) ≡ Some (versioned_key x.name version)) → (is_version_listed x && leads_to names (Versioned n) (plain_key name)) ≡ false
no_plain names n x name lead = by (is_version_listed x) refl
  where
    by : (b : Bool) → is_version_listed x ≡ b → (b && leads_to names (Versioned n) (plain_key name)) ≡ false
    by true e =
        let there = version_there x e in
        leads_by names (Versioned n) (versioned_key x.name there.0) (plain_key name) (lead there.0 there.1) ∙ and_false (bytes_eq x.name name)
    by false e = refl

-- it leads to the key of its version
own_version : (names : Label → Option Key) (n : ℕ) (x : Symbol) (name version : List ℕ) → ((own : List ℕ) → x.version ≡ Some own → names (Versioned n) ≡ Some (versioned_key x.name own))
    → (is_version_listed x && leads_to names (Versioned n) (versioned_key name version)) ≡ (is_version_listed x && bytes_eq x.name name && same_version x.version (Some version))
own_version names n x name version lead = by (is_version_listed x) refl
  where
    by : (b : Bool) → is_version_listed x ≡ b → (b && leads_to names (Versioned n) (versioned_key name version)) ≡ (b && bytes_eq x.name name && same_version x.version (Some version))
    by true e =
        let there = version_there x e in
        leads_by names (Versioned n) (versioned_key x.name there.0) (versioned_key name version) (lead there.0 there.1)
        ∙ ap (λ (o : Option (List ℕ)). bytes_eq x.name name && same_version o (Some version)) (sym there.1)
    by false e = refl

-- two ids, of which the second is not kept, and others
first_alone : (a : Bool) (n : ℕ) (rest : List ℕ) → kept_if a n (kept_if false n []) ++ rest ≡ kept_if a n rest
first_alone true n rest = refl
first_alone false n rest = refl

-- two ids, of which the first is not kept, and others
second_alone : (a : Bool) (n : ℕ) (rest : List ℕ) → kept_if false n (kept_if a n []) ++ rest ≡ kept_if a n rest
second_alone true n rest = refl
second_alone false n rest = refl

-- the list of a plain name
pub plain_list : (names : Label → Option Key) (n : ℕ) (symbols : List Symbol) → LeadFrom names n symbols → (name : List ℕ) → ids_with names (definitions_from n symbols) (plain_key name) ≡ places_from (λ x. is_listed x && bytes_eq x.name name) n symbols
plain_list names n [] lead name = refl
plain_list names n (x ∷ symbols) lead name =
    let key = plain_key name in
    let rest = places_from (λ y. is_listed y && bytes_eq y.name name) (n + 1) symbols in
    let plain : leads_to names (Plain n) key ≡ bytes_eq x.name name = leads_by names (Plain n) (plain_key x.name) key (lead_first names n x symbols lead) ∙ and_true (bytes_eq x.name name) in
    let no = no_plain names n x name (λ version some. lead_first_versioned names n x symbols version lead some) in
    let here : ids_with names (definitions_by n x) key ≡ kept_if (is_listed x && bytes_eq x.name name) n (kept_if false n []) =
    ids_of_two names key (is_listed x) (is_version_listed x) (definition_by (Plain n) None n x) (definition_by (Versioned n) x.version n x)
    ∙ ap (λ (b : Bool). kept_if (is_listed x && b) n (kept_if (is_version_listed x && leads_to names (Versioned n) key) n [])) plain
    ∙ ap (λ (b : Bool). kept_if (is_listed x && bytes_eq x.name name) n (kept_if b n [])) no in
    ids_with-append names (definitions_by n x) (definitions_from (n + 1) symbols) key
    ∙ ap (λ (l : List ℕ). ids_with names (definitions_by n x) key ++ l) (plain_list names (n + 1) symbols (lead_next names n x symbols lead) name)
    ∙ ap (λ (l : List ℕ). l ++ rest) here
    ∙ first_alone (is_listed x && bytes_eq x.name name) n rest

-- the list of a name and version
pub versioned_list : (names : Label → Option Key) (n : ℕ) (symbols : List Symbol) → LeadFrom names n symbols → (name version : List ℕ)
    → ids_with names (definitions_from n symbols) (versioned_key name version) ≡ places_from (λ x. is_version_listed x && bytes_eq x.name name && same_version x.version (Some version)) n symbols
versioned_list names n [] lead name version = refl
versioned_list names n (x ∷ symbols) lead name version =
    let key = versioned_key name version in
    let test = is_version_listed x && bytes_eq x.name name && same_version x.version (Some version) in
    let rest = places_from (λ y. is_version_listed y && bytes_eq y.name name && same_version y.version (Some version)) (n + 1) symbols in
    let plain : leads_to names (Plain n) key ≡ false = leads_by names (Plain n) (plain_key x.name) key (lead_first names n x symbols lead) ∙ and_false (bytes_eq x.name name) in
    let own = own_version names n x name version (λ v some. lead_first_versioned names n x symbols v lead some) in
    let here : ids_with names (definitions_by n x) key ≡ kept_if false n (kept_if test n []) =
    ids_of_two names key (is_listed x) (is_version_listed x) (definition_by (Plain n) None n x) (definition_by (Versioned n) x.version n x)
    ∙ ap (λ (b : Bool). kept_if (is_listed x && b) n (kept_if (is_version_listed x && leads_to names (Versioned n) key) n [])) plain
    ∙ ap (λ (b : Bool). kept_if b n (kept_if (is_version_listed x && leads_to names (Versioned n) key) n [])) (and_false (is_listed x))
    ∙ ap (λ (b : Bool). kept_if false n (kept_if b n [])) own in
    ids_with-append names (definitions_by n x) (definitions_from (n + 1) symbols) key
    ∙ ap (λ (l : List ℕ). ids_with names (definitions_by n x) key ++ l) (versioned_list names (n + 1) symbols (lead_next names n x symbols lead) name version)
    ∙ ap (λ (l : List ℕ). l ++ rest) here
    ∙ second_alone test n rest

-- ---- places

-- places among elements and others behind them
pub places_from-append : {X : Type 0} (p : X → Bool) (n : ℕ) (xs ys : List X) → places_from p n (xs ++ ys) ≡ places_from p n xs ++ places_from p (n + length xs) ys
places_from-append p n [] ys = let e : n + 0 ≡ n = omega arith in ap (λ (k : ℕ). places_from p k ys) (sym e)
places_from-append p n (x ∷ xs) ys =
    let e : n + 1 + length xs ≡ n + suc (length xs) = omega arith in
    ap (kept_if (p x) n) (places_from-append p (n + 1) xs ys ∙ ap (λ (k : ℕ). places_from p (n + 1) xs ++ places_from p k ys) e)
    ∙ by (p x) (places_from p (n + 1) xs) (places_from p (n + suc (length xs)) ys)
  where
    by : (b : Bool) (a c : List ℕ) → kept_if b n (a ++ c) ≡ kept_if b n a ++ c
    by true a c = refl
    by false a c = refl

-- places are those of elements
pub places_within : {X : Type 0} (p : X → Bool) (n : ℕ) (xs : List X) → All (λ k. k < n + length xs) (places_from p n xs)
places_within p n [] = All-nil (λ k. k < n + 0)
places_within p n (x ∷ xs) =
    let e : n + 1 + length xs ≡ n + suc (length xs) = omega arith in
    let lt : n < n + suc (length xs) = omega arith in
    let rest : All (λ k. k < n + suc (length xs)) (places_from p (n + 1) xs) = subst (λ (m : ℕ). All (λ k. k < m) (places_from p (n + 1) xs)) e (places_within p (n + 1) xs) in
    by (p x) lt rest
  where
    by : (b : Bool) → n < n + suc (length xs) → All (λ k. k < n + suc (length xs)) (places_from p (n + 1) xs) → All (λ k. k < n + suc (length xs)) (kept_if b n (places_from p (n + 1) xs))
    by true lt rest = All-cons (λ k. k < n + suc (length xs)) n (places_from p (n + 1) xs) lt rest
    by false lt rest = rest

-- each definition that symbols give is one of them
pub ids_within : (names : Label → Option Key) (n : ℕ) (symbols : List Symbol) → LeadFrom names n symbols → (key : Key) → All (λ id. id < n + length symbols) (ids_with names (definitions_from n symbols) key)
ids_within names n symbols lead key = by key.version refl
  where
    by : (o : Option (List ℕ)) → key.version ≡ o → All (λ id. id < n + length symbols) (ids_with names (definitions_from n symbols) key)
    by None e =
        let is : key ≡ plain_key key.name = ap (λ (v : Option (List ℕ)). key_with key.name v) e in
        subst (λ (k : Key). All (λ id. id < n + length symbols) (ids_with names (definitions_from n symbols) k)) (sym is)
        (subst (λ (l : List ℕ). All (λ id. id < n + length symbols) l) (sym (plain_list names n symbols lead key.name)) (places_within (λ x. is_listed x && bytes_eq x.name key.name) n symbols))
    by (Some version) e =
        let is : key ≡ versioned_key key.name version = ap (λ (v : Option (List ℕ)). key_with key.name v) e in
        subst (λ (k : Key). All (λ id. id < n + length symbols) (ids_with names (definitions_from n symbols) k)) (sym is)
        (subst (λ (l : List ℕ). All (λ id. id < n + length symbols) l) (sym (versioned_list names n symbols lead key.name version)) (places_within (λ x. is_version_listed x && bytes_eq x.name key.name && same_version x.version (Some version)) n symbols))

-- ---- hash numbers

-- each definition that symbols give has the hash number of its name
pub definitions_hashed : (names : Label → Option Key) (n : ℕ) (symbols : List Symbol) → LeadFrom names n symbols → AreHashed names (definitions_from n symbols)
definitions_hashed names n [] lead = All-nil (λ d. number_of names d.label ≡ Some d.hash)
definitions_hashed names n (x ∷ symbols) lead =
    All-append (λ d. number_of names d.label ≡ Some d.hash) (definitions_by n x) (definitions_from (n + 1) symbols) here (definitions_hashed names (n + 1) symbols (lead_next names n x symbols lead))
  where
    second : (b : Bool) → is_version_listed x ≡ b → All (λ d. number_of names d.label ≡ Some d.hash) (kept_if b (definition_by (Versioned n) x.version n x) [])
    second true e =
        let there = version_there x e in
        All-cons (λ d. number_of names d.label ≡ Some d.hash) (definition_by (Versioned n) x.version n x) []
        (ap (option_map hash_of) (lead_first_versioned names n x symbols there.0 lead there.1) ∙ ap (λ (v : Option (List ℕ)). Some (hash_of (key_with x.name v))) (sym there.1)) (All-nil (λ d. number_of names d.label ≡ Some d.hash))
    second false e = All-nil (λ d. number_of names d.label ≡ Some d.hash)

    first : (b : Bool) → All (λ d. number_of names d.label ≡ Some d.hash) (kept_if b (definition_by (Plain n) None n x) (kept_if (is_version_listed x) (definition_by (Versioned n) x.version n x) []))
    first true = All-cons (λ d. number_of names d.label ≡ Some d.hash) (definition_by (Plain n) None n x) (kept_if (is_version_listed x) (definition_by (Versioned n) x.version n x) [])
        (ap (option_map hash_of) (lead_first names n x symbols lead)) (second (is_version_listed x) refl)
    first false = second (is_version_listed x) refl

    here : All (λ d. number_of names d.label ≡ Some d.hash) (definitions_by n x)
    here = first (is_listed x)

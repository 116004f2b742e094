-- Tables to which files without symbols and symbols of the linker come, and lists that are cut.
use Rattle.std.proofs.Common.{◌≡◌, ◌∙◌, ◌<◌, ◌++◌, ℕ, Bool, true, false, cond, List, [], ◌∷◌, length, map, take, Option, Some, None, refl, sym, ap, subst, arith, if◌then◌else◌}
use Rattle.std.specs.Prelude.{All, IfSome, OnErr, OnOk, Result, slice_get}
use Rattle.std.specs.List.{AllByRecursion}
use Rattle.std.specs.Option.{is_some, option_and_then, option_map, option_map_or, option_or, unwrap_or}
use Rattle.std.proofs.lemmas.List.{append-nil, length-append}
use Rattle.std.proofs.lemmas.List.Elements.{All-cons, All-nil}
use Rattle.std.proofs.lemmas.Result.{on_err_weaker, on_ok_weaker}
use Rattle.link_db_buckets.specs.declared.buckets.Buckets.{Buckets}
use Rattle.link_db_buckets.specs.declared.label.Label.TheVariants.{Plain}
use Rattle.link_db_buckets.specs.Buckets.{AreKeyed, definitions_at, overridden_at}
use Rattle.link_db_buckets.specs.Keys.{Key, leads_to, same_key}
use Rattle.link_db_buckets.proofs.Changes.{on_both}
use Rattle.link_db_buckets.proofs.Growing.{definitions_kept, overridden_kept}
use Rattle.link_db_files.specs.Adding.{EndsInSynthetic, next_file, no_ids, synthetic_group, with_symbol}
use Rattle.link_db_files.specs.HeldFiles.{HeldFiles, names_in}
use Rattle.link_db_files.specs.Numbered.{HasNoTable}
use Rattle.link_db_files.proofs.Changing.{names-kept, symbols-kept}
use Rattle.link_db_files.proofs.Growing.{symbols-more}
use Rattle.link_db_files.proofs.Numbers.{held-at}
use Rattle.link_db_files.proofs.Places.{get-left}
use Rattle.link_input_groups.specs.declared.group.Group.{Group}
use Rattle.link_input_groups.specs.Groups.{files_of}
use Rattle.link_input.specs.Symbols.{Symbol}
use Rattle.link_rules.specs.Places.{first_of}
use Rattle.link_db_mapping.specs.Changes.{listed_under, listing_name, with_group}
use Rattle.link_db_mapping.specs.Keys.{plain_key, versioned_key}
use Rattle.link_db_mapping.specs.Mapped.{Mapped, mapped_key, mapping_of, override_of}
use Rattle.link_db_mapping.specs.Seen.{told_by}
use Rattle.link_db_mapping.specs.Tables.{AreNamed, key_at}
use Rattle.link_db_mapping.proofs.Grown.{Grows, Lists, files_extend, grown_named, grown_told, listed_named}
use Rattle.link_db_mapping.proofs.Listing.{leads_by}
use Rattle.link_db_mapping.proofs.Overrides.{last_there}

-- ---- groups without symbols

-- a group without symbols more
group_grows : {P : Type 0} (held new : HeldFiles P) (g : Group P) → AllByRecursion HasNoTable (files_of g) → new ≡ record held { groups = held.groups ++ g ∷ [] } → Grows held new
group_grows {P} held new g none is =
    let more : HeldFiles P = record held { groups = held.groups ++ g ∷ [] } in
    let same = symbols-more held.groups g none in
    let names : names_in more ≡ names_in held = ap (λ (l : List Symbol). map (λ x. x.name) l ++ held.added) same in
    subst (λ (h : HeldFiles P). Grows held h) (sym is) (record {
      names = λ id name there. ap (λ (l : List (List ℕ)). slice_get l id) names ∙ there;
      versions = λ id version there. ap (λ (l : List Symbol). option_and_then (λ (x : Symbol). x.version) (slice_get l id)) same ∙ there;
      count = omega (arith, ap (λ (l : List (List ℕ)). length l) names);
    })

-- the buckets are those of the names, whether the group came or not
pub group_named : {P T E : Type 0} (held new : HeldFiles P) (names : List (List ℕ)) (buckets : Buckets) (g : Group P) (r : Result T E) → AllByRecursion HasNoTable (files_of g) → AreNamed held names buckets
    → OnOk r (new ≡ record held { groups = held.groups ++ g ∷ [] }) → OnErr r (new ≡ held) → AreNamed new names buckets
group_named {P} held new names buckets g r none named ok err =
    on_both r (on_ok_weaker r (λ is. grown_named held new names buckets (group_grows held new g none is) named) ok)
    (on_err_weaker r (λ is. subst (λ (h : HeldFiles P). AreNamed h names buckets) (sym is) named) err)

-- they tell what they told, of the group too
pub group_told : {P : Type 0} (held new : HeldFiles P) (names : List (List ℕ)) (buckets : Buckets) (g : Group P) → AllByRecursion HasNoTable (files_of g) → AreNamed held names buckets → new ≡ record held { groups = held.groups ++ g ∷ [] }
    → told_by new names buckets ≡ with_group g (told_by held names buckets)
group_told {P} held new names buckets g none named is =
    grown_told held new names buckets (group_grows held new g none is) named ∙ ap (λ (h : HeldFiles P). record (told_by held names buckets) { files = h }) is

-- with a group for its symbols, the linker can add one
pub ends_in_group : {P : Type 0} (held : HeldFiles P) → EndsInSynthetic (held.groups ++ synthetic_group held ∷ [])
ends_in_group held = (held.groups, (record { file_id = next_file held; symbol_id_range = no_ids (length (names_in held)) }, refl))

-- ---- first definitions alone

-- the first of a list of which all pass
first_passes : (Q : ℕ → Type 0) (ids : List ℕ) → All Q ids → All Q (take 1 ids)
first_passes Q [] all = all
first_passes Q (x ∷ ids) all = let lt : 0 < length (x ∷ ids) = omega arith in All-cons Q x [] (all 0 x lt) (All-nil Q)

-- the first of a list stays
first_stays : (ids : List ℕ) → first_of (take 1 ids) ≡ first_of ids
first_stays [] = refl
first_stays (x ∷ ids) = refl

-- the buckets are those of the names
pub released_named : {P : Type 0} (held : HeldFiles P) (names : List (List ℕ)) (old new : Buckets) → AreNamed held names old → AreKeyed (key_at held names) new → ((key : Key) → definitions_at (key_at held names) new key ≡ take 1 (definitions_at (key_at held names) old key))
    → ((key : Key) → overridden_at (key_at held names) new key ≡ overridden_at (key_at held names) old key) → AreNamed held names new
released_named held names old new named keyed cut over = record {
  keyed = keyed;
  plain = λ n v. over (versioned_key n v) ∙ named.plain n v;
  known = λ n is. named.known n (ap (λ (o : Option ℕ). is_some o) (sym (over (plain_key n))) ∙ is);
  listed = λ key. subst (All (λ id. id < length (names_in held))) (sym (cut key)) (first_passes (λ id. id < length (names_in held)) (definitions_at (key_at held names) old key) (named.listed key));
  within = λ n id is. named.within n id (sym (over (plain_key n)) ∙ is);
}

-- each key is mapped to what it was
pub released_mapped : {P : Type 0} (m n : Mapped P) → ((key : Key) → n.lists key ≡ take 1 (m.lists key)) → ((name : List ℕ) → n.overridden name ≡ m.overridden name) → (key : Key) → mapped_key n key ≡ mapped_key m key
released_mapped m n cut over key =
    ap (λ (o : Option ℕ). option_or o (first_of (n.lists key))) (by key.version) ∙ ap (λ (l : List ℕ). option_or (override_of m key.name key.version) (first_of l)) (cut key)
    ∙ ap (option_or (override_of m key.name key.version)) (first_stays (m.lists key))
  where
    by : (version : Option (List ℕ)) → override_of n key.name version ≡ override_of m key.name version
    by None = over key.name
    by (Some version) = refl

-- ---- symbols of the linker

-- a symbol more
pub symbol_grows : {P : Type 0} (held new : HeldFiles P) (name : List ℕ) → EndsInSynthetic held.groups → new ≡ with_symbol held name → Grows held new
symbol_grows {P} held new name last is =
    let names = names-kept held name last in
    subst (λ (h : HeldFiles P). Grows held h) (sym is) (record {
      names = λ id n there. ap (λ (l : List (List ℕ)). slice_get l id) names ∙ get-left (names_in held) (name ∷ []) id n there;
      versions = λ id version there. ap (λ (l : List Symbol). option_and_then (λ (x : Symbol). x.version) (slice_get l id)) (symbols-kept held name last) ∙ there;
      count = omega (arith, ap (λ (l : List (List ℕ)). length l) names, length-append (names_in held) (name ∷ []));
    })

-- its name stands behind all others
pub symbol_there : {P : Type 0} (held new : HeldFiles P) (name : List ℕ) (id : ℕ) → EndsInSynthetic held.groups → new ≡ with_symbol held name → id ≡ length (names_in held) → slice_get (names_in new) id ≡ Some name
symbol_there {P} held new name id last is at =
    ap (λ (h : HeldFiles P). slice_get (names_in h) id) is ∙ ap (λ (l : List (List ℕ)). slice_get l id) (names-kept held name last) ∙ last_there (names_in held) name id at

-- the symbol under whose name another is listed has the listing name
pub listed_there : {P : Type 0} (m : Mapped P) (new : HeldFiles P) (name text : List ℕ) (mapped : Option ℕ) (id listed : ℕ) → Grows m.files new → slice_get (names_in new) id ≡ Some name → text ≡ name → mapped ≡ mapping_of m text → IfSome mapped (λ s. s < length (names_in m.files))
    → listed ≡ unwrap_or mapped id → slice_get (names_in new) listed ≡ Some (listing_name m name)
listed_there m new name text mapped id listed grows there shown is within has = by mapped (is ∙ ap (λ (n : List ℕ). mapping_of m n) shown) within has
  where
    by : (o : Option ℕ) → o ≡ mapping_of m name → IfSome o (λ s. s < length (names_in m.files)) → listed ≡ unwrap_or o id → slice_get (names_in new) listed ≡ Some (listing_name m name)
    by None none lt at =
        let own : listing_name m name ≡ name = ap (λ (o : Option ℕ). option_map_or (λ own. own) (option_and_then (λ s. slice_get (names_in m.files) s) o) name) (sym none) in
        ap (slice_get (names_in new)) at ∙ there ∙ ap Some (sym own)
    by (Some s) some lt at = held-at (names_in m.files) s lt (λ own found.
        let is_own : listing_name m name ≡ own = ap (λ (o : Option ℕ). option_map_or (λ n. n) (option_and_then (λ t. slice_get (names_in m.files) t) o) name) (sym some) ∙ ap (λ (o : Option (List ℕ)). option_map_or (λ n. n) o name) found in
        ap (slice_get (names_in new)) at ∙ grows.names s own found ∙ ap Some (sym is_own))

-- the ids that a definition more adds to a key
abbrev pub id_under : List ℕ → ℕ → Key → List ℕ
id_under name id key = if same_key (plain_key name) key then id ∷ [] else []

-- a definition was added under a symbol's name
pub listed_more : {P : Type 0} (new : HeldFiles P) (names : List (List ℕ)) (before after : Buckets) (own : List ℕ) (listed place number id : ℕ) → slice_get (names_in new) listed ≡ Some own → place ≡ listed → number ≡ id → AreKeyed (key_at new names) after
    → ((asked : Key) → definitions_at (key_at new names) after asked ≡ (if leads_to (key_at new names) (Plain place) asked then definitions_at (key_at new names) before asked ++ number ∷ [] else definitions_at (key_at new names) before asked))
    → ((asked : Key) → overridden_at (key_at new names) after asked ≡ overridden_at (key_at new names) before asked) → Lists new names before after (id_under own id)
listed_more new names before after own listed place number id there at same keyed lists over = record {
  keyed = keyed;
  definitions = λ asked.
      let old = definitions_at (key_at new names) before asked in
      let leads : leads_to (key_at new names) (Plain place) asked ≡ same_key (plain_key own) asked =
      leads_by (key_at new names) (Plain place) (plain_key own) asked (ap (λ (k : ℕ). option_map plain_key (slice_get (names_in new) k)) at ∙ ap (option_map plain_key) there) in
      lists asked ∙ ap (λ (b : Bool). cond b (old ++ number ∷ []) old) leads ∙ ap (λ (i : ℕ). cond (same_key (plain_key own) asked) (old ++ i ∷ []) old) same ∙ by (same_key (plain_key own) asked) old;
  overridden = over;
}
  where
    by : (b : Bool) (old : List ℕ) → cond b (old ++ id ∷ []) old ≡ old ++ cond b (id ∷ []) []
    by true old = refl
    by false old = sym (append-nil old)

-- the buckets are those of the names
pub symbol_named : {P : Type 0} (held new : HeldFiles P) (names : List (List ℕ)) (before after : Buckets) (own : List ℕ) (id : ℕ) → Grows held new → AreNamed held names before → Lists new names before after (id_under own id) → id < length (names_in new) → AreNamed new names after
symbol_named held new names before after own id grows named lists lt =
    listed_named new names before after (id_under own id) (grown_named held new names before grows named) lists (λ key. by (same_key (plain_key own) key))
  where
    by : (b : Bool) → All (λ i. i < length (names_in new)) (cond b (id ∷ []) [])
    by true = All-cons (λ i. i < length (names_in new)) id [] lt (All-nil (λ i. i < length (names_in new)))
    by false = All-nil (λ i. i < length (names_in new))

-- the lists are those that were told, with the definition
pub symbol_lists : {P : Type 0} (held new : HeldFiles P) (names : List (List ℕ)) (before after : Buckets) (own : List ℕ) (id : ℕ) → Grows held new → AreNamed held names before → Lists new names before after (id_under own id)
    → (told_by new names after).lists ≡ listed_under own id (told_by held names before).lists
symbol_lists held new names before after own id grows named lists = λ i. λ key. each key i
  where
    by : (b : Bool) (old : List ℕ) → old ++ cond b (id ∷ []) [] ≡ cond b (old ++ id ∷ []) old
    by true old = refl
    by false old = append-nil old

    each : (key : Key) → definitions_at (key_at new names) after key ≡ listed_under own id (told_by held names before).lists key
    each key =
        lists.definitions key ∙ ap (λ (l : List ℕ). l ++ id_under own id key) (definitions_kept (key_at held names) (key_at new names) before key (files_extend held new names grows) named.keyed)
        ∙ by (same_key (plain_key own) key) (definitions_at (key_at held names) before key)

-- names are overridden as they were
pub symbol_overridden : {P : Type 0} (held new : HeldFiles P) (names : List (List ℕ)) (before after : Buckets) (own : List ℕ) (id : ℕ) → Grows held new → AreNamed held names before → Lists new names before after (id_under own id)
    → (told_by new names after).overridden ≡ (told_by held names before).overridden
symbol_overridden held new names before after own id grows named lists =
    λ i. λ name. (lists.overridden (plain_key name) ∙ overridden_kept (key_at held names) (key_at new names) before (plain_key name) (files_extend held new names grows) named.keyed) i

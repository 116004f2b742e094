-- Names that are held and overridden.
use Rattle.std.proofs.Common.{◌≡◌, ◌∙◌, ◌<◌, ◌||◌, ◌++◌, ℕ, zero, suc, Bool, true, false, cond, List, [], ◌∷◌, length, Option, Some, None, refl, sym, ap, subst, arith, get_or, if◌then◌else◌}
use Rattle.std.specs.Prelude.{All, Err, Ok, OnErr, Result, slice_get}
use Rattle.std.specs.List.{list_any}
use Rattle.std.specs.Option.{is_some, option_map}
use Rattle.std.specs.Str.{bytes_eq}
use Rattle.std.proofs.lemmas.List.Folds.{list_any-append}
use Rattle.std.proofs.lemmas.Option.{get_or_from_slice_get, same_Some}
use Rattle.std.proofs.lemmas.Slice.Eq.{bytes_eq-Decides}
use Rattle.link_db_buckets.specs.declared.buckets.Buckets.{Buckets}
use Rattle.link_db_buckets.specs.declared.label.Label.TheVariants.{Plain, Versioned, Added}
use Rattle.link_db_buckets.specs.Buckets.{AreKeyed, definitions_at, overridden_at}
use Rattle.link_db_buckets.specs.Keys.{Extends, Key, leads_to, same_key}
use Rattle.link_db_buckets.proofs.Growing.{buckets_kept, definitions_kept, overridden_kept}
use Rattle.link_db_buckets.proofs.Keys.{keys_equal}
use Rattle.link_db_files.specs.HeldFiles.{HeldFiles, names_in}
use Rattle.link_db_files.proofs.Places.{get-left}
use Rattle.link_db_mapping.specs.Changes.{with_override}
use Rattle.link_db_mapping.specs.Keys.{plain_key, versioned_key}
use Rattle.link_db_mapping.specs.Mapped.{Mapped}
use Rattle.link_db_mapping.specs.Seen.{told_by}
use Rattle.link_db_mapping.specs.Tables.{AreNamed, is_one_of, key_at}
use Rattle.link_db_mapping.proofs.Listing.{and_false, and_true, leads_by}

-- ---- names that are held

-- a name more leads no label elsewhere
pub names_extend : {P : Type 0} (held : HeldFiles P) (names : List (List ℕ)) (name : List ℕ) → Extends (key_at held names) (key_at held (names ++ name ∷ []))
names_extend held names name (Plain id) key is = is
names_extend held names name (Versioned id) key is = is
names_extend held names name (Added place) key is = by (slice_get names place) refl is
  where
    by : (o : Option (List ℕ)) → slice_get names place ≡ o → option_map plain_key o ≡ Some key → option_map plain_key (slice_get (names ++ name ∷ []) place) ≡ Some key
    by None e f = absurd cc
    by (Some n) e f = rw (get-left names (name ∷ []) place n e) f

-- one of some names is one of them and more
still_one : (names : List (List ℕ)) (more : List (List ℕ)) (name : List ℕ) → is_one_of names name → is_one_of (names ++ more) name
still_one names more name one = list_any-append (bytes_eq name) names more ∙ ap (λ (b : Bool). b || list_any (bytes_eq name) more) one

-- a name that stands at a place is one of them
pub one_there : (names : List (List ℕ)) (place : ℕ) (name : List ℕ) → slice_get names place ≡ Some name → is_one_of names name
one_there [] place name is = absurd cc
one_there (n ∷ names) zero name is =
    let same : bytes_eq name n ≡ true = (bytes_eq-Decides name n).1 (sym (same_Some n name is)) in
    ap (λ (b : Bool). b || list_any (bytes_eq name) names) same
one_there (n ∷ names) (suc place) name is = by (bytes_eq name n) (one_there names place name is)
  where
    by : (b : Bool) → is_one_of names name → (b || list_any (bytes_eq name) names) ≡ true
    by true one = refl
    by false one = one

-- buckets are those of one name more
pub held_named : {P : Type 0} (held : HeldFiles P) (names : List (List ℕ)) (name : List ℕ) (buckets : Buckets) → AreNamed held names buckets → AreNamed held (names ++ name ∷ []) buckets
held_named held names name buckets named =
    let old = key_at held names in
    let new = key_at held (names ++ name ∷ []) in
    let more = names_extend held names name in
    record {
      keyed = buckets_kept old new buckets more named.keyed;
      plain = λ n v. overridden_kept old new buckets (versioned_key n v) more named.keyed ∙ named.plain n v;
      known = λ n is. still_one names (name ∷ []) n (named.known n (ap (λ (o : Option ℕ). is_some o) (sym (overridden_kept old new buckets (plain_key n) more named.keyed)) ∙ is));
      listed = λ key. subst (All (λ id. id < length (names_in held))) (sym (definitions_kept old new buckets key more named.keyed)) (named.listed key);
      within = λ n id is. named.within n id (sym (overridden_kept old new buckets (plain_key n) more named.keyed) ∙ is);
    }

-- and where one name more may have been held
pub held_either : {P : Type 0} (held : HeldFiles P) (names : List (List ℕ)) (name : List ℕ) (buckets : Buckets) (b : Bool) → AreNamed held names buckets → AreNamed held (if b then names ++ name ∷ [] else names) buckets
held_either held names name buckets true named = held_named held names name buckets named
held_either held names name buckets false named = named

-- the last name stands behind the others
pub last_there : (names : List (List ℕ)) (name : List ℕ) (place : ℕ) → place ≡ length names → slice_get (names ++ name ∷ []) place ≡ Some name
last_there [] name place is = rw is refl
last_there (n ∷ names) name zero is = absurd (omega arith)
last_there (n ∷ names) name (suc place) is = last_there names name place (omega arith)

-- two tellings are one where they tell the same of each key and name
pub told_same : {P : Type 0} (m n : Mapped P) → m.files ≡ n.files → ((key : Key) → m.lists key ≡ n.lists key) → ((name : List ℕ) → m.overridden name ≡ n.overridden name) → m ≡ n
told_same m n files lists overridden = λ i. record { files = files i; lists = λ key. lists key i; overridden = λ name. overridden name i }

-- with one name more they tell the same
pub held_told : {P : Type 0} (held : HeldFiles P) (names : List (List ℕ)) (name : List ℕ) (buckets : Buckets) → AreNamed held names buckets → told_by held (names ++ name ∷ []) buckets ≡ told_by held names buckets
held_told held names name buckets named =
    let old = key_at held names in
    let new = key_at held (names ++ name ∷ []) in
    told_same (told_by held (names ++ name ∷ []) buckets) (told_by held names buckets) refl
    (λ key. definitions_kept old new buckets key (names_extend held names name) named.keyed)
    (λ n. overridden_kept old new buckets (plain_key n) (names_extend held names name) named.keyed)

-- ---- names that are overridden

-- a name that was held leads its label to it
pub label_of_held : {P : Type 0} (held : HeldFiles P) (names : List (List ℕ)) (place : ℕ) (name : List ℕ) → slice_get names place ≡ Some name → (asked : Key) → leads_to (key_at held names) (Added place) asked ≡ same_key (plain_key name) asked
label_of_held held names place name is asked = leads_by (key_at held names) (Added place) (plain_key name) asked (ap (option_map plain_key) is)

-- one plain name was overridden, and nothing else changed
pub record Overrides {P : Type 0} (held : HeldFiles P) (names : List (List ℕ)) (old new : Buckets) (name : List ℕ) (id : ℕ) : Type 0 where
  pub keyed : AreKeyed (key_at held names) new
  pub overridden : (asked : Key) → overridden_at (key_at held names) new asked ≡ (if same_key (plain_key name) asked then Some id else overridden_at (key_at held names) old asked)
  pub definitions : (asked : Key) → definitions_at (key_at held names) new asked ≡ definitions_at (key_at held names) old asked

-- the name of a label was overridden
pub overrides_by_label : {P : Type 0} (held : HeldFiles P) (names : List (List ℕ)) (old new : Buckets) (place : ℕ) (name : List ℕ) (number id : ℕ) → slice_get names place ≡ Some name → number ≡ id → AreKeyed (key_at held names) new
    → ((asked : Key) → overridden_at (key_at held names) new asked ≡ (if leads_to (key_at held names) (Added place) asked then Some number else overridden_at (key_at held names) old asked))
    → ((asked : Key) → definitions_at (key_at held names) new asked ≡ definitions_at (key_at held names) old asked) → Overrides held names old new name id
overrides_by_label held names old new place name number id is same keyed over definitions = record {
  keyed = keyed;
  overridden = λ asked. over asked ∙ ap (λ (b : Bool). cond b (Some number) (overridden_at (key_at held names) old asked)) (label_of_held held names place name is asked)
      ∙ ap (λ (i : ℕ). cond (same_key (plain_key name) asked) (Some i) (overridden_at (key_at held names) old asked)) same;
  definitions = definitions;
}

-- the name that was read at a place was overridden
pub overrides_by_name : {P : Type 0} (held : HeldFiles P) (names : List (List ℕ)) (old new : Buckets) (place : ℕ) (read text name : List ℕ) (number id : ℕ) → read ≡ get_or names place read → text ≡ read → slice_get names place ≡ Some name → number ≡ id → AreKeyed (key_at held names) new
    → ((asked : Key) → overridden_at (key_at held names) new asked ≡ (if same_key (plain_key text) asked then Some number else overridden_at (key_at held names) old asked))
    → ((asked : Key) → definitions_at (key_at held names) new asked ≡ definitions_at (key_at held names) old asked) → Overrides held names old new name id
overrides_by_name held names old new place read text name number id there shown is same keyed over definitions =
    let named : text ≡ name = shown ∙ there ∙ get_or_from_slice_get names place name read is in
    record {
      keyed = keyed;
      overridden = λ asked. over asked ∙ ap (λ (t : List ℕ). cond (same_key (plain_key t) asked) (Some number) (overridden_at (key_at held names) old asked)) named
          ∙ ap (λ (i : ℕ). cond (same_key (plain_key name) asked) (Some i) (overridden_at (key_at held names) old asked)) same;
      definitions = definitions;
    }

-- no name with a version was overridden
never_versioned : (a b v : List ℕ) → same_key (plain_key a) (versioned_key b v) ≡ false
never_versioned a b v = and_false (bytes_eq a b)

-- the buckets are those of the names
pub override_named : {P : Type 0} (held : HeldFiles P) (names : List (List ℕ)) (old new : Buckets) (name : List ℕ) (id : ℕ) → AreNamed held names old → Overrides held names old new name id → is_one_of names name → id < length (names_in held) → AreNamed held names new
override_named held names old new name id named over one lt =
    let words = key_at held names in
    record {
      keyed = over.keyed;
      plain = λ n v. over.overridden (versioned_key n v) ∙ ap (λ (b : Bool). cond b (Some id) (overridden_at words old (versioned_key n v))) (never_versioned name n v) ∙ named.plain n v;
      known = λ n is. known n (same_key (plain_key name) (plain_key n)) refl (ap (λ (o : Option ℕ). is_some o) (sym (over.overridden (plain_key n))) ∙ is);
      listed = λ key. subst (All (λ i. i < length (names_in held))) (sym (over.definitions key)) (named.listed key);
      within = λ n i is. within n i (same_key (plain_key name) (plain_key n)) (sym (over.overridden (plain_key n)) ∙ is);
    }
  where
    known : (n : List ℕ) (b : Bool) → same_key (plain_key name) (plain_key n) ≡ b → is_some (cond b (Some id) (overridden_at (key_at held names) old (plain_key n))) ≡ true → is_one_of names n
    known n true e is = subst (is_one_of names) (ap (λ (k : Key). k.name) (keys_equal (plain_key name) (plain_key n) e)) one
    known n false e is = named.known n is

    within : (n : List ℕ) (i : ℕ) (b : Bool) → cond b (Some id) (overridden_at (key_at held names) old (plain_key n)) ≡ Some i → i < length (names_in held)
    within n i true is = subst (λ (j : ℕ). j < length (names_in held)) (same_Some id i is) lt
    within n i false is = named.within n i is

-- bytes are compared in either order
pub bytes_turned : (a b : List ℕ) → bytes_eq a b ≡ bytes_eq b a
bytes_turned a b = by (bytes_eq a b) refl (bytes_eq b a) refl
  where
    by : (p : Bool) → bytes_eq a b ≡ p → (q : Bool) → bytes_eq b a ≡ q → p ≡ q
    by true e true f = refl
    by false e false f = refl
    by true e false f = sym ((bytes_eq-Decides b a).1 (sym ((bytes_eq-Decides a b).0 e))) ∙ f
    by false e true f = sym e ∙ (bytes_eq-Decides a b).1 (sym ((bytes_eq-Decides b a).0 f))

-- what they tell is what they told, with the override
pub override_told : {P : Type 0} (held : HeldFiles P) (names : List (List ℕ)) (old new : Buckets) (name : List ℕ) (id : ℕ) → Overrides held names old new name id → told_by held names new ≡ with_override name id (told_by held names old)
override_told held names old new name id over =
    told_same (told_by held names new) (with_override name id (told_by held names old)) refl over.definitions
    (λ n. over.overridden (plain_key n) ∙ ap (λ (b : Bool). cond b (Some id) (overridden_at (key_at held names) old (plain_key n))) (and_true (bytes_eq name n) ∙ bytes_turned name n))

-- ---- nothing changed

-- nothing changed of what the buckets say
pub record Same {P : Type 0} (held : HeldFiles P) (names : List (List ℕ)) (old new : Buckets) : Type 0 where
  pub keyed : AreKeyed (key_at held names) new
  pub overridden : (asked : Key) → overridden_at (key_at held names) new asked ≡ overridden_at (key_at held names) old asked
  pub definitions : (asked : Key) → definitions_at (key_at held names) new asked ≡ definitions_at (key_at held names) old asked

-- the buckets are those of the names
pub same_named : {P : Type 0} (held : HeldFiles P) (names : List (List ℕ)) (old new : Buckets) → AreNamed held names old → Same held names old new → AreNamed held names new
same_named held names old new named same = record {
  keyed = same.keyed;
  plain = λ n v. same.overridden (versioned_key n v) ∙ named.plain n v;
  known = λ n is. named.known n (ap (λ (o : Option ℕ). is_some o) (sym (same.overridden (plain_key n))) ∙ is);
  listed = λ key. subst (All (λ i. i < length (names_in held))) (sym (same.definitions key)) (named.listed key);
  within = λ n i is. named.within n i (sym (same.overridden (plain_key n)) ∙ is);
}

-- they tell what they told
pub same_told : {P : Type 0} (held : HeldFiles P) (names : List (List ℕ)) (old new : Buckets) → Same held names old new → told_by held names new ≡ told_by held names old
same_told held names old new same = told_same (told_by held names new) (told_by held names old) refl same.definitions (λ n. same.overridden (plain_key n))

-- there is something
pub some_there : {X : Type 0} (o : Option X) → is_some o ≡ true → (x : X) × (o ≡ Some x)
some_there None e = absurd cc
some_there (Some x) e = (x, refl)

-- what holds anyway holds where there is an error
pub on_err_of : {T E Q : Type 0} (r : Result T E) → Q → OnErr r Q
on_err_of (Ok x) q = tt
on_err_of (Err e) q = q

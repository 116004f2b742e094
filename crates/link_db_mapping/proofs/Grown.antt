-- Tables whose files grow, and go back.
use Rattle.std.proofs.Common.{◌≡◌, ◌∙◌, ◌+◌, ◌<◌, ◌≤◌, ◌||◌, ◌++◌, ℕ, Bool, true, false, cond, List, [], ◌∷◌, length, take, get_or, Option, Some, None, refl, sym, ap, subst, arith, if◌then◌else◌}
use Rattle.std.specs.Prelude.{All, slice_get}
use Rattle.std.specs.List.{list_any}
use Rattle.std.specs.Option.{is_some, option_and_then, option_map}
use Rattle.std.specs.Str.{bytes_eq}
use Rattle.std.proofs.lemmas.List.{take_more}
use Rattle.std.proofs.lemmas.List.Elements.{All-append}
use Rattle.std.proofs.lemmas.List.Folds.{list_any-append}
use Rattle.link_db_buckets.specs.declared.buckets.Buckets.{Buckets}
use Rattle.link_db_buckets.specs.declared.label.Label.TheVariants.{Plain, Versioned, Added}
use Rattle.link_db_buckets.specs.Buckets.{AreKeyed, definitions_at, label_at, overridden_at}
use Rattle.link_db_buckets.specs.Keys.{Extends, Key, same_key}
use Rattle.link_db_buckets.proofs.Growing.{buckets_kept, definitions_kept, overridden_kept}
use Rattle.link_db_buckets.proofs.Returning.{definitions_back, keyed_back, overridden_back}
use Rattle.link_db_files.specs.HeldFiles.{HeldFiles, names_in, version_of}
use Rattle.link_db_mapping.specs.Keys.{plain_key, versioned_key}
use Rattle.link_db_mapping.specs.Seen.{told_by}
use Rattle.link_db_mapping.specs.Tables.{AreNamed, is_one_of, key_at}
use Rattle.link_db_mapping.proofs.Listing.{and_true}
use Rattle.link_db_mapping.proofs.Overrides.{Same, bytes_turned, told_same}

-- ---- files that grow

-- each symbol keeps its name and its version
pub record Grows {P : Type 0} (old new : HeldFiles P) : Type 0 where
  pub names : (id : ℕ) (name : List ℕ) → slice_get (names_in old) id ≡ Some name → slice_get (names_in new) id ≡ Some name
  pub versions : (id : ℕ) (version : List ℕ) → version_of old id ≡ Some version → version_of new id ≡ Some version
  pub count : length (names_in old) ≤ length (names_in new)

-- what is made of two that are there
both_there : (o p : Option (List ℕ)) (key : Key) → option_and_then (λ name. option_map (versioned_key name) p) o ≡ Some key → (name : List ℕ) × ((version : List ℕ) × ((o ≡ Some name) × ((p ≡ Some version) × (versioned_key name version ≡ key))))
both_there None p key e = absurd cc
both_there (Some name) None key e = absurd cc
both_there (Some name) (Some version) key e = (name, (version, (refl, (refl, cc))))

-- what is made of one that is there
one_there : (o : Option (List ℕ)) (key : Key) → option_map plain_key o ≡ Some key → (name : List ℕ) × ((o ≡ Some name) × (plain_key name ≡ key))
one_there None key e = absurd cc
one_there (Some name) key e = (name, (refl, cc))

-- each label leads where it led
pub files_extend : {P : Type 0} (old new : HeldFiles P) (names : List (List ℕ)) → Grows old new → Extends (key_at old names) (key_at new names)
files_extend old new names grows (Plain id) key is =
    let there = one_there (slice_get (names_in old) id) key is in
    ap (option_map plain_key) (grows.names id there.0 there.1.0) ∙ ap Some there.1.1
files_extend old new names grows (Versioned id) key is =
    let there = both_there (slice_get (names_in old) id) (version_of old id) key is in
    ap (option_and_then (λ (name : List ℕ). option_map (versioned_key name) (version_of new id))) (grows.names id there.0 there.1.1.0)
    ∙ ap (option_map (versioned_key there.0)) (grows.versions id there.1.0 there.1.1.1.0) ∙ ap Some there.1.1.1.1
files_extend old new names grows (Added place) key is = is

-- ids that are below a number are below a larger one
all_below : (n m : ℕ) (ids : List ℕ) → n ≤ m → All (λ id. id < n) ids → All (λ id. id < m) ids
all_below n m ids le all = λ k d lt. let less = all k d lt in omega arith

-- the buckets are those of the larger tables
pub grown_named : {P : Type 0} (old new : HeldFiles P) (names : List (List ℕ)) (buckets : Buckets) → Grows old new → AreNamed old names buckets → AreNamed new names buckets
grown_named old new names buckets grows named =
    let fewer = key_at old names in
    let more = key_at new names in
    let extend = files_extend old new names grows in
    record {
      keyed = buckets_kept fewer more buckets extend named.keyed;
      plain = λ n v. overridden_kept fewer more buckets (versioned_key n v) extend named.keyed ∙ named.plain n v;
      known = λ n is. named.known n (ap (λ (o : Option ℕ). is_some o) (sym (overridden_kept fewer more buckets (plain_key n) extend named.keyed)) ∙ is);
      listed = λ key. all_below (length (names_in old)) (length (names_in new)) (definitions_at more buckets key) grows.count
          (subst (All (λ id. id < length (names_in old))) (sym (definitions_kept fewer more buckets key extend named.keyed)) (named.listed key));
      within = λ n id is. let less = named.within n id (sym (overridden_kept fewer more buckets (plain_key n) extend named.keyed) ∙ is) in let le = grows.count in omega arith;
    }

-- they tell what they told, of more files
pub grown_told : {P : Type 0} (old new : HeldFiles P) (names : List (List ℕ)) (buckets : Buckets) → Grows old new → AreNamed old names buckets → told_by new names buckets ≡ record (told_by old names buckets) { files = new }
grown_told old new names buckets grows named =
    let extend = files_extend old new names grows in
    told_same (told_by new names buckets) (record (told_by old names buckets) { files = new }) refl
    (λ key. definitions_kept (key_at old names) (key_at new names) buckets key extend named.keyed)
    (λ n. overridden_kept (key_at old names) (key_at new names) buckets (plain_key n) extend named.keyed)

-- where the larger tables go back after nothing changed, nothing has changed
pub back_same : {P : Type 0} (old new : HeldFiles P) (names : List (List ℕ)) (before after : Buckets) → Grows old new → AreNamed old names before → Same new names before after
    → ((asked : Key) → label_at (key_at new names) after asked ≡ label_at (key_at new names) before asked) → Same old names before after
back_same old new names before after grows named same labels =
    let fewer = key_at old names in
    let more = key_at new names in
    let extend = files_extend old new names grows in
    record {
      keyed = keyed_back fewer more before after extend named.keyed same.keyed labels;
      overridden = λ asked. overridden_back fewer more before after asked extend named.keyed same.keyed labels ∙ same.overridden asked ∙ overridden_kept fewer more before asked extend named.keyed;
      definitions = λ asked. definitions_back fewer more before after asked extend named.keyed same.keyed labels ∙ same.definitions asked ∙ definitions_kept fewer more before asked extend named.keyed;
    }

-- ---- definitions that are added

-- definitions were added, and nothing else changed
pub record Lists {P : Type 0} (held : HeldFiles P) (names : List (List ℕ)) (old new : Buckets) (more : Key → List ℕ) : Type 0 where
  pub keyed : AreKeyed (key_at held names) new
  pub definitions : (asked : Key) → definitions_at (key_at held names) new asked ≡ definitions_at (key_at held names) old asked ++ more asked
  pub overridden : (asked : Key) → overridden_at (key_at held names) new asked ≡ overridden_at (key_at held names) old asked

-- the buckets are those of the names
pub listed_named : {P : Type 0} (held : HeldFiles P) (names : List (List ℕ)) (old new : Buckets) (more : Key → List ℕ) → AreNamed held names old → Lists held names old new more → ((key : Key) → All (λ id. id < length (names_in held)) (more key)) → AreNamed held names new
listed_named held names old new more named lists within = record {
  keyed = lists.keyed;
  plain = λ n v. lists.overridden (versioned_key n v) ∙ named.plain n v;
  known = λ n is. named.known n (ap (λ (o : Option ℕ). is_some o) (sym (lists.overridden (plain_key n))) ∙ is);
  listed = λ key. subst (All (λ id. id < length (names_in held))) (sym (lists.definitions key)) (All-append (λ id. id < length (names_in held)) (definitions_at (key_at held names) old key) (more key) (named.listed key) (within key));
  within = λ n id is. named.within n id (sym (lists.overridden (plain_key n)) ∙ is);
}

-- ---- names that are restored

-- no name is overridden any more, and nothing else changed
pub record Restores {P : Type 0} (held : HeldFiles P) (names : List (List ℕ)) (old new : Buckets) : Type 0 where
  pub keyed : AreKeyed (key_at held names) new
  pub definitions : (asked : Key) → definitions_at (key_at held names) new asked ≡ definitions_at (key_at held names) old asked
  pub overridden : (asked : Key) → overridden_at (key_at held names) new asked ≡ (if list_any (λ name. same_key (plain_key name) asked) names then None else overridden_at (key_at held names) old asked)

-- tests that say the same of each
same_any : (p q : List ℕ → Bool) → ((x : List ℕ) → p x ≡ q x) → (xs : List (List ℕ)) → list_any p xs ≡ list_any q xs
same_any p q same [] = refl
same_any p q same (x ∷ xs) = ap (λ (b : Bool). b || list_any p xs) (same x) ∙ ap (λ (b : Bool). q x || b) (same_any p q same xs)

-- a name that is one of some is found among them
found_among : (names : List (List ℕ)) (n : List ℕ) → list_any (λ name. same_key (plain_key name) (plain_key n)) names ≡ list_any (bytes_eq n) names
found_among names n = same_any (λ name. same_key (plain_key name) (plain_key n)) (bytes_eq n) (λ name. and_true (bytes_eq name n) ∙ bytes_turned name n) names

-- no plain name is overridden
none_over : {P : Type 0} (held : HeldFiles P) (names : List (List ℕ)) (old new : Buckets) → AreNamed held names old → Restores held names old new → (n : List ℕ) → overridden_at (key_at held names) new (plain_key n) ≡ None
none_over held names old new named restores n =
    restores.overridden (plain_key n) ∙ by (list_any (λ name. same_key (plain_key name) (plain_key n)) names) refl (overridden_at (key_at held names) old (plain_key n)) refl
  where
    by : (b : Bool) → list_any (λ name. same_key (plain_key name) (plain_key n)) names ≡ b → (o : Option ℕ) → overridden_at (key_at held names) old (plain_key n) ≡ o → cond b None o ≡ None
    by true e o f = refl
    by false e None f = refl
    by false e (Some id) f =
        let one : is_one_of names n = named.known n (ap (λ (o : Option ℕ). is_some o) f) in
        let wrong : false ≡ true = sym e ∙ found_among names n ∙ one in
        absurd cc

-- a choice between nothing and nothing
either_none : (b : Bool) (o : Option ℕ) → o ≡ None → cond b None o ≡ None
either_none true o is = refl
either_none false o is = is

-- the buckets are those of the names
pub restored_named : {P : Type 0} (held : HeldFiles P) (names : List (List ℕ)) (old new : Buckets) → AreNamed held names old → Restores held names old new → AreNamed held names new
restored_named held names old new named restores = record {
  keyed = restores.keyed;
  plain = λ n v. restores.overridden (versioned_key n v) ∙ either_none (list_any (λ name. same_key (plain_key name) (versioned_key n v)) names) (overridden_at (key_at held names) old (versioned_key n v)) (named.plain n v);
  known = λ n is. let no : is_some (overridden_at (key_at held names) new (plain_key n)) ≡ false = ap (λ (o : Option ℕ). is_some o) (none_over held names old new named restores n) in let wrong : false ≡ true = sym no ∙ is in absurd cc;
  listed = λ key. subst (All (λ id. id < length (names_in held))) (sym (restores.definitions key)) (named.listed key);
  within = λ n id is. let no : None ≡ Some id = sym (none_over held names old new named restores n) ∙ is in absurd cc;
}

-- they tell that no name is overridden
pub restored_told : {P : Type 0} (held : HeldFiles P) (names : List (List ℕ)) (old new : Buckets) → AreNamed held names old → Restores held names old new → (told_by held names new).overridden ≡ (λ _. None)
restored_told held names old new named restores = λ i. λ n. none_over held names old new named restores n i

-- one name more is restored
pub restored_more : (names : List (List ℕ)) (i : ℕ) (name text : List ℕ) (asked : Key) (first old new : Option ℕ) → i < length names → name ≡ get_or names i name → text ≡ name → old ≡ (if list_any (λ n. same_key (plain_key n) asked) (take i names) then None else first)
    → new ≡ (if same_key (plain_key text) asked then None else old) → new ≡ (if list_any (λ n. same_key (plain_key n) asked) (take (i + 1) names) then None else first)
restored_more names i name text asked first old new lt is shown so_far change =
    let test : List ℕ → Bool = λ n. same_key (plain_key n) asked in
    let more : list_any test (take (i + 1) names) ≡ (list_any test (take i names) || (test name || false)) =
    ap (list_any test) (take_more names i name lt ∙ ap (λ (n : List ℕ). take i names ++ n ∷ []) (sym is)) ∙ list_any-append test (take i names) (name ∷ []) in
    change ∙ ap (λ (n : List ℕ). cond (same_key (plain_key n) asked) None old) shown ∙ ap (cond (test name) None) so_far ∙ by (test name) (list_any test (take i names)) ∙ ap (λ (b : Bool). cond b None first) (sym more)
  where
    by : (t b : Bool) → cond t None (cond b None first) ≡ cond (b || (t || false)) None first
    by true true = refl
    by true false = refl
    by false true = refl
    by false false = refl

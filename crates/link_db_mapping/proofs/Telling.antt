-- What buckets tell under names.
use Rattle.std.proofs.Common.{◌≡◌, ◌∙◌, ◌<◌, ℕ, suc, Bool, true, false, cond, List, [], ◌∷◌, length, Option, Some, None, refl, sym, ap, subst, arith, ◌==◌}
use Rattle.std.specs.Prelude.{All, IfSome, slice_get}
use Rattle.std.specs.Borrow.{Bor}
use Rattle.std.specs.Option.{is_some, option_map_or, option_or}
use Rattle.std.proofs.lemmas.List.Elements.{All-nil}
use Rattle.std.proofs.lemmas.Option.{same_Some}
use Rattle.link_db_buckets.specs.declared.buckets.Buckets.{Buckets}
use Rattle.link_db_buckets.specs.Buckets.{AreKeyed, definitions_at, mapped_at, overridden_at}
use Rattle.link_db_buckets.specs.Keys.{Key}
use Rattle.link_db_files.specs.HeldFiles.{HeldFiles, names_in}
use Rattle.link_rules.specs.Places.{behind_head, first_of}
use Rattle.link_db_mapping.proofs.Listing.{key_with}
use Rattle.link_db_mapping.specs.Keys.{plain_key, versioned_key}
use Rattle.link_db_mapping.specs.Mapped.{Mapped, later_with, mapped_key}
use Rattle.link_db_mapping.specs.Seen.{told_by}
use Rattle.link_db_mapping.specs.Tables.{AreNamed, key_at}

-- the first of a list is what stands at its begin
pub first_is : {X : Type 0} (xs : List X) → slice_get xs 0 ≡ first_of xs
first_is [] = refl
first_is (x ∷ xs) = refl

-- what holds of each name, and of each name and version, holds of each key
pub each_key : (Q : Key → Type 0) → ((name : List ℕ) → Q (plain_key name)) → ((name version : List ℕ) → Q (versioned_key name version)) → (key : Key) → Q key
each_key Q plain versioned key = by key.version refl
  where
    by : (o : Option (List ℕ)) → key.version ≡ o → Q key
    by None e = subst Q (sym (ap (key_with key.name) e)) (plain key.name)
    by (Some version) e = subst Q (sym (ap (key_with key.name) e)) (versioned key.name version)

-- buckets that say nothing are those of any names
pub named_empty : {P : Type 0} (held : HeldFiles P) (names : List (List ℕ)) (buckets : Buckets) → AreKeyed (key_at held names) buckets → ((key : Key) → definitions_at (key_at held names) buckets key ≡ []) → ((key : Key) → overridden_at (key_at held names) buckets key ≡ None)
    → AreNamed held names buckets
named_empty held names buckets keyed none_listed none_over = record {
  keyed = keyed;
  plain = λ name version. none_over (versioned_key name version);
  known = λ name is. let no : is_some (overridden_at (key_at held names) buckets (plain_key name)) ≡ false = ap (λ (o : Option ℕ). is_some o) (none_over (plain_key name)) in let wrong : false ≡ true = sym no ∙ is in absurd cc;
  listed = λ key. subst (All (λ id. id < length (names_in held))) (sym (none_listed key)) (All-nil (λ id. id < length (names_in held)));
  within = λ name id is. let no : None ≡ Some id = sym (none_over (plain_key name)) ∙ is in absurd cc;
}

-- what the buckets map a key to is what the key is mapped to
pub mapped_told : {P : Type 0} (held : HeldFiles P) (names : List (List ℕ)) (buckets : Buckets) → AreNamed held names buckets → (key : Key) → mapped_at (key_at held names) buckets key ≡ mapped_key (told_by held names buckets) key
mapped_told held names buckets named =
    each_key (λ key. mapped_at (key_at held names) buckets key ≡ mapped_key (told_by held names buckets) key)
    (λ name. ap (option_or (overridden_at (key_at held names) buckets (plain_key name))) (first_is (definitions_at (key_at held names) buckets (plain_key name))))
    (λ name version. ap (λ (o : Option ℕ). option_or o (slice_get (definitions_at (key_at held names) buckets (versioned_key name version)) 0)) (named.plain name version)
    ∙ first_is (definitions_at (key_at held names) buckets (versioned_key name version)))

-- an item of a list of which all pass
all_first : (P : ℕ → Type 0) (ids : List ℕ) (id : ℕ) → All P ids → slice_get ids 0 ≡ Some id → P id
all_first P [] id all is = absurd cc
all_first P (x ∷ ids) id all is = let lt : 0 < length (x ∷ ids) = omega arith in subst P (same_Some x id is) (all 0 x lt)

-- what was overridden or is listed first
either_within : (n : ℕ) (over : Option ℕ) (ids : List ℕ) (id : ℕ) → ((s : ℕ) → over ≡ Some s → s < n) → All (λ i. i < n) ids → option_or over (slice_get ids 0) ≡ Some id → id < n
either_within n None ids id within listed is = all_first (λ i. i < n) ids id listed is
either_within n (Some s) ids id within listed is = within id is

-- what a key is mapped to is a symbol
pub mapped_within : {P : Type 0} (held : HeldFiles P) (names : List (List ℕ)) (buckets : Buckets) → AreNamed held names buckets → (key : Key) (id : ℕ) → mapped_at (key_at held names) buckets key ≡ Some id → id < length (names_in held)
mapped_within held names buckets named =
    each_key (λ key. (id : ℕ) → mapped_at (key_at held names) buckets key ≡ Some id → id < length (names_in held))
    (λ name id is. either_within (length (names_in held)) (overridden_at (key_at held names) buckets (plain_key name)) (definitions_at (key_at held names) buckets (plain_key name)) id (named.within name) (named.listed (plain_key name)) is)
    (λ name version id is. either_within (length (names_in held)) (overridden_at (key_at held names) buckets (versioned_key name version)) (definitions_at (key_at held names) buckets (versioned_key name version)) id
    (λ s over. let no : None ≡ Some s = sym (named.plain name version) ∙ over in absurd cc) (named.listed (versioned_key name version)) is)

-- ids of which each is below a number, behind a loan
pub listed_within : (n : ℕ) (o : Option (Bor (List ℕ))) (ids : List ℕ) → option_map_or (λ d. d.now) o [] ≡ ids → All (λ id. id < n) ids → IfSome o (λ d. All (λ id. id < n) d.now)
listed_within n None ids is all = tt
listed_within n (Some d) ids is all = subst (All (λ id. id < n)) (sym is) all

-- what comes behind the first
pub all_behind : (P : ℕ → Type 0) (id : ℕ) (ids : List ℕ) → All P ids → All P (behind_head id ids)
all_behind P id [] all = all
all_behind P id (x ∷ ids) all = by (x == id)
  where
    by : (b : Bool) → All P (cond b ids [])
    by true = λ k d lt. all (suc k) d (omega arith)
    by false = λ k d lt. absurd (omega arith)

-- what comes behind a symbol among the definitions of its name, with this version or without one
pub later_found : {P : Type 0} (m : Mapped P) (version : Option (List ℕ)) (id : ℕ) (name text found behind : List ℕ) → slice_get (names_in m.files) id ≡ Some name → text ≡ name
    → found ≡ m.lists (record { name = text; version = version }) → behind ≡ behind_head id found → behind ≡ later_with m version id
later_found m version id name text found behind is same listed rest =
    rest ∙ ap (behind_head id) listed ∙ ap (λ (n : List ℕ). behind_head id (m.lists (record { name = n; version = version }))) same ∙ later_named
  where
    later_named : behind_head id (m.lists (record { name = name; version = version })) ≡ later_with m version id
    later_named = rw is refl

-- Plain names that labels lead to, and what they are mapped to.
use Rattle.std.proofs.Common.{◌≡◌, ◌∙◌, ◌<◌, ℕ, cond, List, length, get_or, Option, Some, None, refl, sym, ap, subst}
use Rattle.std.specs.Prelude.{All, AllPairs, Contains, IsSomeAnd, slice_get, is_none}
use Rattle.std.specs.Option.{option_and_then, option_map}
use Rattle.std.proofs.lemmas.List.Elements.{All-weaker}
use Rattle.std.proofs.lemmas.Option.{get_or_from_slice_get, same_Some, slice_get-get_or, slice_get_within}
use Rattle.link_db_buckets.specs.declared.buckets.Buckets.{Buckets}
use Rattle.link_db_buckets.specs.declared.label.Label.{Label}
use Rattle.link_db_buckets.specs.Buckets.{mapped_at}
use Rattle.link_db_buckets.specs.Keys.{Key}
use Rattle.link_db_buckets.proofs.Made.{all_made, made_of, one_made, pairs_made}
use Rattle.link_db_files.specs.HeldFiles.{HeldFiles, names_in}
use Rattle.link_db_mapping.specs.Keys.{plain_key}
use Rattle.link_db_mapping.specs.Mapped.{mapping_of}
use Rattle.link_db_mapping.specs.PlainNames.{plain_name, plain_names}
use Rattle.link_db_mapping.specs.Seen.{told_by}
use Rattle.link_db_mapping.specs.Tables.{AreNamed, key_at}
use Rattle.link_db_mapping.proofs.Listing.{key_with}
use Rattle.link_db_mapping.proofs.Telling.{mapped_told, mapped_within}

-- a label that leads to a plain name leads to its key
plain_there : (names : Label → Option Key) (label : Label) (name : List ℕ) → plain_name names label ≡ Some name → names label ≡ Some (plain_key name)
plain_there names label name e = by (names label) refl e
  where
    of_key : (key : Key) (o : Option (List ℕ)) → key.version ≡ o → cond (is_none o) (Some key.name) None ≡ Some name → key ≡ plain_key name
    of_key key None is e = ap (key_with key.name) is ∙ ap plain_key (same_Some key.name name e)
    of_key key (Some version) is e = absurd cc

    by : (o : Option Key) → names label ≡ o → option_and_then (λ key. cond (is_none key.version) (Some key.name) None) o ≡ Some name → names label ≡ Some (plain_key name)
    by None is e = absurd cc
    by (Some key) is e = is ∙ ap Some (of_key key key.version refl e)

-- a label that leads to the key of a plain name leads to the name
plain_of : (names : Label → Option Key) (label : Label) (name : List ℕ) → names label ≡ Some (plain_key name) → plain_name names label ≡ Some name
plain_of names label name is = ap (option_and_then (λ (key : Key). cond (is_none key.version) (Some key.name) None)) is

-- what holds of each item holds of the one at a place
at_place : {A : Type 0} (P : A → Type 0) (xs : List A) (k : ℕ) (x : A) → All P xs → slice_get xs k ≡ Some x → P x
at_place P xs k x all is = subst P (get_or_from_slice_get xs k x x is) (all k x (slice_get_within xs k x is))

-- each name is mapped to what comes with it
pub names_mapped : {P : Type 0} (held : HeldFiles P) (names : List (List ℕ)) (buckets : Buckets) (labels : List (Label × ℕ)) → AreNamed held names buckets
    → All (λ pair. IsSomeAnd (key_at held names pair.0) (λ key. mapped_at (key_at held names) buckets key ≡ Some pair.1)) labels
    → All (λ pair. mapping_of (told_by held names buckets) pair.0 ≡ Some pair.1) (plain_names (key_at held names) labels)
names_mapped {P} held names buckets labels named mapped =
    let words = key_at held names in
    all_made (λ pair. option_map (λ name. (name, pair.1)) (plain_name words pair.0)) (λ pair. mapping_of (told_by held names buckets) pair.0 ≡ Some pair.1) labels
    (λ k pair found is made.
    let name = made_of (λ name. (name, pair.1)) (plain_name words pair.0) found made in
    let key = plain_there words pair.0 name.0 name.1 in
    let here = at_place (λ (p : Label × ℕ). IsSomeAnd (words p.0) (λ key. mapped_at words buckets key ≡ Some p.1)) labels k pair mapped is in
    let known : mapped_at words buckets (plain_key name.0) ≡ Some pair.1 = subst (λ (o : Option Key). IsSomeAnd o (λ key. mapped_at words buckets key ≡ Some pair.1)) key here in
    subst (λ (p : List ℕ × ℕ). mapping_of (told_by held names buckets) p.0 ≡ Some p.1) name.2 (sym (mapped_told held names buckets named (plain_key name.0)) ∙ known))

-- each name that is mapped to a symbol comes
pub names_complete : {P : Type 0} (held : HeldFiles P) (names : List (List ℕ)) (buckets : Buckets) (labels : List (Label × ℕ)) → AreNamed held names buckets
    → ((key : Key) (id : ℕ) → mapped_at (key_at held names) buckets key ≡ Some id → (label : Label) × (key_at held names label ≡ Some key) × Contains labels (label, id))
    → (name : List ℕ) (id : ℕ) → mapping_of (told_by held names buckets) name ≡ Some id → Contains (plain_names (key_at held names) labels) (name, id)
names_complete {P} held names buckets labels named complete name id mapped =
    let words = key_at held names in
    let there = complete (plain_key name) id (mapped_told held names buckets named (plain_key name) ∙ mapped) in
    let is : slice_get labels there.2.0 ≡ Some (there.0, id) = slice_get-get_or labels there.2.0 (there.0, id) there.2.1 ∙ ap Some there.2.2 in
    one_made (λ pair. option_map (λ n. (n, pair.1)) (plain_name words pair.0)) labels there.2.0 (there.0, id) (name, id) is (ap (option_map (λ n. (n, id))) (plain_of words there.0 name there.1))

-- each name comes once
pub names_once : (words : Label → Option Key) (labels : List (Label × ℕ)) → AllPairs (λ a b. words a.0 ≡ words b.0 → ⊥) labels → AllPairs (λ a b. a.0 ≡ b.0 → ⊥) (plain_names words labels)
names_once words labels once = pairs_made (λ pair. option_map (λ name. (name, pair.1)) (plain_name words pair.0)) (λ a b. a.0 ≡ b.0 → ⊥) labels
    (λ i j a b v w less at_i at_j made_v made_w same.
    let first = made_of (λ name. (name, a.1)) (plain_name words a.0) v made_v in
    let second = made_of (λ name. (name, b.1)) (plain_name words b.0) w made_w in
    let name : first.0 ≡ second.0 = ap (λ (p : List ℕ × ℕ). p.0) first.2 ∙ same ∙ ap (λ (p : List ℕ × ℕ). p.0) (sym second.2) in
    let keys : words a.0 ≡ words b.0 = plain_there words a.0 first.0 first.1 ∙ ap (λ (n : List ℕ). Some (plain_key n)) name ∙ sym (plain_there words b.0 second.0 second.1) in
    let is_a : get_or labels i a ≡ a = get_or_from_slice_get labels i a a at_i in
    let is_b : get_or labels j a ≡ b = get_or_from_slice_get labels j b a at_j in
    once i j a less (slice_get_within labels j b at_j) (ap (λ (p : Label × ℕ). words p.0) is_a ∙ keys ∙ ap (λ (p : Label × ℕ). words p.0) (sym is_b)))

-- names are mapped to symbols
pub names_within : {P : Type 0} (held : HeldFiles P) (names : List (List ℕ)) (buckets : Buckets) (pairs : List (List ℕ × ℕ)) → AreNamed held names buckets
    → All (λ pair. mapping_of (told_by held names buckets) pair.0 ≡ Some pair.1) pairs → All (λ pair. pair.1 < length (names_in held)) pairs
names_within {P} held names buckets pairs named mapped = All-weaker (λ pair. mapping_of (told_by held names buckets) pair.0 ≡ Some pair.1) (λ pair. pair.1 < length (names_in held))
    (λ pair is. mapped_within held names buckets named (plain_key pair.0) pair.1 (mapped_told held names buckets named (plain_key pair.0) ∙ is)) pairs mapped

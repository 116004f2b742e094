-- Keys that are compared, and the labels that lead to them.
use Rattle.std.proofs.Common.{◌≡◌, ◌∙◌, ◌&&◌, ℕ, Bool, true, false, List, Option, Some, None, refl, sym, ap}
use Rattle.std.specs.Option.{option_eq, option_map, option_map_or}
use Rattle.std.specs.Str.{bytes_eq}
use Rattle.std.proofs.lemmas.Slice.Eq.{bytes_eq-Decides}
use Rattle.std.proofs.lemmas.Option.{same_Some}
use Rattle.link_db_buckets.specs.declared.label.Label.{Label}
use Rattle.link_db_buckets.specs.Keys.{Key, same_key, leads_to, have_one_key, number_of, hash_of}

-- both tests hold
pub and-both : (a b : Bool) → (a && b) ≡ true → (a ≡ true) × (b ≡ true)
and-both true true e = (refl, refl)
and-both true false e = absurd cc
and-both false b e = absurd cc

-- versions that pass the test are equal
versions_equal : (a b : Option (List ℕ)) → option_eq bytes_eq a b ≡ true → a ≡ b
versions_equal None None e = refl
versions_equal None (Some y) e = absurd cc
versions_equal (Some x) None e = absurd cc
versions_equal (Some x) (Some y) e = ap Some ((bytes_eq-Decides x y).0 e)

-- a version passes the test with itself
version_itself : (a : Option (List ℕ)) → option_eq bytes_eq a a ≡ true
version_itself None = refl
version_itself (Some x) = (bytes_eq-Decides x x).1 refl

-- the test of keys decides whether they are equal
pub keys_equal : (a b : Key) → same_key a b ≡ true → a ≡ b
keys_equal a b e =
    let both = and-both (bytes_eq a.name b.name) (option_eq bytes_eq a.version b.version) e in
    let name : a.name ≡ b.name = (bytes_eq-Decides a.name b.name).0 both.0 in
    let version : a.version ≡ b.version = versions_equal a.version b.version both.1 in
    let f : List ℕ → Key = λ n. record { name = n; version = a.version } in
    let h : Option (List ℕ) → Key = λ v. record { name = b.name; version = v } in
    ap f name ∙ ap h version

-- a key passes the test with itself
pub key_itself : (a : Key) → same_key a a ≡ true
key_itself a = rw ((bytes_eq-Decides a.name a.name).1 refl, version_itself a.version) refl

-- a label that leads to a key leads to it alone
pub leads_there : (names : Label → Option Key) (label : Label) (key : Key) → leads_to names label key ≡ true → names label ≡ Some key
leads_there names label key e = by (names label) refl e
  where
    by : (o : Option Key) → names label ≡ o → option_map_or (λ own. same_key own key) o false ≡ true → names label ≡ Some key
    by None is e = absurd cc
    by (Some own) is e = is ∙ ap Some (keys_equal own key e)

-- a label leads to a key where its own key is the same
pub leads_from : (names : Label → Option Key) (label : Label) (own asked : Key) → names label ≡ Some own → leads_to names label asked ≡ same_key own asked
leads_from names label own asked is = rw is refl

-- two labels lead to one key where one leads to the key of the other
pub one_key_there : (names : Label → Option Key) (a b : Label) (key : Key) → names b ≡ Some key → have_one_key names a b ≡ leads_to names a key
one_key_there names a b key is = rw is refl

-- a key's hash number is that of each label that leads to it
pub number_there : (names : Label → Option Key) (label : Label) (key : Key) (hash : ℕ) → number_of names label ≡ Some hash → leads_to names label key ≡ true → hash ≡ hash_of key
number_there names label key hash number leads =
    let is = leads_there names label key leads in
    same_Some hash (hash_of key) (sym number ∙ (rw is refl))

-- what a label leads to, where its name has a number
pub key_there : (names : Label → Option Key) (label : Label) (hash : ℕ) → number_of names label ≡ Some hash → (key : Key) × (names label ≡ Some key) × (hash ≡ hash_of key)
key_there names label hash number = by (names label) refl number
  where
    by : (o : Option Key) → names label ≡ o → option_map hash_of o ≡ Some hash → (key : Key) × (names label ≡ Some key) × (hash ≡ hash_of key)
    by None is e = absurd cc
    by (Some key) is e = (key, is, sym (same_Some (hash_of key) hash e))

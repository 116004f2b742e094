-- Lists by names, as a tree keeps them.
use Rattle.std.proofs.Common.{◌≡◌, ◌++◌, ◌&&◌, ◌∙◌, ℕ, Bool, true, false, cond, if◌then◌else◌, List, [], ◌∷◌, Option, Some, unwrap_or, refl, sym, ap, subst}
use Rattle.std.specs.Option.{option_map_or}
use Rattle.std.specs.Ordering.{eq_by_cmp}
use Rattle.std.specs.Str.{bytes_eq}
use Rattle.std.specs.Global.{Vec}
use Rattle.std.specs.Map.{lookup, KeepsOthers}
use Rattle.std.specs.BTreeMap as tree
use Rattle.link_rules.specs.Places.{same_version}
use Rattle.link_check_names.specs.Keys.{Key, KeyRef, has_key, key_for, key_of, same_key}
use Rattle.link_check_names.specs.Lists.{list_at, list_in, listed_in}
use Rattle.link_check_names.proofs.Keying.{by_key, key-is, key_cmp, names-same, other_test, same_test}

-- the items that a look-up found
abbrev pub items_of : Option (Vec ℕ) → List ℕ
items_of found = option_map_or (λ (v : Vec ℕ). v.items) found []

items_at : (test : Bool) (list : Vec ℕ) (found : Option (List ℕ)) (kept : Option (Vec ℕ)) → unwrap_or found [] ≡ items_of kept
    → unwrap_or (cond test (Some list.items) found) [] ≡ items_of (cond test (Some list) kept)
items_at true list found kept e = refl
items_at false list found kept e = e

-- what is listed of a key is what its bytes find in the tree
list_of : (entries : List (KeyRef × Vec ℕ)) (key : Key) → list_at (listed_in entries) key ≡ items_of (lookup (has_key key) entries)
list_of [] key = refl
list_of (e ∷ entries) key =
    items_at (has_key key e.0) e.1 (lookup (same_key key) (listed_in entries)) (lookup (has_key key) entries) (list_of entries key)

-- what the tree finds of a key is listed of it
listed_at : (entries : List (KeyRef × Vec ℕ)) (key : KeyRef) → list_at (listed_in entries) (key_of key) ≡ items_of (lookup (tree.is_at (key_cmp key)) entries)
listed_at entries key = list_of entries (key_of key) ∙ ap items_of (sym (by_key key entries))

-- what the tree finds of the key of a name is listed of the name
pub listed_of : (entries : List (KeyRef × Vec ℕ)) (key : KeyRef) (name : List ℕ) (version : Option (List ℕ)) → key_of key ≡ key_for name version
    → items_of (lookup (tree.is_at (key_cmp key)) entries) ≡ list_in (listed_in entries) name version
listed_of entries key name version is = sym (listed_at entries key) ∙ ap (list_at (listed_in entries)) is

-- one symbol more in the list of a key
pushed_by : (old new : List (KeyRef × Vec ℕ)) (key : KeyRef) (list : Vec ℕ) (id : ℕ) (asked : Key) (same : Bool) → has_key asked key ≡ same
    → KeepsOthers (eq_by_cmp key_cmp) (tree.is_at (key_cmp key)) old new → lookup (tree.is_at (key_cmp key)) new ≡ Some list
    → list.items ≡ items_of (lookup (tree.is_at (key_cmp key)) old) ++ id ∷ []
    → list_at (listed_in new) asked ≡ (if same then list_at (listed_in old) asked ++ id ∷ [] else list_at (listed_in old) asked)
unfolding KeepsOthers
pushed_by old new key list id asked true e keeps here grown =
    subst (λ (k : Key). list_at (listed_in new) k ≡ list_at (listed_in old) k ++ id ∷ []) (sym (key-is asked (key_of key) e))
    (listed_at new key ∙ (ap items_of here ∙ (grown ∙ ap (λ (l : List ℕ). l ++ id ∷ []) (sym (listed_at old key)))))
pushed_by old new key list id asked false e keeps here grown =
    list_of new asked
    ∙ (ap items_of (keeps (has_key asked) (λ x y same. same_test asked x y same) (λ k at. other_test asked key k e at))
    ∙ sym (list_of old asked))

-- one symbol more in the list of a name
pub pushed : (old new : List (KeyRef × Vec ℕ)) (key : KeyRef) (name : List ℕ) (version : Option (List ℕ)) (list : Vec ℕ) (id : ℕ) → key_of key ≡ key_for name version
    → KeepsOthers (eq_by_cmp key_cmp) (tree.is_at (key_cmp key)) old new → lookup (tree.is_at (key_cmp key)) new ≡ Some list
    → list.items ≡ items_of (lookup (tree.is_at (key_cmp key)) old) ++ id ∷ [] → (asked : List ℕ) (asked_version : Option (List ℕ))
    → list_in (listed_in new) asked asked_version
    ≡ (if bytes_eq name asked && same_version version asked_version then list_in (listed_in old) asked asked_version ++ id ∷ [] else list_in (listed_in old) asked asked_version)
pushed old new key name version list id is keeps here grown asked asked_version =
    let of_asked = key_for asked asked_version in
    pushed_by old new key list id of_asked (has_key of_asked key) refl keeps here grown
    ∙ ap (λ (same : Bool). if same then list_at (listed_in old) of_asked ++ id ∷ [] else list_at (listed_in old) of_asked)
    (ap (same_key of_asked) is ∙ names-same asked asked_version name version)

-- What a tree keeps of names with their versions.
use Rattle.std.proofs.Common.{◌≡◌, ◌&&◌, ◌∙◌, ℕ, Bool, true, false, if◌then◌else◌, List, Option, Some, refl, sym, ap}
use Rattle.std.specs.Ordering.{eq_by_cmp}
use Rattle.std.specs.Str.{bytes_eq}
use Rattle.std.specs.Map.{lookup, KeepsOthers}
use Rattle.std.specs.BTreeMap as tree
use Rattle.link_rules.specs.Places.{same_version}
use Rattle.link_check_names.specs.Keys.{Key, KeyRef, has_key, key_for, key_of, same_key}
use Rattle.link_check_names.proofs.Keying.{by_key, key-is, key_cmp, names-same, other_test, same_test}
use Rattle.link_check_undefined.specs.Noted.{Noted, id_at, id_in}

-- what the tree finds of the key of a name is noted of the name
pub noted_of : (key : KeyRef) (entries : Noted) (name : List ℕ) (version : Option (List ℕ)) → key_of key ≡ key_for name version
    → lookup (tree.is_at (key_cmp key)) entries ≡ id_in entries name version
noted_of key entries name version is = by_key key entries ∙ ap (id_at entries) is

noted_by : (old new : Noted) (key : KeyRef) (id : ℕ) (asked : Key) (same : Bool) → has_key asked key ≡ same
    → KeepsOthers (eq_by_cmp key_cmp) (tree.is_at (key_cmp key)) old new → lookup (tree.is_at (key_cmp key)) new ≡ Some id
    → id_at new asked ≡ (if same then Some id else id_at old asked)
unfolding KeepsOthers
noted_by old new key id asked true e keeps here = ap (id_at new) (key-is asked (key_of key) e) ∙ (sym (by_key key new) ∙ here)
noted_by old new key id asked false e keeps here = keeps (has_key asked) (λ x y same. same_test asked x y same) (λ k at. other_test asked key k e at)

-- after an id was noted of a name and version
pub noted : (old new : Noted) (key : KeyRef) (name : List ℕ) (version : Option (List ℕ)) (id : ℕ) → key_of key ≡ key_for name version
    → KeepsOthers (eq_by_cmp key_cmp) (tree.is_at (key_cmp key)) old new → lookup (tree.is_at (key_cmp key)) new ≡ Some id → (asked : List ℕ) (asked_version : Option (List ℕ))
    → id_in new asked asked_version ≡ (if bytes_eq name asked && same_version version asked_version then Some id else id_in old asked asked_version)
noted old new key name version id is keeps here asked asked_version =
    let of_asked = key_for asked asked_version in
    noted_by old new key id of_asked (has_key of_asked key) refl keeps here
    ∙ ap (λ (same : Bool). if same then Some id else id_at old of_asked) (ap (same_key of_asked) is ∙ names-same asked asked_version name version)

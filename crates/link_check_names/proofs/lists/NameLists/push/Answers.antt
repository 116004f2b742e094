use Rattle.std.proofs.Common.{◌≡◌, ◌∙◌, ◌++◌, [], ◌∷◌, ◌&&◌, List, ℕ, Option, ap, sym, refl, subst, if◌then◌else◌}
use Rattle.std.specs.BTreeMap as tree
use Rattle.std.specs.Str.{bytes_eq}
use Rattle.std.specs.Option.{IsSome}
use Rattle.link_check_names.specs.Lists.{Listed, list_in, listed_in}
use Rattle.link_rules.specs.Places.{same_version}
use Rattle.link_check_names.proofs.Keying.{key_cmp, seen}
use Rattle.link_check_names.proofs.Listing.{items_of, pushed}
use Rattle.link_check_names.proofs.lists.NameLists.push.Goals as goal
use Rattle.link_check_names.proofs.lists.NameLists.push.Goals.{in-Some-1, in-None-1}

-- one symbol more is listed of the name
abbrev Adds : Listed → Listed → List ℕ → Option (List ℕ) → ℕ → Type 0
Adds old new name version id = (asked : List ℕ) (asked_version : Option (List ℕ)) → list_in new asked asked_version
    ≡ (if bytes_eq name asked && same_version version asked_version then list_in old asked asked_version ++ id ∷ [] else list_in old asked asked_version)

pub returns-in_ok-push-in-Some : goal.returns-in_ok-push-in-Some
returns-in_ok-push-in-Some c =
    let name = c.args.name.now in
    let version = seen c.args.version in
    let old = c.self.inside.lists.entries in
    let new = (c.get_mut.follows.lender c.push.new.self).entries in
    let updates = (c.get_mut.follows.holds c.push.new.self).3 (subst (λ o. IsSome o) c.in-Some.ensures.value refl) in
    let grown = c.in_ok-push-in-Some.ensures.items ∙ ap (λ o. items_of o ++ c.args.id ∷ []) c.in-Some.ensures.value in
    let added = pushed old new c.name_key-key.result name version c.push.new.self c.args.id c.name_key-key.ensures updates.3 updates.1 grown in
    subst (λ (listed : Listed). Adds listed (listed_in new) name version c.args.id) c.self.view_is added

pub returns-in_ok-insert-in-None : goal.returns-in_ok-insert-in-None
returns-in_ok-insert-in-None c =
    let key = c.name_key-key.result in
    let name = c.args.name.now in
    let version = seen c.args.version in
    let old = c.get_mut.follows.lender-at-none.entries in
    let new = c.insert.new.self.entries in
    let updates = c.in_ok-insert-in-None.ensures.updates in
    let none = c.in-None.ensures.value ∙ ap (λ t. tree.get_by (key_cmp key) t) (sym c.get_mut.follows.holds-at-none) in
    let grown = c.in_ok-list-in-None.ensures.items ∙ ap (λ o. items_of o ++ c.args.id ∷ []) none in
    let added = pushed old new key name version c.in_ok-list-in-None.list c.args.id c.name_key-key.ensures updates.3 updates.1 grown in
    let before = ap (λ t. listed_in t.entries) c.get_mut.follows.holds-at-none ∙ c.self.view_is in
    let all = subst (λ (listed : Listed). Adds listed (listed_in new) name version c.args.id) before added in
    elim c.match-branch-4.branch [
      | in-Some-1 w ↦ subst (λ (listed : Listed). Adds c.args.self.now listed name version c.args.id) (sym w.self-is) all
      | in-None-1 w ↦ subst (λ (listed : Listed). Adds c.args.self.now listed name version c.args.id) (sym w.self-is) all
    ]

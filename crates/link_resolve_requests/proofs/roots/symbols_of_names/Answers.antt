use Rattle.std.proofs.Common.{◌≡◌, ◌+◌, ◌++◌, ◌∷◌, ◌∙◌, ℕ, List, [], Option, None, Some, ap, append-nil, append_assoc, drop, refl, sym}
use Rattle.std.specs.Prelude.{filter_map, option_to_list}
use Rattle.std.specs.List.{cons_option}
use Rattle.link_db.specs.Seen.{seen}
use Rattle.link_db_mapping.specs.Mapped.{mapping_of}
use Rattle.link_db_texts.proofs.Forced.{rest_is}
use Rattle.link_rules.specs.Places.{Bytes}
use Rattle.link_resolve_requests.proofs.roots.symbols_of_names.Goals as goal

-- what is given goes in front of the rest
added : {X : Type 0} (xs : List X) (o : Option X) (rest : List X) → (xs ++ option_to_list o) ++ rest ≡ xs ++ cons_option o rest
added xs None rest = ap (λ ys. ys ++ rest) (append-nil xs)
added xs (Some x) rest = append_assoc xs (x ∷ []) rest

-- one name more
pub loop-name-preserved : goal.loop-name-preserved
loop-name-preserved g c =
    let mapped = mapping_of (seen c.args.db.now).mapping in
    let names = c.args.names.now in
    let i = c.loop-name.name-index in
    let name = c.name-item.result in
    let left = filter_map mapped (drop (i + 1) names) in
    let next : drop i names ≡ name ∷ drop (i + 1) names = rest_is names i name c.loop-name-test.true c.name-item.is in
    let found : c.get_unversioned.result ≡ mapped name = c.get_unversioned.ensures.value ∙ ap (λ (n : Bytes). mapped n) c.as_slice.ensures in
    ap (λ (ids : List ℕ). ids ++ left) c.in_ok-push_given.ensures
    ∙ (added c.loop-name.ids.items c.get_unversioned.result left
    ∙ (ap (λ (o : Option ℕ). c.loop-name.ids.items ++ cons_option o left) found
    ∙ (ap (λ (l : List Bytes). c.loop-name.ids.items ++ filter_map mapped l) (sym next) ∙ c.loop-name.invariant)))

use Rattle.std.proofs.Common.{◌≡◌, ◌+◌, ◌∷◌, drop, map, refl, sym, ap, ◌∙◌, arith}
use Rattle.std.proofs.lemmas.List.{drop_more}
use Rattle.json.specs.Value as tree
use Rattle.serde_json.specs.Data.{no_members, put}
use Rattle.link_manifest_json.specs.Tree.{put_all, view}
use Rattle.link_manifest.specs.Reading.{unknown_key, with_key}
use Rattle.link_manifest.proofs.Keys.{sorted-put, unknown-put}
use Rattle.link_manifest.proofs.reading.unknown_key.Goals as goal

pub loop-member-init : goal.loop-member-init
loop-member-init c = (no_members, tt, refl, refl)

pub loop-member-preserved : goal.loop-member-preserved
loop-member-preserved c =
    let l = c.loop-member in
    let known = map (λ k. k.now) c.args.known.now in
    let xs = c.args.members.now in
    let x = c.member-item.result in
    let found = l.invariant.0 in
    let here : drop l.member-index xs ≡ x ∷ drop (l.member-index + 1) xs = drop_more xs l.member-index x (omega arith) ∙ ap (λ y. y ∷ drop (l.member-index + 1) xs) (sym c.member-item.is) in (
      put x.0.now (view x.1) found,
      sorted-put x.0.now (view x.1) found l.invariant.1,
      c.with_key-least.ensures ∙ ap (with_key known x.0.now) l.invariant.2 ∙ sym (unknown-put known x.0.now (view x.1) found l.invariant.1),
      ap (λ ys. unknown_key known (put_all (tree.members_view ys) found)) (sym here) ∙ l.invariant.3,
    )

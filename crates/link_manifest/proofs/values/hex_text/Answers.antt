use Rattle.std.proofs.Common.{◌≡◌, ◌+◌, ◌∷◌, Bool, true, false, not, codes, drop, refl, sym, ap, ◌∙◌, arith}
use Rattle.std.proofs.lemmas.List.{drop_more}
use Rattle.std.proofs.lemmas.Slice.Eq.{bytes_eq-Decides}
use Rattle.std.specs.Str.{bytes_eq}
use Rattle.json.specs.Value as tree
use Rattle.json.specs.Value.{value_view}
use Rattle.serde_json.specs.Data.{no_members, member, put}
use Rattle.link_manifest_json.specs.Tree.{put_all, view}
use Rattle.link_manifest.specs.Values.{hex_text}
use Rattle.link_manifest.proofs.OneKey.{none-replaced, one-replaced, hex_text-one, no-hex_text}
use Rattle.link_manifest.proofs.values.hex_text.Goals as goal

pub loop-member-init : goal.loop-member-init
loop-member-init c = (no_members, none-replaced, refl, refl)

told : (b c : Bool) → c ≡ not b → b ≡ not c
told true c e = rw e
told false c e = rw e

pub loop-member-preserved : goal.loop-member-preserved
loop-member-preserved c =
    let l = c.loop-member in
    let xs = c.args.members.now in
    let x = c.member-item.result in
    let found = l.invariant.0 in
    let here : drop l.member-index xs ≡ x ∷ drop (l.member-index + 1) xs = drop_more xs l.member-index x (omega arith) ∙ ap (λ y. y ∷ drop (l.member-index + 1) xs) (sym c.member-item.is) in
    let same : x.0.now ≡ codes "hex" = (bytes_eq-Decides x.0.now (codes "hex")).0 (told (bytes_eq x.0.now (codes "hex")) false c.if-ne.ensures) in
    let replaced : put x.0.now (view x.1) found ≡ member (codes "hex") (view x.1) no_members = ap (λ k. put k (view x.1) found) same ∙ l.invariant.1 (view x.1) in
    let step : hex_text (put_all (tree.members_view (drop l.member-index xs)) found) ≡ hex_text (put_all (tree.members_view (drop (l.member-index + 1) xs)) (put x.0.now (view x.1) found)) =
    ap (λ ys. hex_text (put_all (tree.members_view ys) found)) here in (
      member (codes "hex") (view x.1) no_members,
      one-replaced (view x.1),
      c.to_text-text.ensures ∙ sym (hex_text-one (view x.1)),
      ap (λ ms. hex_text (put_all (tree.members_view (drop (l.member-index + 1) xs)) ms)) (sym replaced) ∙ sym step ∙ l.invariant.3,
    )

pub returns-then-ne : goal.returns-then-ne
returns-then-ne c =
    let l = c.loop-member in
    let xs = c.args.members.now in
    let x = c.member-item.result in
    let found = l.invariant.0 in
    let here : drop l.member-index xs ≡ x ∷ drop (l.member-index + 1) xs = drop_more xs l.member-index x (omega arith) ∙ ap (λ y. y ∷ drop (l.member-index + 1) xs) (sym c.member-item.is) in
    let other : bytes_eq x.0.now (codes "hex") ≡ false = told (bytes_eq x.0.now (codes "hex")) true c.if-ne.ensures in
    sym (sym l.invariant.3 ∙ ap (λ ys. hex_text (put_all (tree.members_view ys) found)) here
    ∙ no-hex_text x.0.now (value_view x.1) (tree.members_view (drop (l.member-index + 1) xs)) found other)

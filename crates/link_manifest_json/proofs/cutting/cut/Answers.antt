use Rattle.std.proofs.Common.{rules, ◌∷◌, ◌++◌, map, sym, ap, ◌∙◌}
use Rattle.link_manifest_json.specs.Spans.{followed}
use Rattle.link_manifest_json.proofs.Pushed.{one_more_text}
use Rattle.link_manifest_json.proofs.cutting.cut.Goals as goal

pub items-preserved : goal.items-preserved
items-preserved c =
    let h = c.in-Some.head.now in
    let found = c.items.items.items in
    let piece = c.in-Some-split_at_byte in (
      search rules,
      c.items.invariant.1 ∙ ap (λ l. h ++ (91 ∷ followed (map (λ s. s.now) found) l)) piece.ensures ∙ ap (λ l. h ++ (91 ∷ l)) (one_more_text found piece.item piece.behind.now)
          ∙ ap (λ is. h ++ (91 ∷ followed (map (λ s. s.now) is) piece.behind.now)) (sym c.in_ok-push.ensures.items),
    )

pub returns : goal.returns
returns c =
    let piece = c.in-Some-split_before_byte in
    let h = c.in-Some.head.now in
    (piece.ensures.1.0, piece.ensures.1.1, c.items.invariant.1 ∙ ap (λ l. h ++ (91 ∷ followed (map (λ s. s.now) c.items.items.items) l)) piece.ensures.0)

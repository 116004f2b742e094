use Rattle.std.proofs.Common.{ℕ, ◌++◌, ◌∷◌, [], Vec, Global, ap, refl, sym, ◌∙◌}
use Rattle.std.proofs.lemmas.Option.{slice_get_read}
use Rattle.link_resolve_explanation.proofs.HeadedLists.{row-pushed}
use Rattle.link_resolve_explanation.proofs.gathering.push_to_row.Goals as goal

pub returns : goal.returns
returns c = λ h.
    row-pushed c.args.rows.now c.args.head c.args.number c.index-rows-head.result c.push.new.self c.requires (slice_get_read _ _ c.args.head _ refl c.requires c.index-rows-head.is)
    (c.in_ok-push.ensures.items ∙ ap (λ (row : Vec ℕ Global). row.items ++ c.args.number ∷ []) (sym c.index-rows-head.is)) h

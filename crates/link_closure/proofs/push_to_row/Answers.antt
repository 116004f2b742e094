use Rattle.std.proofs.Common.{ℕ, Vec, Global, ◌++◌, ◌∷◌, [], refl, sym, ap, ◌∙◌}
use Rattle.std.proofs.lemmas.Option.{slice_get_read}
use Rattle.link_closure.proofs.Rows.{Pushed, pushed-old, pushed-new, pushed-only}
use Rattle.link_closure.proofs.push_to_row.Goals as goal

pushed : (c : goal.In_ok-push) → Pushed c.args.rows.now c.args.from c.args.to c.index-rows-from.result c.push.new.self
pushed c = record {
  inside = c.requires;
  at = slice_get_read _ _ c.args.from _ refl c.requires c.index-rows-from.is;
  items = c.in_ok-push.ensures.items ∙ ap (λ (row : Vec ℕ Global). row.items ++ c.args.to ∷ []) (sym c.index-rows-from.is);
}

pub returns-clause-old : goal.returns-clause-old
returns-clause-old c = pushed-old _ _ c.args.to _ _ (pushed c)

pub returns-clause-new : goal.returns-clause-new
returns-clause-new c = pushed-new _ _ c.args.to _ _ (pushed c)

pub returns-clause-only : goal.returns-clause-only
returns-clause-only c = pushed-only _ _ c.args.to _ _ (pushed c)

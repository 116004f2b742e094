use Rattle.std.proofs.Common.{◌++◌, ◌∷◌, ◌∙◌, [], List, get_or, ap, arith}
use Rattle.std.proofs.lemmas.Grind.{common_steps}
use Rattle.link_rules.specs.declared.explanation.FoundRoot.{FoundRoot}
use Rattle.link_resolve_roots.proofs.Noted.{room-more}
use Rattle.link_resolve_roots.proofs.noting.make_lists.Goals as goal

-- one empty list more
pub loop-place-preserved : goal.loop-place-preserved
loop-place-preserved c =
    let lists : List (List FoundRoot) = c.loop-place.others.items in
    record {
      same = λ i. ap (λ (l : List (List FoundRoot)). get_or l i []) (c.in_ok-push.ensures.items ∙ ap (λ (e : List FoundRoot). lists ++ e ∷ []) c.new.ensures)
          ∙ room-more lists i ∙ c.loop-place.invariant.same i;
      each = grind (arith, common_steps);
    }

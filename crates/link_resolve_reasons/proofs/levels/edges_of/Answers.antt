use Rattle.std.proofs.Common.{◌≡◌, ◌++◌, ◌∷◌, [], ◌+◌, ◌∙◌, List, ap, sym, arith, take}
use Rattle.std.specs.Prelude.{option_to_list}
use Rattle.std.proofs.lemmas.Grind.{common_steps}
use Rattle.link_closure.specs.declared.Edge.{Edge}
use Rattle.link_resolve_reasons.specs.Told.{edge_in, edges_in}
use Rattle.link_resolve_reasons.specs.declared.requests.Request.{Request}
use Rattle.link_resolve_reasons.proofs.Lists.{mapped-push}
use Rattle.link_resolve_reasons.proofs.levels.edges_of.Goals as goal

-- one request more
pub loop-request-preserved : goal.loop-request-preserved
loop-request-preserved c =
    let requests : List Request = c.args.requests.now in
    let before : List Request = take c.loop-request.request-index requests in
    let next : take (c.loop-request.request-index + 1) requests ≡ before ++ c.request-item.result ∷ [] = grind (arith, common_steps, c.request-item.is) in
    record {
      edges = c.in_ok-push_edge.ensures.edge
          ∙ ap (λ (es : List Edge). es ++ option_to_list (edge_in c.args.count c.request-item.result)) c.loop-request.invariant.edges
          ∙ sym (mapped-push (edge_in c.args.count) before c.request-item.result) ∙ ap (edges_in c.args.count) (sym next);
      within = c.push_edge.ensures.within c.loop-request.invariant.within;
    }

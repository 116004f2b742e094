use Rattle.std.proofs.Common.{◌≡◌, take}
use Rattle.link_closure.specs.Graph.{AreInRange}
use Rattle.link_resolve_reasons.specs.Told.{edges_in}
use Rattle.link_resolve_reasons.proofs.levels.edges_of.Given as goal

-- the edges of the requests so far
abbrev pub invariant-loop-request : goal.invariant-loop-request
invariant-loop-request l = record {
  edges : l.edges.items ≡ edges_in l.count (take l.request-index l.requests);
  within : AreInRange l.count l.edges.items;
}

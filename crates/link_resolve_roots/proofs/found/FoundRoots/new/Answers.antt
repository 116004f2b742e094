use Rattle.std.proofs.Common.{[], List, get_or, ap}
use Rattle.link_rules.specs.declared.explanation.FoundRoot.{FoundRoot}
use Rattle.link_resolve_roots.proofs.found.FoundRoots.new.Goals as goal

pub returns : goal.returns
returns c = record {
  entries_are = c.new.ensures;
  others_are = λ i. ap (λ (l : List (List FoundRoot)). get_or l i []) c.new-2.ensures.items;
}

use Rattle.std.proofs.Common.{◌++◌, ◌∙◌, List, ap, subst, sym}
use Rattle.std.specs.List.{flat_map}
use Rattle.link_rules.specs.declared.explanation.FoundRoot.{FoundRoot}
use Rattle.link_resolve_roots.specs.Found.{AreFound, Found}
use Rattle.link_resolve_roots.proofs.Joined.{in-order}
use Rattle.link_resolve_roots.proofs.found.FoundRoots.in_order.Goals as goal

pub returns : goal.returns
returns c = λ ws w are few.
    let found : Found = record { entries = c.self.inside.entries; others = c.self.inside.others.items } in
    c.in_ok-append_lists.ensures
    ∙ ap (λ (l : List FoundRoot). l ++ flat_map (λ m. m) found.others) c.into_vec-roots.ensures
    ∙ in-order ws w found (subst (λ (f : Found). AreFound ws f) (sym c.self.view_is) are) few

use Rattle.std.proofs.Common.{[], ◌∷◌, ◌++◌, Ok, sym, subst}
use Rattle.link_manifest_json.specs.Spans.{AreJoined}
use Rattle.link_manifest_json.proofs.Pushed.{one_more_list}
use Rattle.link_manifest_json.proofs.runs.joined.Goals as goal

pub results-preserved : goal.results-preserved
results-preserved g c =
    subst (λ r. AreJoined (c.results.yielded ++ r ∷ []) c.append.new.self.items) (sym c.in-Ok.is)
    (subst (AreJoined (c.results.yielded ++ Ok c.in-Ok.made ∷ [])) (sym c.in_ok-append-in-Ok.ensures.items)
    (one_more_list c.results.yielded c.results.all.items c.in-Ok.made c.results.invariant))

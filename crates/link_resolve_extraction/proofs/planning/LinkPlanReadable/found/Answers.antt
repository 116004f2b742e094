use Rattle.link_resolve_extraction.specs.Items.{symbols_of_item}
use Rattle.link_resolve_extraction.specs.Work.{known_of}
use Rattle.link_resolve_extraction.proofs.Told.{kept-found}
use Rattle.link_resolve_extraction.proofs.planning.LinkPlanReadable.found.Goals as goal

-- what is kept of what was read
pub returns : goal.returns
returns g c = λ it at.
    let plan = c.args.self.now in
    kept-found (known_of plan) (symbols_of_item plan.objects.items it) c.args.read c.into_found.result c.into_found.ensures.requests c.into_found.ensures.references (c.requires it at)

use Rattle.std.proofs.Common.{rules, ◌≡◌, ◌∙◌, ℕ, List, ap, length}
use Rattle.link_resolve_extraction.specs.Work.{known_of}
use Rattle.link_resolve_extraction.proofs.Told.{told-requests}
use Rattle.link_resolve_extraction.proofs.planning.LinkPlanReadable.request_count.Goals as goal

-- as many as were read
pub returns : goal.returns
returns g c = λ it at.
    let plan = c.args.self.now in
    let read = c.args.read.now in
    let count : c.len.result ≡ length read.requests.items = search rules in
    count ∙ ap (λ (l : List ℕ). length l) (told-requests (known_of plan) plan.objects.items plan.items.items c.args._item it read c.requires at)

use Rattle.std.proofs.Common.{rules, ◌≡◌, ◌∙◌, List, ap, length, sym}
use Rattle.std.proofs.lemmas.List.{length-map}
use Rattle.link_closure.specs.declared.workload.Mark.{Mark}
use Rattle.link_resolve_extraction.specs.Asked.{found_mark}
use Rattle.link_resolve_extraction.specs.Work.{known_of}
use Rattle.link_resolve_extraction.proofs.Told.{told-marks}
use Rattle.link_resolve_extraction.proofs.planning.LinkPlanReadable.mark_count.Goals as goal

-- as many as were read
pub returns : goal.returns
returns g c = λ it at.
    let plan = c.args.self.now in
    let read = c.args.read.now in
    let count : c.len.result ≡ length read.references.items = search rules in
    count ∙ (sym (length-map read.references.items found_mark) ∙ ap (λ (l : List Mark). length l) (told-marks (known_of plan) plan.objects.items plan.items.items c.args._item it read.references.items (λ z there. (c.requires z there).marks) at))

use Rattle.std.proofs.Common.{◌≡◌, ◌∙◌, List, None, Some, ap, length, refl, slice_get, sym}
use Rattle.std.specs.Prelude.{option_map}
use Rattle.std.proofs.lemmas.Option.{slice_get-map, slice_get_past, slice_get_read}
use Rattle.link_closure.specs.declared.workload.Mark.{Mark}
use Rattle.link_claim_pool.specs.Marks.{mark_of_pair}
use Rattle.link_resolve_extraction.specs.declared.found.FoundReference.{FoundReference}
use Rattle.link_resolve_extraction.specs.Asked.{found_mark}
use Rattle.link_resolve_extraction.specs.Work.{known_of}
use Rattle.link_resolve_extraction.proofs.Told.{told-marks}
use Rattle.link_resolve_extraction.proofs.planning.LinkPlanReadable.mark_at.Goals as goal

-- nothing stands there
pub returns-in_err-reference : goal.returns-in_err-reference
returns-in_err-reference g c = λ it at.
    let plan = c.args.self.now in
    let read = c.args.read.now in
    let slice = c.deref.result.now in
    let none : slice_get read.references.items c.args.index ≡ None =
    ap (λ (l : List FoundReference). slice_get l c.args.index) (sym c.deref.ensures.value) ∙ slice_get_past slice c.args.index c.in_err-reference.ensures.lookup.3 in
    ap (option_map mark_of_pair) c.from_residual.ensures
    ∙ (sym (slice_get-map found_mark read.references.items c.args.index ∙ ap (option_map found_mark) none)
    ∙ ap (λ (l : List Mark). slice_get l c.args.index) (told-marks (known_of plan) plan.objects.items plan.items.items c.args._item it read.references.items (λ z there. (c.requires z there).marks) at))

-- the mark of the reference that stands there
pub returns : goal.returns
returns g c = λ it at.
    let plan = c.args.self.now in
    let read = c.args.read.now in
    let slice = c.deref.result.now in
    let r = c.in_ok-reference.reference.now in
    let look = c.in_ok-reference.ensures.lookup in
    let there : slice_get read.references.items c.args.index ≡ Some r =
    ap (λ (l : List FoundReference). slice_get l c.args.index) (sym c.deref.ensures.value) ∙ slice_get_read slice (length slice) c.args.index r refl look.3.0 look.1 in
    sym (slice_get-map found_mark read.references.items c.args.index ∙ ap (option_map found_mark) there)
    ∙ ap (λ (l : List Mark). slice_get l c.args.index) (told-marks (known_of plan) plan.objects.items plan.items.items c.args._item it read.references.items (λ z there. (c.requires z there).marks) at)

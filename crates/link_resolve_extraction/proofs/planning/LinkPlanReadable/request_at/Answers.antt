use Rattle.std.proofs.Common.{◌≡◌, ◌∙◌, ℕ, List, None, Some, ap, length, refl, slice_get, sym}
use Rattle.std.proofs.lemmas.Option.{slice_get_past, slice_get_read}
use Rattle.link_resolve_extraction.specs.Work.{known_of}
use Rattle.link_resolve_extraction.proofs.Told.{told-requests}
use Rattle.link_resolve_extraction.proofs.planning.LinkPlanReadable.request_at.Goals as goal

-- nothing stands there
pub returns-in_err-object : goal.returns-in_err-object
returns-in_err-object g c = λ it at.
    let plan = c.args.self.now in
    let read = c.args.read.now in
    let slice = c.deref.result.now in
    let none : slice_get read.requests.items c.args.index ≡ None =
    ap (λ (l : List ℕ). slice_get l c.args.index) (sym c.deref.ensures.value) ∙ slice_get_past slice c.args.index c.in_err-object.ensures.lookup.3 in
    c.from_residual.ensures ∙ (sym none ∙ ap (λ (l : List ℕ). slice_get l c.args.index) (told-requests (known_of plan) plan.objects.items plan.items.items c.args._item it read c.requires at))

-- the object that stands there
pub returns : goal.returns
returns g c = λ it at.
    let plan = c.args.self.now in
    let read = c.args.read.now in
    let slice = c.deref.result.now in
    let object = c.in_ok-object.object.now in
    let look = c.in_ok-object.ensures.lookup in
    let there : slice_get read.requests.items c.args.index ≡ Some object =
    ap (λ (l : List ℕ). slice_get l c.args.index) (sym c.deref.ensures.value) ∙ slice_get_read slice (length slice) c.args.index object refl look.3.0 look.1 in
    sym there ∙ ap (λ (l : List ℕ). slice_get l c.args.index) (told-requests (known_of plan) plan.objects.items plan.items.items c.args._item it read c.requires at)

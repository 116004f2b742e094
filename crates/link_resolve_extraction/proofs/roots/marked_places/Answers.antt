use Rattle.std.proofs.Common.{◌∙◌, ap}
use Rattle.link_closure.specs.Closure.{is_marked}
use Rattle.link_resolve_extraction.proofs.Rooted.{place-more, place-passed}
use Rattle.link_resolve_extraction.proofs.roots.marked_places.Goals.{then-marks-place+in_ok-push, else-marks-place}
use Rattle.link_resolve_extraction.proofs.roots.marked_places.Goals as goal

-- one place more, marked or not
pub loop-place-preserved : goal.loop-place-preserved
loop-place-preserved g =
    elim g.if-marks-place.branch [
      | then-marks-place+in_ok-push w ↦
          ap (λ v. v.items) w.places-is ∙ (w.in_ok-push.ensures.items ∙ place-more (is_marked g.args.marks.now) g.loop-place.place g.loop-place.places.items g.loop-place.invariant w.if-marks-place.true)
      | else-marks-place w ↦
          ap (λ v. v.items) w.places-is ∙ place-passed (is_marked g.args.marks.now) g.loop-place.place g.loop-place.places.items g.loop-place.invariant w.if-marks-place.false
    ]

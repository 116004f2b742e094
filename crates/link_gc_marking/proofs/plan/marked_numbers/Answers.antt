use Rattle.std.proofs.Common.{◌∙◌, ap}
use Rattle.link_closure.specs.Closure.{is_marked}
use Rattle.link_gc_marking.proofs.Members.{number-more, number-passed}
use Rattle.link_gc_marking.proofs.plan.marked_numbers.Goals.{then-marks-number+in_ok-push, else-marks-number}
use Rattle.link_gc_marking.proofs.plan.marked_numbers.Goals as goal

-- one number more, marked or not
pub loop-number-preserved : goal.loop-number-preserved
loop-number-preserved g =
    elim g.if-marks-number.branch [
      | then-marks-number+in_ok-push w ↦
          ap (λ v. v.items) w.numbers-is
          ∙ (w.in_ok-push.ensures.items ∙ number-more (is_marked g.args.marks.now) g.loop-number.number g.loop-number.numbers.items g.loop-number.invariant w.if-marks-number.true)
      | else-marks-number w ↦
          ap (λ v. v.items) w.numbers-is ∙ number-passed (is_marked g.args.marks.now) g.loop-number.number g.loop-number.numbers.items g.loop-number.invariant w.if-marks-number.false
    ]

use Rattle.std.proofs.Common.{◌∙◌, sym}
use Rattle.std.specs.Prelude.{◌==◌, not}
use Rattle.link_resolve_rivals.proofs.Entries.{is_rival, none-by-first, none-by-second, strong-step}
use Rattle.link_resolve_rivals.proofs.survivors.Survivors.strong_beside.Goals as goal
use Rattle.link_resolve_rivals.proofs.survivors.Survivors.strong_beside.Goals.{else-is_strong-via-then-is_strong+else-ne, else-is_strong-via-else-is_strong}

pub loop-entry-preserved : goal.loop-entry-preserved
loop-entry-preserved c = λ selection tells.
    let x = c.entry-item.result in
    let first = c.args.first in
    let step = strong-step selection (λ s. not (s == first)) c.args.entries.now c.loop-entry.entry-index x c.loop-entry-test.true c.entry-item.is in
    elim c.else-is_strong.branch [
      | else-is_strong-via-then-is_strong+else-ne w ↦
          sym (step (none-by-second (is_rival selection x) (not (x == first)) (sym w.ne.ensures ∙ w.if-ne.false))) ∙ c.loop-entry.invariant selection tells
      | else-is_strong-via-else-is_strong w ↦
          sym (step (none-by-first (is_rival selection x) (not (x == first)) (sym (c.is_strong.ensures selection tells) ∙ w.if-is_strong.false))) ∙ c.loop-entry.invariant selection tells
    ]

use Rattle.std.proofs.Common.{◌≡◌, ◌∙◌, ◌-◌, arith, length, take, drop, take-add}
use Rattle.std.proofs.lemmas.Grind.{common_steps}
use Rattle.link_program_streams.proofs.Flow.{takes-more}
use Rattle.link_program_streams.proofs.whole.write_all.Goals as goal

pub loop-written-preserved : goal.loop-written-preserved
loop-written-preserved g c =
    let text = c.args.bytes.now in
    let rest : take (length text - c.loop-written.written) (drop c.loop-written.written text) ≡ drop c.loop-written.written text = grind (arith, common_steps) in
    let piece = rw rest at c.in_ok-written.ensures.taken in
    record {
      within = grind (arith, common_steps);
      taken = rw take-add (takes-more _ (g.K.Sink.taken c.loop-written.sink) _ _ _ c.loop-written.invariant.taken piece);
      faults = let before = c.loop-written.invariant.faults in let here = c.in_ok-written.ensures.never_falls in omega (arith, before, here);
      refusals = c.in_ok-written.ensures.answered ∙ c.loop-written.invariant.refusals;
    }

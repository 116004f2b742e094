use Rattle.std.proofs.Common.{arith}
use Rattle.std.proofs.lemmas.Grind.{common_steps}
use Rattle.link_program_streams.specs.Streams.{GivesPart}
use Rattle.link_program_streams.proofs.Flow.{gives-more, gives-at_most, gives-count, on_err}
use Rattle.link_program_streams.proofs.whole.read_all.Goals as goal

pub returns-then-count-room-clause-part : goal.returns-then-count-room-clause-part
returns-then-count-room-clause-part g c = (_, gives-more _ (g.S.Source.left c.loop-bytes.source) _ _ _ c.loop-bytes.invariant.given c.in_ok-count.ensures.given)

pub returns-then-count-room-clause-no_further : goal.returns-then-count-room-clause-no_further
returns-then-count-room-clause-no_further g c =
    gives-at_most _ (g.S.Source.left c.loop-bytes.source) _ _ _ _ c.loop-bytes.invariant.given c.in_ok-count.ensures.given (grind (arith, common_steps))

pub returns-then-count-room-clause-over : goal.returns-then-count-room-clause-over
returns-then-count-room-clause-over g c = λ _.
    gives-count _ (g.S.Source.left c.loop-bytes.source) _ _ _ _ c.loop-bytes.invariant.given c.in_ok-count.ensures.given (grind (arith, common_steps))

pub returns-in_err-extend_from_slice-clause-part :
    goal.returns-in_err-extend_from_slice-clause-part
returns-in_err-extend_from_slice-clause-part g c =
    let part : GivesPart (g.S.Source.left c.args.source.now) (g.S.Source.left c.read.new.self) =
    (_, gives-more _ (g.S.Source.left c.loop-bytes.source) _ _ _ c.loop-bytes.invariant.given c.in_ok-count.ensures.given) in
    on_err _ part

pub returns-in_err-extend_from_slice-clause-no_further :
    goal.returns-in_err-extend_from_slice-clause-no_further
returns-in_err-extend_from_slice-clause-no_further g c =
    gives-at_most _ (g.S.Source.left c.loop-bytes.source) _ _ _ _ c.loop-bytes.invariant.given c.in_ok-count.ensures.given (grind (arith, common_steps))

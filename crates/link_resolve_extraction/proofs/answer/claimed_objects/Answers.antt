use Rattle.std.proofs.Common.{◌≡◌, ◌∙◌, ◌+◌, false, ap, arith, map, sym}
use Rattle.std.specs.List.{range_with_len}
use Rattle.std.proofs.lemmas.Grind.{common_steps}
use Rattle.std.proofs.lemmas.List.FromFn.{map-range_with_len_more}
use Rattle.link_claim.specs.Seats.{claimed_in}
use Rattle.link_closure.specs.Closure.{is_marked}
use Rattle.link_resolve_extraction.proofs.AnswerWritten.{by-place}
use Rattle.link_resolve_extraction.proofs.answer.claimed_objects.Goals as goal

pub loop-object-preserved : goal.loop-object-preserved
loop-object-preserved c =
    let place = c.loop-object.object in
    let same : 0 + place ≡ place = omega arith in
    grind (arith, common_steps, map-range_with_len_more (is_marked (claimed_in c.args.closed.now)) 0 place place same)

pub returns-clause-claimed : goal.returns-clause-claimed
returns-clause-claimed c = λ settled.
    let done : c.loop-object.object ≡ c.args.objects = omega arith in
    c.loop-object.invariant ∙ (ap (λ n. map (is_marked (claimed_in c.args.closed.now)) (range_with_len 0 n)) done
    ∙ by-place false (claimed_in c.args.closed.now) c.args.objects (settled.least.each ∙ sym c.requires))

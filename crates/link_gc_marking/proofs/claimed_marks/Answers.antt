use Rattle.std.proofs.Common.{◌≡◌, ◌∙◌, ◌+◌, false, ap, arith, map, sym}
use Rattle.std.specs.List.{range_with_len}
use Rattle.std.proofs.lemmas.Grind.{common_steps}
use Rattle.std.proofs.lemmas.List.FromFn.{map-range_with_len_more}
use Rattle.link_claim.specs.Seats.{claimed_in}
use Rattle.link_closure.specs.Closure.{is_marked}
use Rattle.link_gc_marking.proofs.Members.{by-place}
use Rattle.link_gc_marking.proofs.claimed_marks.Goals as goal

pub loop-file-preserved : goal.loop-file-preserved
loop-file-preserved c =
    let file = c.loop-file.file in
    let same : 0 + file ≡ file = omega arith in
    grind (arith, common_steps, map-range_with_len_more (is_marked (claimed_in c.args.closed.now)) 0 file file same)

pub returns : goal.returns
returns c = λ settled.
    let done : c.loop-file.file ≡ c.args.files = omega arith in
    c.loop-file.invariant ∙ (ap (λ n. map (is_marked (claimed_in c.args.closed.now)) (range_with_len 0 n)) done
    ∙ by-place false (claimed_in c.args.closed.now) c.args.files (settled.least.each ∙ sym c.requires))

use Rattle.std.proofs.Common.{rules, ◌≡◌, ◌+◌, ◌-◌, drop, get_or, Some, slice_get, arith}
use Rattle.std.proofs.lemmas.Option.{slice_get-get_or}
use Rattle.link_input.specs.Limits.{total}
use Rattle.link_input_groups.proofs.GroupEnds.{sections-end}
use Rattle.link_input_groups.proofs.counting.sections_end.Goals as goal

pub returns-then-not-is_empty : goal.returns-then-not-is_empty
returns-then-not-is_empty g c =
    let objects = c.args.objects.now in
    let k = c.loop-left.left - 1 in
    let o = get_or objects k c.index-objects-left.result in
    let at : slice_get objects k ≡ Some o = slice_get-get_or objects k c.index-objects-left.result (omega arith) in
    let some : o.section_id_range.len ≡ 0 → ⊥ = search rules in
    let next : k + 1 ≡ c.loop-left.left = omega arith in
    let none : total (λ o. o.section_id_range.len) (drop (k + 1) objects) ≡ 0 = rw next c.loop-left.invariant.none in
    let follow = c.requires.follow in
    omega (arith, sections-end follow.0 c.args.first objects follow.1 follow.2 k o at some none)

use Rattle.std.proofs.Common.{◌≡◌, ◌∙◌, rules, sym}
use Rattle.std.proofs.lemmas.List.{take_more_same}
use Rattle.std.proofs.lemmas.Option.{get_or_from_slice_get, slice_get_within}
use Rattle.link_input.proofs.object_parts.SymbolColumnsPart.same.Goals as goal

pub loop-place-preserved : goal.loop-place-preserved
loop-place-preserved c =
    let i = c.loop-place.place in
    let row = c.new.result in
    let other = c.new-in-loop-place.result in
    let same : row ≡ other = search rules in
    take_more_same c.args.self.now c.args.other.now i row
    (slice_get_within c.args.self.now i row c.new.ensures) (slice_get_within c.args.other.now i other c.new-in-loop-place.ensures) c.loop-place.invariant
    (get_or_from_slice_get c.args.self.now i row row c.new.ensures ∙ same ∙ sym (get_or_from_slice_get c.args.other.now i other row c.new-in-loop-place.ensures))

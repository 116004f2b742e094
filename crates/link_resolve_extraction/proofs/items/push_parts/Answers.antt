use Rattle.std.proofs.Common.{◌∷◌, [], arith, map}
use Rattle.std.specs.List.{range_with_len}
use Rattle.std.proofs.lemmas.List.{append_assoc}
use Rattle.std.proofs.lemmas.List.FromFn.{map-range_with_len_more}
use Rattle.link_resolve_extraction.specs.Items.{part_at}
use Rattle.link_resolve_extraction.proofs.items.push_parts.Goals as goal

-- one part more
pub loop-part-preserved : goal.loop-part-preserved
loop-part-preserved c =
    let f = c.args.object in
    let k = c.loop-part.part in
    let more = map-range_with_len_more (part_at f) 0 k k (omega arith) in
    rw (c.in_ok-push.ensures.items, c.loop-part.invariant, more) (append_assoc c.args.items.now.items (map (part_at f) (range_with_len 0 k)) (part_at f k ∷ []))

use Rattle.std.proofs.Common.{◌<◌, ◌∙◌, arith, slice_index, sym}
use Rattle.std.proofs.lemmas.List.FromFn.{get_or-map-range_with_len, length-map-range_with_len}
use Rattle.link_flags.specs.FlagWords.{numbers_of, words_of}
use Rattle.link_resolve_extraction.proofs.planning.LinkPlanPlan.opening.Goals as goal

-- they are those of its word
pub returns : goal.returns
returns g c = λ below.
    let plan = c.args.self.now in
    let numbers = numbers_of (words_of plan.flags.now) in
    let s = c.args.symbol in
    let inside : s < plan.symbols = omega (arith, below, length-map-range_with_len (slice_index numbers) 0 plan.symbols) in
    c.opening_flags.ensures ∙ sym (get_or-map-range_with_len (slice_index numbers) 0 plan.symbols s s 0 inside (omega arith))

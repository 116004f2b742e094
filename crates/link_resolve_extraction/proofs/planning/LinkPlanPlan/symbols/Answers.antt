use Rattle.std.proofs.Common.{slice_index, sym}
use Rattle.std.proofs.lemmas.List.FromFn.{length-map-range_with_len}
use Rattle.link_flags.specs.FlagWords.{numbers_of, words_of}
use Rattle.link_resolve_extraction.proofs.planning.LinkPlanPlan.symbols.Goals as goal

-- each has flags
pub returns : goal.returns
returns g c =
    let plan = c.args.self.now in
    sym (length-map-range_with_len (slice_index (numbers_of (words_of plan.flags.now))) 0 plan.symbols)

use Rattle.std.proofs.Common.{rules, ◌∙◌, ap, sym, inl}
use Rattle.std.specs.Prelude.{option_map}
use Rattle.link_input.specs.InputFiles.{batch_of}
use Rattle.link_input.specs.Limits.{AreWithinLimits, first_excess}
use Rattle.link_input_groups.specs.FileCounts.{counts_with, too_many}
use Rattle.link_input_groups.proofs.Following.{asked-held, counts-follow, ids-held, room-held, small-held}
use Rattle.link_input_groups.proofs.grouping.create_groups.Goals as goal

pub counts_before-before-requires-clause-asked : goal.counts_before-before-requires-clause-asked
counts_before-before-requires-clause-asked g c = asked-held c.args.options.now c.requires.held.0 c.args.held.now c.requires.held.1

pub counts_before-before-requires-clause-ids : goal.counts_before-before-requires-clause-ids
counts_before-before-requires-clause-ids g c = ids-held c.args.options.now c.requires.held.0 c.args.held.now c.requires.held.1

pub counts_before-before-requires-clause-small : goal.counts_before-before-requires-clause-small
counts_before-before-requires-clause-small g c = small-held c.args.options.now c.requires.held.0 c.args.held.now c.requires.held.1

pub returns-in-Some-clause-refused : goal.returns-in-Some-clause-refused
returns-in-Some-clause-refused g c = λ batches are.
    let counts = counts-follow c.args.options.now batches (batch_of c.args.inputs) c.args.held.now c.counts_before-before.result are c.counts_before-before.ensures.value in
    inl (ap (λ k. option_map too_many (first_excess k)) (sym counts) ∙ sym c.first_excess.ensures.first ∙ c.in-Some.is)

pub groups_within_limits-requires-clause-room : goal.groups_within_limits-requires-clause-room
groups_within_limits-requires-clause-room g c =
    let within : AreWithinLimits (counts_with c.args.options.now c.counts_before-before.result (batch_of c.args.inputs)) = search rules in
    room-held c.args.options.now c.requires.held.0 (batch_of c.args.inputs) c.args.held.now c.counts_before-before.result c.requires.held.1 c.requires.held.2 c.counts_before-before.ensures.value within

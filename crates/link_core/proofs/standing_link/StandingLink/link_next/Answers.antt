use Rattle.std.proofs.Common.{◌∙◌, ◌++◌, [], ◌∷◌, ap, refl}
use Rattle.link_flags.specs.FlagWords.{words_of}
use Rattle.link_input.specs.InputFiles.{batch_of}
use Rattle.link_db_texts.specs.Holds.{platform_of}
use Rattle.link_db.specs.Seen.{seen}
use Rattle.link_core.specs.declared.batch_size.BatchSize.{BatchSize}
use Rattle.link_core.specs.Standing.{came_to}
use Rattle.link_core.proofs.Passing.{refused-through}
use Rattle.link_core.proofs.Standing.{refused-next, stands-next}
use Rattle.link_core.proofs.standing_link.StandingLink.link_next.Goals as goal

-- the batch is the cause
pub returns-in_err-link_batch-clause-refused : goal.returns-in_err-link_batch-clause-refused
returns-in_err-link_batch-clause-refused g c =
    let standing = c.args.self.now in
    let e = c.in_err-link_batch.field-0.0 in
    refused-through c.from_residual.result _ e c.from_residual.ensures.1
    (refused-next (platform_of g.P.Platform) (g.D.Demangler.demangled c.args.demangler.now) standing.texts (seen standing.link.db).options (came_to standing) (batch_of c.args.inputs)
    (seen standing.link.db) (words_of standing.link.flags) standing.link.resolver e c.requires.standing.came c.in_err-link_batch.ensures.refused)

-- one batch more came
pub returns : goal.returns
returns g c =
    let standing = c.args.self.now in
    let e = c.in_ok-link_batch.ensures in
    let one = c.in_ok-note_size.ensures ∙ ap (λ (n : BatchSize). standing.sizes.items ++ n ∷ []) c.of-size.ensures in
    let next = stands-next (platform_of g.P.Platform) (g.D.Demangler.demangled c.args.demangler.now) standing.texts standing.sizes.items c.note_size.new.sizes.items (batch_of c.args.inputs)
    (seen standing.link.db) (seen c.link_batch.new.link.db) (words_of standing.link.flags) (words_of c.link_batch.new.link.flags) standing.link.resolver c.link_batch.new.link.resolver standing.found c.note_batch.new.self one c.requires.standing
    e.room e.steady e.groups e.loaded (c.in_ok-note_batch.ensures (g.D.Demangler.demangled c.args.demangler.now)) in
    record { standing = next.standing; batches = next.batches; options = next.options; texts = refl; selects = next.selects; refused = tt }

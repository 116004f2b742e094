use Rattle.std.proofs.Common.{◌≡◌, ◌-◌, ◌∙◌, Option, ap, arith, sym}
use Rattle.std.specs.Prelude.{slice_get}
use Rattle.std.specs.Option.{option_and_then}
use Rattle.link_ids.specs.Span.{offset_in}
use Rattle.link_input.specs.InputFiles.{prelude}
use Rattle.link_input.specs.Symbols.{Symbol}
use Rattle.link_input_groups.specs.SequencedInputs.{sequenced_file}
use Rattle.link_db_files.specs.Origins.{definition_in}
use Rattle.link_db_files.proofs.Entries.{definition-asked, no-definition}
use Rattle.link_db_files.proofs.files.Files.prelude_symbol_def.Goals as goal

pub returns-in-Prelude : goal.returns-in-Prelude
returns-in-Prelude g c =
    let is = c.in-Prelude.ensures.within in
    let at : c.args.id ≡ c.args.id - 0 = omega arith in
    sym (c.symbol_def.ensures)
    ∙ (ap (slice_get c.in-Prelude.prelude.now) at
    ∙ sym (ap (λ (o : Option Symbol). option_and_then (λ (x : Symbol). definition_in x.origin) o) is.same ∙ definition-asked is.before (prelude c.in-Prelude.prelude.now) (c.args.id - 0)))

pub returns-in_default : goal.returns-in_default
returns-in_default g c =
    let f = sequenced_file c.file_of.result in
    let j = offset_in f.symbols c.args.id in
    no-definition c.file_of.result j c.in_default.not-Prelude
    ∙ sym (ap (λ (o : Option Symbol). option_and_then (λ (x : Symbol). definition_in x.origin) o) c.file_of.ensures.within.same ∙ definition-asked c.file_of.ensures.within.before f.file j)

use Rattle.std.proofs.Common.{◌∙◌, Option, ap, sym}
use Rattle.std.specs.Option.{option_and_then}
use Rattle.link_ids.specs.Span.{offset_in}
use Rattle.link_input.specs.Symbols.{Symbol, entry_in}
use Rattle.link_input_groups.specs.SequencedInputs.{sequenced_file}
use Rattle.link_db_files.proofs.Entries.{entry-asked, no-entry}
use Rattle.link_db_files.proofs.files.Files.symbol_row.Goals as goal

pub returns-in_default : goal.returns-in_default
returns-in_default g c =
    let f = sequenced_file c.file_of.result in
    let j = offset_in f.symbols c.args.id in
    no-entry c.file_of.result j c.in_default.not-Object
    ∙ sym (ap (λ (o : Option Symbol). option_and_then (λ (x : Symbol). entry_in x.origin) o) c.file_of.ensures.within.same ∙ entry-asked c.file_of.ensures.within.before f.file j)

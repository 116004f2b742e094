use Rattle.std.proofs.Common.{◌∙◌, ap, refl, sym, Option}
use Rattle.std.specs.Option.{option_and_then}
use Rattle.link_ids.specs.Span.{offset_in}
use Rattle.link_input.specs.Symbols.{Symbol}
use Rattle.link_input_groups.specs.SequencedInputs.{sequenced_file}
use Rattle.link_db_files.proofs.Numbers.{same-asked}
use Rattle.link_db_files.proofs.files.Files.symbol_version.Goals as goal

pub returns : goal.returns
returns g c =
    let f = sequenced_file c.file_of.result in
    let version = λ (o : Option Symbol). option_and_then (λ (x : Symbol). x.version) o in
    c.symbol_version_debug.ensures
    ∙ sym (ap version c.file_of.ensures.within.same ∙ same-asked version (λ m o e. refl) c.file_of.ensures.within.before f.file (offset_in f.symbols c.args.id))

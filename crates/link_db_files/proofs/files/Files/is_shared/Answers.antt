use Rattle.std.proofs.Common.{◌∙◌, ap, sym, arith, false, Option}
use Rattle.std.specs.Option.{option_map_or}
use Rattle.link_ids.specs.Span.{offset_in}
use Rattle.link_input.specs.Symbols.{Symbol, is_shared}
use Rattle.link_input_groups.specs.SequencedInputs.{sequenced_file}
use Rattle.link_db_files.proofs.Numbers.{shared-asked}
use Rattle.link_db_files.proofs.files.Files.is_shared.Goals as goal

pub returns : goal.returns
returns g c =
    let f = sequenced_file c.file_of.result in
    let is = c.file_of.ensures.within in
    c.is_dynamic.ensures ∙ (shared-asked is.before f.file f.symbols.len (offset_in f.symbols c.args.id) is.ids (omega (arith, is.inside.0, is.inside.1))
    ∙ ap (λ (o : Option Symbol). option_map_or (λ (x : Symbol). is_shared x.origin) o false) (sym is.same))

use Rattle.std.proofs.Common.{◌∙◌, ap, refl, sym, Option}
use Rattle.std.specs.Option.{option_map_or}
use Rattle.link_flags.specs.declared.strength.SymbolStrength.TheVariants.{Undefined}
use Rattle.link_ids.specs.Span.{offset_in}
use Rattle.link_input.specs.Symbols.{Symbol, binding_strength}
use Rattle.link_input_groups.specs.SequencedInputs.{sequenced_file}
use Rattle.link_db_files.proofs.Numbers.{same-asked, strength-asked}
use Rattle.link_db_files.proofs.files.Files.symbol_strength.Goals as goal

pub returns : goal.returns
returns g c =
    let f = sequenced_file c.file_of.result in
    let j = offset_in f.symbols c.args.id in
    let strength = λ (o : Option Symbol). option_map_or (λ (x : Symbol). binding_strength x.origin) o Undefined in
    strength-asked f.file j c.input_symbol_strength.result c.input_symbol_strength.ensures
    ∙ sym (ap strength c.file_of.ensures.within.same ∙ same-asked strength (λ m o e. refl) c.file_of.ensures.within.before f.file j)

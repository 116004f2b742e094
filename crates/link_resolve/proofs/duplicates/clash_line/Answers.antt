use Rattle.std.proofs.Common.{◌≡◌, ◌∙◌, [], ap, List}
use Rattle.std.specs.Prelude.{slice_get}
use Rattle.std.specs.Option.{option_map_or}
use Rattle.link_db_files.specs.GroupFiles.{symbols_in}
use Rattle.link_input.specs.Symbols.{Symbol}
use Rattle.link_resolve_rivals.specs.Settled.{name_at}
use Rattle.link_db.specs.Seen.{seen}
use Rattle.link_resolve.proofs.Lines.{line-is, symbol-named}
use Rattle.link_resolve.proofs.duplicates.clash_line.Goals as goal

pub returns : goal.returns
returns g c = λ w symbols names places.
    let files = (seen c.args.db.now).mapping.files in
    let head = c.args.clash.now.head in
    let named : name_at w head ≡ c.symbol_name-name.result =
    ap (λ (xs : List Symbol). option_map_or (λ x. x.name) (slice_get xs head) []) symbols
    ∙ symbol-named (symbols_in files.groups) files.added head c.symbol_name-name.result c.requires.listed.added c.symbol_name-name.ensures in
    line-is w c.args.clash.now c.symbol_name-name.result c.file_name-first.result c.file_name-second.result c.in_ok-line.line c.in_ok-line.ensures named
    (c.file_name-first.ensures w names places) (c.file_name-second.ensures w names places)

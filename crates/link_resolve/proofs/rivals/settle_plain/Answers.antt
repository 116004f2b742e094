use Rattle.std.proofs.Common.{◌∙◌, List, ap, map, subst, sym}
use Rattle.link_db_files.specs.GroupFiles.{symbols_in}
use Rattle.link_input.specs.Symbols.{Symbol}
use Rattle.link_db_texts.specs.Holds.{platform_of}
use Rattle.link_resolve_rivals.proofs.Tables.{plain-lines, plain-settled}
use Rattle.link_resolve_rivals.specs.Lists.{AreLists}
use Rattle.link_resolve_rivals.specs.Settled.{clash_line, clashes, settled_table}
use Rattle.link_db.specs.Seen.{seen}
use Rattle.link_resolve.proofs.Behind.{plain-are}
use Rattle.link_resolve.specs.Lists.{plain_rivals}
use Rattle.link_resolve.proofs.rivals.settle_plain.Goals as goal

pub settle-requires-clause-lists : goal.settle-requires-clause-lists
settle-requires-clause-lists g c =
    let symbols = symbols_in (seen c.args.db.now).mapping.files.groups in
    subst (AreLists (plain_rivals symbols)) (sym c.requires.count) (plain-are (platform_of g.P.Platform) (seen c.args.db.now).options symbols)

pub returns-clause-table : goal.returns-clause-table
returns-clause-table g c = λ l tells symbols before.
    c.in_ok-clashes.ensures.table l tells
    ∙ ap (λ (xs : List Symbol). settled_table l (plain_rivals xs) c.args.table.now) (sym symbols)
    ∙ ap (settled_table l (plain_rivals l.stage.symbols)) before
    ∙ plain-settled l

pub returns-clause-clashes : goal.returns-clause-clashes
returns-clause-clashes g c = λ l tells symbols before.
    ap (map (clash_line l.stage)) (c.in_ok-clashes.ensures.clashes l tells
    ∙ ap (λ (xs : List Symbol). clashes l (plain_rivals xs) c.args.table.now) (sym symbols)
    ∙ ap (clashes l (plain_rivals l.stage.symbols)) before)
    ∙ plain-lines l

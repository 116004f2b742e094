use Rattle.std.proofs.Common.{◌≡◌, ◌∙◌, length, ap, sym, arith}
use Rattle.link_input.proofs.SideBySide.{num_entries}
use Rattle.link_input.proofs.symbol_columns.SymbolColumns.len.Goals as goal

pub returns : goal.returns
returns c =
    let columns = c.self.inside in
    let count : length c.args.self.now ≡ length columns.names.items = ap length (sym c.self.view_is) ∙ num_entries columns c.self.invariant in
    omega (arith, c.len.ensures, columns.names.ok.0, count)

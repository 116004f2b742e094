use Rattle.link_input.specs.declared.symbol_entry.SymbolEntry.{SymbolEntry}
use Rattle.link_input.proofs.SideBySide.{field_of}
use Rattle.link_input.proofs.symbol_row.SymbolRow.size.Goals as goal

pub returns : goal.returns
returns c = field_of (λ (e : SymbolEntry). e.size) c.self.inside.columns.now c.self.inside.place c.args.self.now c.size.result c.self.view_is c.self.invariant c.size.ensures

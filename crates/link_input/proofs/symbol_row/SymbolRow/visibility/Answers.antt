use Rattle.link_input.specs.declared.symbol_entry.SymbolEntry.{SymbolEntry}
use Rattle.link_input.proofs.SideBySide.{field_of}
use Rattle.link_input.proofs.symbol_row.SymbolRow.visibility.Goals as goal

pub returns : goal.returns
returns c = field_of (λ (e : SymbolEntry). e.visibility) c.self.inside.columns.now c.self.inside.place c.args.self.now c.visibility.result c.self.view_is c.self.invariant c.visibility.ensures

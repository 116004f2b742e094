use Rattle.link_input.specs.declared.symbol_entry.SymbolEntry.{SymbolEntry}
use Rattle.link_input.proofs.SideBySide.{field_of}
use Rattle.link_input.proofs.symbol_row.SymbolRow.is_default.Goals as goal

pub returns : goal.returns
returns c = field_of (λ (e : SymbolEntry). e.is_default) c.self.inside.columns.now c.self.inside.place c.args.self.now c.is_default.result c.self.view_is c.self.invariant c.is_default.ensures

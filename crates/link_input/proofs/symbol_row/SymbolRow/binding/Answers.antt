use Rattle.link_input.specs.declared.symbol_entry.SymbolEntry.{SymbolEntry}
use Rattle.link_input.proofs.SideBySide.{field_of}
use Rattle.link_input.proofs.symbol_row.SymbolRow.binding.Goals as goal

pub returns : goal.returns
returns c = field_of (λ (e : SymbolEntry). e.binding) c.self.inside.columns.now c.self.inside.place c.args.self.now c.binding.result c.self.view_is c.self.invariant c.binding.ensures

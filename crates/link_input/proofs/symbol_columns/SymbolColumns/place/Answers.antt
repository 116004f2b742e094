use Rattle.std.proofs.Common.{◌∙◌, ap, option_map, sym}
use Rattle.link_input.specs.declared.symbol_entry.SymbolEntry.{SymbolEntry}
use Rattle.link_input.proofs.SideBySide.{has_place, row_at}
use Rattle.link_input.proofs.symbol_columns.SymbolColumns.place.Goals as goal

pub field_at-requires : goal.field_at-requires
field_at-requires c = (has_place c.self.inside c.args.self.now c.args.index c.self.view_is c.self.invariant c.requires).places

pub returns : goal.returns
returns c =
    let row = row_at c.self.inside c.args.self.now c.args.index c.self.view_is c.self.invariant c.requires in
    ap (option_map (λ (e : SymbolEntry). e.place)) row.here ∙ (sym row.place ∙ c.field_at.ensures)

use Rattle.std.proofs.Common.{◌≡◌, ◌∙◌, List, Some, ap, option_map, sym, ℕ}
use Rattle.std.proofs.lemmas.Option.{same_Some}
use Rattle.link_input.specs.declared.symbol_entry.SymbolEntry.{SymbolEntry}
use Rattle.link_input.specs.NameBlock.{bytes_at, IsInside}
use Rattle.link_input.proofs.SideBySide.{has_place, holds_at, row_at}
use Rattle.link_input.proofs.symbol_columns.SymbolColumns.name.Goals as goal

pub field_at-requires : goal.field_at-requires
field_at-requires c = (has_place c.self.inside c.args.self.now c.args.index c.self.view_is c.self.invariant c.requires).names

pub bytes_at-requires : goal.bytes_at-requires
bytes_at-requires c =
    let at = holds_at (IsInside c.self.inside.block.items) c.self.inside.names.items c.args.index c.field_at.result c.self.invariant.names_inside c.field_at.ensures in
    rw c.as_slice.ensures.value at

pub returns : goal.returns
returns c =
    let row = row_at c.self.inside c.args.self.now c.args.index c.self.view_is c.self.invariant c.requires in
    let span : row.span ≡ c.field_at.result = same_Some row.span c.field_at.result (sym row.at ∙ c.field_at.ensures) in
    ap (option_map (λ (e : SymbolEntry). e.name)) row.here
    ∙ ap Some (row.name ∙ (ap (bytes_at c.self.inside.block.items) span ∙ sym (c.bytes_at.ensures ∙ ap (λ (b : List ℕ). bytes_at b c.field_at.result) c.as_slice.ensures.value)))

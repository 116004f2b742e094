use Rattle.std.proofs.Common.{◌≡◌, ◌∙◌, List, Option, Some, ap, option_map, sym, ℕ}
use Rattle.std.proofs.lemmas.Option.{same_Some}
use Rattle.link_input.specs.declared.name_block.Span.{Span}
use Rattle.link_input.specs.declared.symbol_entry.SymbolEntry.{SymbolEntry}
use Rattle.link_input.specs.NameBlock.{bytes_at, IsInside}
use Rattle.link_input.proofs.SideBySide.{has_place, holds_at, row_at}
use Rattle.link_input.proofs.symbol_columns.SymbolColumns.version.Goals as goal

pub field_at-requires : goal.field_at-requires
field_at-requires c = (has_place c.self.inside c.args.self.now c.args.index c.self.view_is c.self.invariant c.requires).versions

pub version_at-requires : goal.version_at-requires
version_at-requires c =
    let block = c.self.inside.block.items in
    let at = holds_at (λ (version : Option Span). (span : Span) → version ≡ Some span → IsInside block span) c.self.inside.versions.items c.args.index c.field_at.result c.self.invariant.versions_inside c.field_at.ensures in
    rw c.as_slice.ensures.value at

pub returns : goal.returns
returns c =
    let row = row_at c.self.inside c.args.self.now c.args.index c.self.view_is c.self.invariant c.requires in
    let span : row.version_span ≡ c.field_at.result = same_Some row.version_span c.field_at.result (sym row.version_at ∙ c.field_at.ensures) in
    ap (option_map (λ (e : SymbolEntry). e.version)) row.here
    ∙ ap Some (row.version ∙ (ap (option_map (bytes_at c.self.inside.block.items)) span ∙ sym (c.version_at.ensures ∙ ap (λ (b : List ℕ). option_map (bytes_at b) c.field_at.result) c.as_slice.ensures.value)))

use Rattle.std.proofs.Common.{◌≡◌, ◌<◌, ◌∙◌, ap, sym, get_or, length, refl, subst, IfSome}
use Rattle.link_input.specs.declared.object.ObjectTable.{ObjectTable}
use Rattle.link_input.specs.declared.symbol_entry.SymbolEntry.{SymbolEntry}
use Rattle.link_input.specs.declared.symbol_entry.Place.{Place}
use Rattle.link_input.specs.Columns.{null_entry}
use Rattle.link_input.specs.Entries.{section_of}
use Rattle.link_input.proofs.Accepted.{section_inside}
use Rattle.link_input.proofs.SideBySide.{field_of}
use Rattle.link_input.proofs.object.InputObject.section.Goals as goal

pub returns-clause-below : goal.returns-clause-below
returns-clause-below g c =
    let o = c.self.inside in
    let table : ObjectTable = record { is_dynamic = o.is_dynamic; lib_name = o.lib_name; sections = o.sections; symbols = o.symbols; groups = o.groups; section_references = o.section_references; retained_sections = o.retained_sections } in
    let same : table ≡ c.args.self.now = c.self.view_is in
    let within : c.args.index < length table.symbols = subst (λ (t : ObjectTable). c.args.index < length t.symbols) (sym same) c.requires in
    let symbol : SymbolEntry = get_or table.symbols c.args.index null_entry in
    let there = rw c.as_usize.ensures.value at c.place.ensures in
    let read : c.place.result ≡ symbol.place = field_of (λ (e : SymbolEntry). e.place) table.symbols c.args.index symbol c.place.result refl within there in
    let below = section_inside g.P.Platform.HAS_NULL_SYMBOL_ENTRY table c.self.invariant c.args.index null_entry within in
    let found = c.section.ensures ∙ ap (λ (p : Place). section_of p) read in
    let P : ObjectTable → Type 0 = λ t. IfSome c.section.result (λ section. section < t.sections) in
    subst P same (rw found below)

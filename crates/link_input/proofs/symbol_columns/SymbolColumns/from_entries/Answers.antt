use Rattle.std.proofs.Common.{map}
use Rattle.link_input.specs.declared.symbol_entry.SymbolEntry.{SymbolEntry}
use Rattle.link_input.specs.declared.symbol_columns.SymbolColumns.TheInside.{Inside}
use Rattle.link_input.proofs.InBlock.{names_kept}
use Rattle.link_input.proofs.SideBySide.{HoldsEntries, are_columns, are_entries}
use Rattle.link_input.proofs.symbol_columns.SymbolColumns.from_entries.Goals as goal

columns : goal.In_ok-places_of → Inside
columns c = record {
  block = c.put_versions.new.block;
  names = c.in_ok-names.names;
  versions = c.in_ok-versions.versions;
  defaults = c.in_ok-defaults_of.field-0;
  bindings = c.in_ok-bindings_of.field-0;
  visibilities = c.in_ok-visibilities_of.field-0;
  kinds = c.in_ok-kinds_of.field-0;
  sizes = c.in_ok-sizes_of.field-0;
  places = c.in_ok-places_of.field-0;
}

holds : (c : goal.In_ok-places_of) → HoldsEntries (columns c) c.args.entries.now
unfolding columns
holds c = record {
  names = names_kept c.put_names.new.block.items c.put_versions.new.block.items c.in_ok-versions.ensures.kept c.in_ok-names.names.items
      (map (λ (e : SymbolEntry). e.name) c.args.entries.now) c.in_ok-names.ensures;
  versions = c.in_ok-versions.ensures.put;
  defaults = c.in_ok-defaults_of.ensures;
  bindings = c.in_ok-bindings_of.ensures;
  visibilities = c.in_ok-visibilities_of.ensures;
  kinds = c.in_ok-kinds_of.ensures;
  sizes = c.in_ok-sizes_of.ensures;
  places = c.in_ok-places_of.ensures;
}

pub invariant_of-result : goal.invariant_of-result
unfolding columns
invariant_of-result c = are_columns (columns c) c.args.entries.now (holds c)

pub returns : goal.returns
unfolding columns
returns c = are_entries (columns c) c.args.entries.now (holds c)

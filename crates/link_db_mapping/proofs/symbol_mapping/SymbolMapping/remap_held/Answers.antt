use Rattle.std.specs.Prelude.{slice_get}
use Rattle.link_db_mapping.proofs.Overrides.{one_there, override_named, override_told, overrides_by_name, some_there}
use Rattle.link_db_mapping.proofs.symbol_mapping.SymbolMapping.remap_held.Goals as goal

pub invariant_of-self : goal.invariant_of-self
invariant_of-self g c =
    let m = c.args.self.now in
    let held = m.tables.files in
    let names = m.tables.overridden.items in
    let new = c.remap.new.self in
    let clauses = c.remap.ensures in
    let there = some_there (slice_get names c.args.place) c.requires.held in
    let over = overrides_by_name held names m.buckets new c.args.place c.index.result.now c.as_slice-name.result.now there.0 c.as_usize-number.result c.args.id c.index.ensures c.as_slice-name.ensures there.1 c.as_usize-number.ensures.value clauses.keyed clauses.overridden clauses.definitions in
    record { named = override_named held names m.buckets new there.0 c.args.id m.named over (one_there names c.args.place there.0 there.1) c.requires.id }

pub returns : goal.returns
returns g c =
    let m = c.args.self.now in
    let held = m.tables.files in
    let names = m.tables.overridden.items in
    let new = c.remap.new.self in
    let clauses = c.remap.ensures in
    λ name is. override_told held names m.buckets new name c.args.id
    (overrides_by_name held names m.buckets new c.args.place c.index.result.now c.as_slice-name.result.now name c.as_usize-number.result c.args.id c.index.ensures c.as_slice-name.ensures is c.as_usize-number.ensures.value clauses.keyed clauses.overridden clauses.definitions)

use Rattle.std.proofs.Common.{◌∙◌, ◌≡◌, List, ap, length, subst, sym}
use Rattle.link_db_buckets.specs.declared.definition.Definition.{Definition}
use Rattle.link_db_buckets.specs.Buckets.{AreHashed}
use Rattle.link_db_files.specs.HeldFiles.{HeldFiles, names_in}
use Rattle.link_db_mapping.specs.Batches.{symbols_behind}
use Rattle.link_db_mapping.specs.Parts.{definitions_in}
use Rattle.link_db_mapping.specs.Seen.{told_by}
use Rattle.link_db_mapping.specs.Tables.{AreNamed, key_at}
use Rattle.link_db_mapping.proofs.Batches.{batch_listed, batch_lists, batch_named, comes_added, comes_grow, comes_lead, gone_back, restores_read}
use Rattle.link_db_mapping.proofs.Grown.{back_same, grown_named, restored_named, restored_told}
use Rattle.link_db_mapping.proofs.Listing.{definitions_hashed}
use Rattle.link_db_mapping.proofs.Overrides.{Same, same_named, same_told}
use Rattle.link_db_mapping.proofs.symbol_mapping.SymbolMapping.add_groups.Goals as goal

pub apply_parts-requires-clause-keyed : goal.apply_parts-requires-clause-keyed
apply_parts-requires-clause-keyed g c κs within =
    let m = c.args.self.now in
    let held = m.tables.files in
    let new = c.add_groups.new.self in
    let names = m.tables.overridden.items in
    let comes = comes_added held new c.args.groups.items c.in_ok-add_groups.ensures.none c.in_ok-add_groups.ensures.ok in
    (grown_named held new names m.buckets (comes_grow held new _ comes) m.named).keyed

pub apply_parts-requires-clause-hashed : goal.apply_parts-requires-clause-hashed
apply_parts-requires-clause-hashed g c κs within =
    let m = c.args.self.now in
    let held = m.tables.files in
    let new = c.add_groups.new.self in
    let names = m.tables.overridden.items in
    let more = symbols_behind held.groups c.args.groups.items in
    let comes = comes_added held new c.args.groups.items c.in_ok-add_groups.ensures.none c.in_ok-add_groups.ensures.ok in
    subst (λ (l : List Definition). AreHashed (key_at new names) l) (sym c.requires.parts) (definitions_hashed (key_at new names) (length (names_in held)) more (comes_lead held new more names comes))

pub invariant_of-self-in-Err : goal.invariant_of-self-in-Err
invariant_of-self-in-Err g c =
    let m = c.args.self.now in
    let held = m.tables.files in
    let new = c.add_groups.new.self in
    let names = m.tables.overridden.items in
    let more = symbols_behind held.groups c.args.groups.items in
    let comes = comes_added held new c.args.groups.items c.in_ok-add_groups.ensures.none c.in_ok-add_groups.ensures.ok in
    let after = c.apply_parts.new.buckets in
    let failed = c.in-Err.ensures in
    let same : Same held names m.buckets after = back_same held new names m.buckets after (comes_grow held new more comes) m.named (record { keyed = failed.keyed; overridden = failed.overridden; definitions = failed.err }) failed.labels_err in
    let back : c.remove_groups.new.self ≡ held = gone_back held new c.remove_groups.new.self c.args.groups.items c.groups-held_groups.result.now c.in_ok-add_groups.ensures.ok c.groups-held_groups.ensures c.remove_groups.ensures in
    record { named = subst (λ (h : HeldFiles g.row.P.Denot). AreNamed h names after) (sym back) (same_named held names m.buckets after m.named same) }

pub returns-in-Err-clause-err : goal.returns-in-Err-clause-err
returns-in-Err-clause-err g c =
    let m = c.args.self.now in
    let held = m.tables.files in
    let new = c.add_groups.new.self in
    let names = m.tables.overridden.items in
    let more = symbols_behind held.groups c.args.groups.items in
    let comes = comes_added held new c.args.groups.items c.in_ok-add_groups.ensures.none c.in_ok-add_groups.ensures.ok in
    let after = c.apply_parts.new.buckets in
    let failed = c.in-Err.ensures in
    let same : Same held names m.buckets after = back_same held new names m.buckets after (comes_grow held new more comes) m.named (record { keyed = failed.keyed; overridden = failed.overridden; definitions = failed.err }) failed.labels_err in
    let back : c.remove_groups.new.self ≡ held = gone_back held new c.remove_groups.new.self c.args.groups.items c.groups-held_groups.result.now c.in_ok-add_groups.ensures.ok c.groups-held_groups.ensures c.remove_groups.ensures in
    ap (λ (h : HeldFiles g.row.P.Denot). told_by h names after) back ∙ same_told held names m.buckets after same

pub invariant_of-self-2 : goal.invariant_of-self-2
invariant_of-self-2 g c =
    let m = c.args.self.now in
    let held = m.tables.files in
    let new = c.add_groups.new.self in
    let names = m.tables.overridden.items in
    let more = symbols_behind held.groups c.args.groups.items in
    let comes = comes_added held new c.args.groups.items c.in_ok-add_groups.ensures.none c.in_ok-add_groups.ensures.ok in
    let after = c.apply_parts.new.buckets in
    let last = c.restore_all.new.buckets in
    let applied = c.in_default.ensures in
    let lists = batch_lists held new names m.buckets after more (definitions_in c.args.parts.now) c.requires.parts applied.keyed applied.definitions applied.overridden in
    let named = batch_named held new names m.buckets after more comes m.named lists in
    let restores = restores_read new names c.as_slice.result.now after last c.as_slice.ensures.value c.restore_all.ensures.keyed c.restore_all.ensures.overridden c.restore_all.ensures.definitions in
    record { named = restored_named new names after last named restores }

pub returns-clause-lists : goal.returns-clause-lists
returns-clause-lists g c =
    let m = c.args.self.now in
    let held = m.tables.files in
    let new = c.add_groups.new.self in
    let names = m.tables.overridden.items in
    let more = symbols_behind held.groups c.args.groups.items in
    let comes = comes_added held new c.args.groups.items c.in_ok-add_groups.ensures.none c.in_ok-add_groups.ensures.ok in
    let after = c.apply_parts.new.buckets in
    let last = c.restore_all.new.buckets in
    let applied = c.in_default.ensures in
    let lists = batch_lists held new names m.buckets after more (definitions_in c.args.parts.now) c.requires.parts applied.keyed applied.definitions applied.overridden in
    batch_listed held new names m.buckets after last more comes m.named lists c.restore_all.ensures.definitions

pub returns-clause-overridden : goal.returns-clause-overridden
returns-clause-overridden g c =
    let m = c.args.self.now in
    let held = m.tables.files in
    let new = c.add_groups.new.self in
    let names = m.tables.overridden.items in
    let more = symbols_behind held.groups c.args.groups.items in
    let comes = comes_added held new c.args.groups.items c.in_ok-add_groups.ensures.none c.in_ok-add_groups.ensures.ok in
    let after = c.apply_parts.new.buckets in
    let last = c.restore_all.new.buckets in
    let applied = c.in_default.ensures in
    let lists = batch_lists held new names m.buckets after more (definitions_in c.args.parts.now) c.requires.parts applied.keyed applied.definitions applied.overridden in
    let named = batch_named held new names m.buckets after more comes m.named lists in
    let restores = restores_read new names c.as_slice.result.now after last c.as_slice.ensures.value c.restore_all.ensures.keyed c.restore_all.ensures.overridden c.restore_all.ensures.definitions in
    restored_told new names after last named restores

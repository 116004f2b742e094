use Rattle.std.proofs.Common.{◌≡◌, ◌∙◌, ℕ, ap, subst, sym}
use Rattle.std.proofs.lemmas.Option.{slice_get_within}
use Rattle.link_db_files.specs.HeldFiles.{HeldFiles, names_in}
use Rattle.link_db_mapping.specs.Changes.{listed_under, listing_name}
use Rattle.link_db_mapping.specs.Seen.{seen, told_by}
use Rattle.link_db_mapping.specs.Tables.{AreNamed}
use Rattle.link_db_mapping.proofs.Grown.{back_same, grown_named}
use Rattle.link_db_mapping.proofs.Overrides.{Same, same_named, same_told}
use Rattle.link_db_mapping.proofs.Synthetics.{listed_more, listed_there, symbol_grows, symbol_lists, symbol_named, symbol_overridden, symbol_there}
use Rattle.link_db_mapping.proofs.symbol_mapping.SymbolMapping.add_synthetic_symbol.Goals as goal

pub symbol_name-requires : goal.symbol_name-requires
symbol_name-requires g c =
    let m = c.args.self.now in
    let held = m.tables.files in
    let new = c.add_synthetic_symbol.new.self in
    let names = m.tables.overridden.items in
    let ok = c.in_ok-id.ensures in
    let grows = symbol_grows held new c.args.name c.requires.last ok.ok in
    let there = listed_there (seen m) new c.args.name c.as_slice-2.result.now c.mapped-mapped.result c.in_ok-id.id c.unwrap_or-listed.result grows (symbol_there held new c.args.name c.in_ok-id.id c.requires.last ok.ok ok.id) c.as_slice-2.ensures c.mapped-mapped.ensures.value c.mapped-mapped.ensures.within c.unwrap_or-listed.ensures in
    slice_get_within (names_in new) c.unwrap_or-listed.result (listing_name (seen m) c.args.name) there

pub add-requires-clause-keyed : goal.add-requires-clause-keyed
add-requires-clause-keyed g c =
    let m = c.args.self.now in
    let held = m.tables.files in
    let new = c.add_synthetic_symbol.new.self in
    let names = m.tables.overridden.items in
    let ok = c.in_ok-id.ensures in
    let grows = symbol_grows held new c.args.name c.requires.last ok.ok in
    (grown_named held new names m.buckets grows m.named).keyed

pub invariant_of-self-in-Err : goal.invariant_of-self-in-Err
invariant_of-self-in-Err g c =
    let m = c.args.self.now in
    let held = m.tables.files in
    let new = c.add_synthetic_symbol.new.self in
    let names = m.tables.overridden.items in
    let ok = c.in_ok-id.ensures in
    let grows = symbol_grows held new c.args.name c.requires.last ok.ok in
    let after = c.add.new.self in
    let failed = c.in-Err.ensures in
    let same : Same held names m.buckets after = back_same held new names m.buckets after grows m.named (record { keyed = failed.keyed; overridden = failed.overridden; definitions = failed.err }) failed.labels_err in
    let back : c.remove_synthetic_symbol.new.self ≡ held = c.remove_synthetic_symbol.ensures held (record { name = c.args.name; last = c.requires.last; is = ok.ok }) in
    record { named = subst (λ (h : HeldFiles g.row.P.Denot). AreNamed h names after) (sym back) (same_named held names m.buckets after m.named same) }

pub returns-in-Err-clause-err : goal.returns-in-Err-clause-err
returns-in-Err-clause-err g c =
    let m = c.args.self.now in
    let held = m.tables.files in
    let new = c.add_synthetic_symbol.new.self in
    let names = m.tables.overridden.items in
    let ok = c.in_ok-id.ensures in
    let grows = symbol_grows held new c.args.name c.requires.last ok.ok in
    let after = c.add.new.self in
    let failed = c.in-Err.ensures in
    let same : Same held names m.buckets after = back_same held new names m.buckets after grows m.named (record { keyed = failed.keyed; overridden = failed.overridden; definitions = failed.err }) failed.labels_err in
    let back : c.remove_synthetic_symbol.new.self ≡ held = c.remove_synthetic_symbol.ensures held (record { name = c.args.name; last = c.requires.last; is = ok.ok }) in
    ap (λ (h : HeldFiles g.row.P.Denot). told_by h names after) back ∙ same_told held names m.buckets after same

pub invariant_of-self-in_default : goal.invariant_of-self-in_default
invariant_of-self-in_default g c =
    let m = c.args.self.now in
    let held = m.tables.files in
    let new = c.add_synthetic_symbol.new.self in
    let names = m.tables.overridden.items in
    let ok = c.in_ok-id.ensures in
    let grows = symbol_grows held new c.args.name c.requires.last ok.ok in
    let there = listed_there (seen m) new c.args.name c.as_slice-2.result.now c.mapped-mapped.result c.in_ok-id.id c.unwrap_or-listed.result grows (symbol_there held new c.args.name c.in_ok-id.id c.requires.last ok.ok ok.id) c.as_slice-2.ensures c.mapped-mapped.ensures.value c.mapped-mapped.ensures.within c.unwrap_or-listed.ensures in
    let after = c.add.new.self in
    let added = c.in_default.ensures in
    let own = listing_name (seen m) c.args.name in
    let lists = listed_more new names m.buckets after own c.unwrap_or-listed.result c.as_usize.result c.as_usize-number.result c.in_ok-id.id there c.as_usize.ensures.value c.as_usize-number.ensures.value added.keyed added.definitions added.overridden in
    let within = slice_get_within (names_in new) c.in_ok-id.id c.args.name (symbol_there held new c.args.name c.in_ok-id.id c.requires.last ok.ok ok.id) in
    record { named = symbol_named held new names m.buckets after own c.in_ok-id.id grows m.named lists within }

pub returns-clause-lists : goal.returns-clause-lists
returns-clause-lists g c =
    let m = c.args.self.now in
    let held = m.tables.files in
    let new = c.add_synthetic_symbol.new.self in
    let names = m.tables.overridden.items in
    let ok = c.in_ok-id.ensures in
    let grows = symbol_grows held new c.args.name c.requires.last ok.ok in
    let there = listed_there (seen m) new c.args.name c.as_slice-2.result.now c.mapped-mapped.result c.in_ok-id.id c.unwrap_or-listed.result grows (symbol_there held new c.args.name c.in_ok-id.id c.requires.last ok.ok ok.id) c.as_slice-2.ensures c.mapped-mapped.ensures.value c.mapped-mapped.ensures.within c.unwrap_or-listed.ensures in
    let after = c.add.new.self in
    let added = c.in_default.ensures in
    let own = listing_name (seen m) c.args.name in
    let lists = listed_more new names m.buckets after own c.unwrap_or-listed.result c.as_usize.result c.as_usize-number.result c.in_ok-id.id there c.as_usize.ensures.value c.as_usize-number.ensures.value added.keyed added.definitions added.overridden in
    symbol_lists held new names m.buckets after own c.in_ok-id.id grows m.named lists
    ∙ ap (λ (id : ℕ). listed_under own id (seen m).lists) ok.id

pub returns-clause-overridden : goal.returns-clause-overridden
returns-clause-overridden g c =
    let m = c.args.self.now in
    let held = m.tables.files in
    let new = c.add_synthetic_symbol.new.self in
    let names = m.tables.overridden.items in
    let ok = c.in_ok-id.ensures in
    let grows = symbol_grows held new c.args.name c.requires.last ok.ok in
    let there = listed_there (seen m) new c.args.name c.as_slice-2.result.now c.mapped-mapped.result c.in_ok-id.id c.unwrap_or-listed.result grows (symbol_there held new c.args.name c.in_ok-id.id c.requires.last ok.ok ok.id) c.as_slice-2.ensures c.mapped-mapped.ensures.value c.mapped-mapped.ensures.within c.unwrap_or-listed.ensures in
    let after = c.add.new.self in
    let added = c.in_default.ensures in
    let own = listing_name (seen m) c.args.name in
    let lists = listed_more new names m.buckets after own c.unwrap_or-listed.result c.as_usize.result c.as_usize-number.result c.in_ok-id.id there c.as_usize.ensures.value c.as_usize-number.ensures.value added.keyed added.definitions added.overridden in
    symbol_overridden held new names m.buckets after own c.in_ok-id.id grows m.named lists

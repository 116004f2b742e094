use Rattle.std.proofs.Common.{length}
use Rattle.std.proofs.lemmas.Result.{on_ok_weaker}
use Rattle.link_db_files.specs.HeldFiles.{names_in}
use Rattle.link_db_files.proofs.Growing.{no-tables}
use Rattle.link_input_groups.specs.Groups.{files_of}
use Rattle.link_db_mapping.proofs.Synthetics.{group_named, group_told}
use Rattle.link_db_mapping.proofs.symbol_mapping.SymbolMapping.add_group.Goals as goal

pub invariant_of-self : goal.invariant_of-self
invariant_of-self g c =
    let m = c.args.self.now in
    let held = m.tables.files in
    let none = no-tables (length (names_in held)) (files_of c.args.group) c.requires.none in
    record { named = group_named held c.add_group.new.self m.tables.overridden.items m.buckets c.args.group c.add_group.result none m.named c.add_group.ensures.ok c.add_group.ensures.err }

pub returns-clause-ok : goal.returns-clause-ok
returns-clause-ok g c =
    let m = c.args.self.now in
    let held = m.tables.files in
    let none = no-tables (length (names_in held)) (files_of c.args.group) c.requires.none in
    on_ok_weaker c.add_group.result (λ is. group_told held c.add_group.new.self m.tables.overridden.items m.buckets c.args.group none m.named is) c.add_group.ensures.ok

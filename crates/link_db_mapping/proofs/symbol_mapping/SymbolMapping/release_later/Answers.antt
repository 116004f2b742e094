use Rattle.link_db_mapping.specs.Keys.{plain_key}
use Rattle.link_db_mapping.specs.Seen.{seen, told_by}
use Rattle.link_db_mapping.specs.Tables.{key_at}
use Rattle.link_db_mapping.proofs.Synthetics.{released_mapped, released_named}
use Rattle.link_db_mapping.proofs.symbol_mapping.SymbolMapping.release_later.Goals as goal

pub invariant_of-self : goal.invariant_of-self
invariant_of-self g c =
    let m = c.args.self.now in
    let held = m.tables.files in
    let names = m.tables.overridden.items in
    let words = key_at held names in
    let clauses = c.release_later.ensures in
    record { named = released_named held names m.buckets c.release_later.new.self m.named (clauses.keyed words m.named.keyed) (clauses.definitions words) (clauses.overridden words) }

pub returns-clause-mapping : goal.returns-clause-mapping
returns-clause-mapping g c =
    let m = c.args.self.now in
    let held = m.tables.files in
    let names = m.tables.overridden.items in
    let words = key_at held names in
    let clauses = c.release_later.ensures in
    released_mapped (seen m) (told_by held names c.release_later.new.self) (clauses.definitions words) (λ name. clauses.overridden words (plain_key name))

pub returns-clause-overridden : goal.returns-clause-overridden
returns-clause-overridden g c =
    let m = c.args.self.now in
    let words = key_at m.tables.files m.tables.overridden.items in
    λ i. λ name. c.release_later.ensures.overridden words (plain_key name) i

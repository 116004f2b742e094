use Rattle.std.proofs.Common.{◌≡◌, ◌≢◌, ◌<◌, ℕ, List, Some, length, subst, sym}
use Rattle.std.specs.Prelude.{All, AllPairs, Contains}
use Rattle.link_db_files.specs.HeldFiles.{names_in}
use Rattle.link_db_mapping.specs.Mapped.{mapping_of}
use Rattle.link_db_mapping.specs.Seen.{seen}
use Rattle.link_db_mapping.specs.Tables.{key_at}
use Rattle.link_db_mapping.proofs.Named.{names_complete, names_mapped, names_once, names_within}
use Rattle.link_db_mapping.proofs.symbol_mapping.SymbolMapping.mapped_names.Goals as goal

pub returns-clause-mapped : goal.returns-clause-mapped
returns-clause-mapped g c =
    let m = c.args.self.now in
    let held = m.tables.files in
    let names = m.tables.overridden.items in
    subst (All (λ (pair : List ℕ × ℕ). mapping_of (seen m) pair.0 ≡ Some pair.1)) (sym c.new.ensures)
    (names_mapped held names m.buckets c.mapped_labels.result m.named (c.mapped_labels.ensures.mapped (key_at held names) m.named.keyed))

pub returns-clause-complete : goal.returns-clause-complete
returns-clause-complete g c = λ name id is.
    let m = c.args.self.now in
    let held = m.tables.files in
    let names = m.tables.overridden.items in
    subst (λ (pairs : List (List ℕ × ℕ)). Contains pairs (name, id)) (sym c.new.ensures)
    (names_complete held names m.buckets c.mapped_labels.result m.named (λ key n mapped. c.mapped_labels.ensures.complete (key_at held names) key n m.named.keyed mapped) name id is)

pub returns-clause-once : goal.returns-clause-once
returns-clause-once g c =
    let m = c.args.self.now in
    let words = key_at m.tables.files m.tables.overridden.items in
    subst (AllPairs (λ (a b : List ℕ × ℕ). a.0 ≢ b.0)) (sym c.new.ensures) (names_once words c.mapped_labels.result (c.mapped_labels.ensures.once words m.named.keyed))

pub returns-clause-within : goal.returns-clause-within
returns-clause-within g c =
    let m = c.args.self.now in
    let held = m.tables.files in
    let names = m.tables.overridden.items in
    subst (All (λ (pair : List ℕ × ℕ). pair.1 < length (names_in held))) (sym c.new.ensures)
    (names_within held names m.buckets _ m.named (names_mapped held names m.buckets c.mapped_labels.result m.named (c.mapped_labels.ensures.mapped (key_at held names) m.named.keyed)))

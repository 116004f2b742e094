use Rattle.std.proofs.Common.{◌≡◌, length}
use Rattle.link_db_mapping.specs.PlainNames.{plain_names}
use Rattle.link_db_mapping.specs.Tables.{key_at}
use Rattle.link_db_mapping.proofs.mapped_names.MappedNamesIterator.next.Given as goal

abbrev pub invariant-loop-label : goal.invariant-loop-label
invariant-loop-label g l = record {
  left : plain_names (key_at l.self-inside.tables.now.files l.self-inside.tables.now.overridden.items) l.self-inside.labels ≡ l.fn.self;
  tables : l.self-inside.tables ≡ l.initial.self-inside.tables;
}

abbrev pub decreases-loop-label : goal.decreases-loop-label
decreases-loop-label g l = length l.self-inside.labels

use Rattle.std.proofs.Common.{◌≡◌, take, None, if◌then◌else◌}
use Rattle.std.specs.List.{list_any}
use Rattle.link_db_buckets.specs.Buckets.{AreKeyed, definitions_at, overridden_at}
use Rattle.link_db_buckets.specs.Keys.{Key, same_key}
use Rattle.link_db_mapping.specs.Keys.{plain_key}
use Rattle.link_db_mapping.proofs.restoring.restore_all.Given as goal

abbrev pub invariant-loop-name : goal.invariant-loop-name
invariant-loop-name g l = record {
  keyed : AreKeyed (g.T.Names.key_at l.table) l.buckets;
  overridden : (asked : Key) → overridden_at (g.T.Names.key_at l.table) l.buckets asked
      ≡ (if list_any (λ name. same_key (plain_key name) asked) (take l.name-index l.names) then None else overridden_at (g.T.Names.key_at l.table) l.fn.buckets asked);
  definitions : (asked : Key) → definitions_at (g.T.Names.key_at l.table) l.buckets asked ≡ definitions_at (g.T.Names.key_at l.table) l.fn.buckets asked;
}

use Rattle.std.proofs.Common.{take}
use Rattle.link_db_buckets.specs.Runs.{AreTaken}
use Rattle.link_db_buckets.proofs.runs.undo_part.Given as goal

abbrev pub invariant-loop-definition : goal.invariant-loop-definition
invariant-loop-definition g l = AreTaken (g.T.Names.key_at l.table) l.count l.first (take l.definition-index l.definitions) l.fn.run l.run

use Rattle.std.proofs.Common.{take}
use Rattle.link_db_buckets.specs.Runs.{AreTaken, joined}
use Rattle.link_db_buckets.proofs.runs.undo_parts.Given as goal

abbrev pub invariant-loop-definitions : goal.invariant-loop-definitions
invariant-loop-definitions g l = AreTaken (g.T.Names.key_at l.table) l.count l.first (joined (take l.definitions-index l.parts)) l.fn.run l.run

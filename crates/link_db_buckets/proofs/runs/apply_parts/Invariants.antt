use Rattle.std.proofs.Common.{take}
use Rattle.link_db_buckets.specs.Runs.{AreGrown, joined}
use Rattle.link_db_buckets.proofs.runs.apply_parts.Given as goal

abbrev pub invariant-loop-at : goal.invariant-loop-at
invariant-loop-at g l = AreGrown (g.T.Names.key_at l.table) l.count l.first (joined (take l.at l.parts)) l.fn.run l.run

use Rattle.std.proofs.Common.{◌≡◌, ◌++◌, None}
use Rattle.std.specs.Prelude.{replicate}
use Rattle.link_db_files.proofs.asked.push_none.Given as goal

abbrev pub invariant-loop : goal.invariant-loop
invariant-loop l = l.asked.items ≡ l.fn.asked.items ++ replicate l.counter None

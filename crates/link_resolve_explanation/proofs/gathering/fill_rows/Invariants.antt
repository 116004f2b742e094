use Rattle.link_resolve_explanation.specs.Gathered.{AreRows}
use Rattle.link_resolve_explanation.proofs.gathering.fill_rows.Given as goal

abbrev pub invariant-loop-number : goal.invariant-loop-number
invariant-loop-number l = AreRows l.heads l.number l.rows

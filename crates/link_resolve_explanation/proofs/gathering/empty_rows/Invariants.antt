use Rattle.std.proofs.Common.{◌≡◌, [], length}
use Rattle.std.specs.List.{All}
use Rattle.link_resolve_explanation.proofs.gathering.empty_rows.Given as goal

abbrev pub invariant-loop-number : goal.invariant-loop-number
invariant-loop-number l = record {
  each : length l.rows.items ≡ l._number;
  empty : All (λ row. row.items ≡ []) l.rows.items;
}

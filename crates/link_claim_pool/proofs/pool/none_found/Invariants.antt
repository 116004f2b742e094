use Rattle.std.proofs.Common.{◌≡◌, None, All, length}
use Rattle.link_claim_pool.proofs.pool.none_found.Given as goal

abbrev pub invariant-loop : goal.invariant-loop
invariant-loop g l = record {
  count : length l.results.items ≡ l.counter;
  none : All (λ o. o ≡ None) l.results.items;
}

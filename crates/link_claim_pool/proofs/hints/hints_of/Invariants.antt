use Rattle.std.proofs.Common.{◌≡◌, vec_len}
use Rattle.link_claim_pool.proofs.hints.hints_of.Given as goal

abbrev pub invariant-loop : goal.invariant-loop
invariant-loop l = vec_len l.all ≡ l.counter

abbrev pub invariant-loop-own : goal.invariant-loop-own
invariant-loop-own l = vec_len l.all ≡ l.count

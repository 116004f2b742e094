use Rattle.std.proofs.Common.{◌≤◌, ◌+◌, ℕ, arith, get_or}
use Rattle.std.specs.Int.{bit_at}
use Rattle.link_claim.specs.Workload.{flag_base}
use Rattle.link_claim.proofs.law.a_bit_is_new_once.Goals as goal

at_most_one : (n k : ℕ) → bit_at n k ≤ 1
at_most_one n k = omega arith

pub returns : goal.returns
returns c w s h x k lt = let is = h.writes x k lt in let most = at_most_one (get_or s.words (flag_base w + x) 0) k in omega arith

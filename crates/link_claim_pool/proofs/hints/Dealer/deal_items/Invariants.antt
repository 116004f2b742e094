use Rattle.std.proofs.Common.{◌≡◌, vec_len}
use Rattle.link_claim_pool.proofs.hints.Dealer.deal_items.Given as goal

abbrev pub invariant-loop-k : goal.invariant-loop-k
invariant-loop-k g l = vec_len l.self.all ≡ vec_len l.initial.self.all

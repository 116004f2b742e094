use Rattle.std.proofs.Common.{◌≡◌, ◌++◌, replicate, take}
use Rattle.link_claim.specs.Workload.{flag_base}
use Rattle.link_claim.proofs.words.opening_words.Given as goal

-- the flags of the symbols so far
abbrev pub invariant-loop-symbol : goal.invariant-loop-symbol
invariant-loop-symbol g l = l.words.items ≡ replicate (flag_base (g.P.Plan.work l.plan)) 0 ++ take l.symbol (g.P.Plan.work l.plan).opening

use Rattle.std.proofs.Common.{arith}
use Rattle.link_glob.proofs.Unescaping.{unescaped_all, escape_at}
use Rattle.link_glob.proofs.analyze.split_escape.Goals as goal

pub returns-in_err-place : goal.returns-in_err-place
returns-in_err-place c = rw c.from_residual.ensures (unescaped_all c.args.pattern.now (λ k lt e. c.in_err-place.ensures k (omega arith) lt e))

pub returns : goal.returns
returns c =
    let found = c.in_ok-place.ensures in
    rw (c.split_at.ensures.front, c.split_at.ensures.back) (escape_at c.in_ok-place.place c.args.pattern.now found.0.high found.1 (λ k lt e. found.0.before k (omega arith) lt e))

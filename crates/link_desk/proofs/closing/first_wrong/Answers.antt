use Rattle.std.proofs.Common.{◌<◌, ℕ, rules, below_more}
use Rattle.link_desk.specs.Passes.{IsPassRight}
use Rattle.link_desk.proofs.Calls.{first_of_all, pass_within}
use Rattle.link_desk.proofs.Claimed.{claimed_more, claimed_none}
use Rattle.link_desk.proofs.closing.first_wrong.Goals as goal

pub returns-in-Some-clause-first : goal.returns-in-Some-clause-first
returns-in-Some-clause-first g c =
    let w = c.in-Some.ensures in
    (w.0, first_of_all c.args.history.now c.args.passes.now c.loop-p.p c.in-Some.k w.0 w.1 c.loop-p.invariant.right)

pub loop-p-preserved : goal.loop-p-preserved
loop-p-preserved g c =
    let P : ℕ → Type 0 = λ q. IsPassRight c.args.history.now c.args.passes.now q in
    let e = c.claim_all.ensures in record {
      each = search rules;
      claimed = claimed_more c.loop-p.claimed c.claim_all.new.claimed c.args.passes.now c.loop-p.p c.index-passes-p.result c.calls.result.now (search rules)
          c.index-passes-p.is c.calls.ensures e.each e.claimed e.kept e.only c.loop-p.invariant.claimed;
      right = below_more P c.loop-p.p c.loop-p.invariant.right c.in_default.ensures;
    }

pub returns-clause-first : goal.returns-clause-first
returns-clause-first g c p k x at =
    let within = pass_within c.args.passes.now p k x at in
    let less : p < c.loop-p.p = search (rules, within) in
    c.loop-p.invariant.right p less k x at

use Rattle.std.proofs.Common.{◌∙◌, ◌<◌, ℕ, ap, sym, List, length, rules, below_more}
use Rattle.std.proofs.lemmas.Bool.{false≢true}
use Rattle.std.proofs.lemmas.Option.{slice_get_within}
use Rattle.link_desk.specs.declared.pass.Kept.{Kept}
use Rattle.link_desk.specs.Passes.{IsRightAt}
use Rattle.link_desk.proofs.Calls.{at_index, wrong_at}
use Rattle.link_desk.proofs.closing.wrong_in.Goals as goal

pub returns-then-not-is_right : goal.returns-then-not-is_right
returns-then-not-is_right g c =
    let less : c.loop-k.k < length c.calls-k-end.result.now = search rules in
    wrong_at c.args.history.now c.args.passes.now c.args.p c.loop-k.k c.index-passes-p.result c.calls-k-end.result.now c.requires.pass c.index-passes-p.is c.calls-k-end.ensures less
    (λ right. false≢true (sym c.if-not-is_right.true ∙ c.is_right.ensures.1 right)) c.loop-k.invariant

pub loop-k-preserved : goal.loop-k-preserved
loop-k-preserved g c =
    let P : ℕ → Type 0 = λ j. IsRightAt c.args.history.now c.args.passes.now c.args.p j in
    below_more P c.loop-k.k c.loop-k.invariant (c.is_right.ensures.0 c.if-not-is_right.false)

pub returns : goal.returns
returns g c k x at =
    let here = at_index c.args.passes.now c.args.p k c.index-passes-p.result x c.index-passes-p.is at in
    let within = slice_get_within c.index-passes-p.result.calls k x here in
    let calls = ap (λ (ks : List Kept). length ks) c.calls-k-end.ensures in
    let less : k < c.loop-k.k = search (rules, within, calls) in
    c.loop-k.invariant k less x at

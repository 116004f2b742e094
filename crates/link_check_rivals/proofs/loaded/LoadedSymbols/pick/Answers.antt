use Rattle.std.proofs.Common.{◌≡◌, ◌+◌, ◌∙◌, ap, drop, sym}
use Rattle.std.specs.Prelude.{fold}
use Rattle.std.proofs.lemmas.List.{at_drop_all}
use Rattle.link_flags.specs.Pick.{pick}
use Rattle.link_flags.specs.Selector.{after, considered}
use Rattle.link_rules.specs.Rivals.{static_candidates}
use Rattle.link_check_rivals.proofs.OneList.{candidates-step}
use Rattle.link_check_rivals.proofs.loaded.LoadedSymbols.pick.Goals as goal

pub loop-entry-preserved : goal.loop-entry-preserved
loop-entry-preserved c = λ l tells.
    let entries = c.args.entries.now in
    let i = c.loop-entry.entry-index in
    ap (λ k. fold after k (static_candidates l (drop (i + 1) entries))) (c.consider_static.ensures l tells)
    ∙ (sym (candidates-step l c.loop-entry.selector entries i c.entry-item.result c.loop-entry-test.true c.entry-item.is) ∙ c.loop-entry.invariant l tells)

pub returns : goal.returns
returns c = λ l tells.
    let entries = c.args.entries.now in
    let known : c.loop-entry.selector ≡ considered (static_candidates l entries) =
    sym (at_drop_all (λ xs. fold after c.loop-entry.selector (static_candidates l xs)) entries c.loop-entry.entry-index c.loop-entry-test.false) ∙ c.loop-entry.invariant l tells in
    c.best.ensures (static_candidates l entries) known ∙ ap (λ w. pick w (static_candidates l entries)) (sym tells.weak)

use Rattle.std.proofs.Common.{◌+◌, ◌∙◌, ap, drop, false, length, sym, true}
use Rattle.std.specs.Prelude.{fold}
use Rattle.link_flags.specs.Selector.{after}
use Rattle.link_rules.specs.Rivals.{static_candidates}
use Rattle.link_resolve_rivals.proofs.Entries.{candidate-more, candidates-step, entry-inside, pick-inside}
use Rattle.link_resolve_rivals.proofs.survivors.Survivors.pick.Goals as goal
use Rattle.link_resolve_rivals.proofs.survivors.Survivors.pick.Goals.{then-not-is_dynamic, else-not-is_dynamic}

pub loop-entry-preserved : goal.loop-entry-preserved
loop-entry-preserved c =
    let entries = c.args.entries.now in
    let known = c.loop-entry.selector in
    let i = c.loop-entry.entry-index in
    let x = c.entry-item.result in
    let (candidates, is, all) = c.loop-entry.invariant.inside in
    elim c.if-not-is_dynamic.branch [
      | then-not-is_dynamic w ↦ record {
        value = λ selection tells.
            ap (λ k. fold after k (static_candidates selection (drop (i + 1) entries)))
            (w.selector-is ∙ w.consider.ensures ∙ ap (λ strength. after known (x, strength)) (w.strength.ensures selection tells))
            ∙ sym (candidates-step selection known entries i x false c.loop-entry-test.true c.entry-item.is (sym w.if-not-is_dynamic.true ∙ c.is_dynamic.ensures selection tells))
            ∙ c.loop-entry.invariant.value selection tells;
        inside = candidate-more (length c.args.self.now.strengths.now) candidates known _ x w.strength.result is all
            (entry-inside _ entries i x c.requires c.loop-entry-test.true c.entry-item.is) (w.selector-is ∙ w.consider.ensures);
      }
      | else-not-is_dynamic w ↦ record {
        value = λ selection tells.
            ap (λ k. fold after k (static_candidates selection (drop (i + 1) entries))) w.selector-is
            ∙ sym (candidates-step selection known entries i x true c.loop-entry-test.true c.entry-item.is (sym w.if-not-is_dynamic.false ∙ c.is_dynamic.ensures selection tells))
            ∙ c.loop-entry.invariant.value selection tells;
        inside = (candidates, w.selector-is ∙ is, all);
      }
    ]

pub returns-clause-inside : goal.returns-clause-inside
returns-clause-inside c =
    let (candidates, known, all) = c.loop-entry.invariant.inside in
    pick-inside _ c.args.self.now.weak_overrides_common candidates c.best.result all (c.best.ensures candidates known)

use Rattle.std.proofs.Common.{◌∙◌, false, sym, true}
use Rattle.std.specs.Prelude.{◌==◌, find, not}
use Rattle.std.proofs.lemmas.List.{at_drop_all}
use Rattle.link_check_rivals.specs.Lists.{strong_entries}
use Rattle.link_check_rivals.proofs.OneList.{strong-found}
use Rattle.link_check_rivals.proofs.loaded.LoadedSymbols.strong_beside.Goals as goal

pub returns-then-is_strong_beside : goal.returns-then-is_strong_beside
returns-then-is_strong_beside c = λ l tells.
    let left = strong-found l (λ s. not (s == c.args.first)) c.args.entries.now c.loop-entry.entry-index c.entry-item.result true c.loop-entry-test.true c.entry-item.is in
    sym (sym (c.loop-entry.invariant l tells) ∙ left (sym (c.is_strong_beside.ensures l tells) ∙ c.if-is_strong_beside.true))

pub loop-entry-preserved : goal.loop-entry-preserved
loop-entry-preserved c = λ l tells.
    let left = strong-found l (λ s. not (s == c.args.first)) c.args.entries.now c.loop-entry.entry-index c.entry-item.result false c.loop-entry-test.true c.entry-item.is in
    sym (left (sym (c.is_strong_beside.ensures l tells) ∙ c.if-is_strong_beside.false)) ∙ c.loop-entry.invariant l tells

pub returns : goal.returns
returns c = λ l tells.
    sym (sym (c.loop-entry.invariant l tells)
    ∙ at_drop_all (λ xs. find (λ s. not (s == c.args.first)) (strong_entries l xs)) c.args.entries.now c.loop-entry.entry-index c.loop-entry-test.false)

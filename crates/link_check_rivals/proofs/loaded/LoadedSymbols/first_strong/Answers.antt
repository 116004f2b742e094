use Rattle.std.proofs.Common.{◌∙◌, false, sym, true}
use Rattle.std.proofs.lemmas.List.{at_drop_all}
use Rattle.link_rules.specs.Places.{first_of}
use Rattle.link_check_rivals.specs.Lists.{strong_entries}
use Rattle.link_check_rivals.proofs.OneList.{first-strong}
use Rattle.link_check_rivals.proofs.loaded.LoadedSymbols.first_strong.Goals as goal

pub returns-then-is_strong : goal.returns-then-is_strong
returns-then-is_strong c = λ l tells.
    let left = first-strong l c.args.entries.now c.loop-entry.entry-index c.entry-item.result true c.loop-entry-test.true c.entry-item.is in
    sym (sym (c.loop-entry.invariant l tells) ∙ left (sym (c.is_strong.ensures l tells) ∙ c.if-is_strong.true))

pub loop-entry-preserved : goal.loop-entry-preserved
loop-entry-preserved c = λ l tells.
    let left = first-strong l c.args.entries.now c.loop-entry.entry-index c.entry-item.result false c.loop-entry-test.true c.entry-item.is in
    sym (left (sym (c.is_strong.ensures l tells) ∙ c.if-is_strong.false)) ∙ c.loop-entry.invariant l tells

pub returns : goal.returns
returns c = λ l tells.
    sym (sym (c.loop-entry.invariant l tells)
    ∙ at_drop_all (λ xs. first_of (strong_entries l xs)) c.args.entries.now c.loop-entry.entry-index c.loop-entry-test.false)

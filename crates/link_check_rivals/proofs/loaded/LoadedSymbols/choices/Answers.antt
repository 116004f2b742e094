use Rattle.std.proofs.Common.{◌≡◌, ◌∙◌, ◌++◌, [], ◌∷◌, Some, ap, arith, length, refl, slice_get}
use Rattle.std.proofs.lemmas.List.{take_all}
use Rattle.std.proofs.lemmas.Option.{slice_get_read}
use Rattle.link_rules.specs.Places.{each_from}
use Rattle.link_check_targets.proofs.Columns.{each-grow}
use Rattle.link_check_rivals.specs.Lists.{head_choice}
use Rattle.link_check_rivals.proofs.loaded.LoadedSymbols.choices.Goals as goal

pub loop-place-preserved : goal.loop-place-preserved
loop-place-preserved c = λ l tells.
    let symbols = c.symbols-symbols.result.now in
    let i = c.loop-place.place in
    let x = c.index-symbols-place.result in
    let choice = head_choice c.args.naming l c.args.table.now in
    let at : slice_get symbols i ≡ Some x = slice_get_read symbols (length symbols) i x refl (omega arith) c.index-symbols-place.is in
    c.in_ok-push.ensures.items
    ∙ (ap (λ o. c.loop-place.choices.items ++ o ∷ []) (c.in_ok-head_choice.ensures l tells ∙ ap (λ k. choice k x) c.from_usize-id.ensures)
    ∙ each-grow choice symbols i x c.loop-place.choices.items at (c.loop-place.invariant l tells))

pub returns : goal.returns
returns c = λ l tells.
    let choice = head_choice c.args.naming l c.args.table.now in
    c.loop-place.invariant l tells
    ∙ ap (each_from choice 0) (take_all c.loop-place.place c.symbols-symbols.result.now c.loop-place-test.false ∙ c.symbols-symbols.ensures)

use Rattle.std.proofs.Common.{◌≡◌, ◌∙◌, ◌++◌, [], ◌∷◌, Some, ap, arith, length, refl, slice_get, sym}
use Rattle.std.proofs.lemmas.List.{take_all}
use Rattle.std.proofs.lemmas.Option.{slice_get_read}
use Rattle.link_rules.specs.Places.{each_from}
use Rattle.link_rules.specs.Rivals.{reference_entry}
use Rattle.link_check_targets.proofs.Columns.{each-grow}
use Rattle.link_check_rivals.proofs.loaded.LoadedSymbols.reference_table.Goals as goal

pub loop-place-preserved : goal.loop-place-preserved
loop-place-preserved c = λ l tells targets.
    let symbols = c.symbols-symbols.result.now in
    let i = c.loop-place.place in
    let x = c.index-symbols-place.result in
    let at : slice_get symbols i ≡ Some x = slice_get_read symbols (length symbols) i x refl (omega arith) c.index-symbols-place.is in
    c.in_ok-push.ensures.items
    ∙ (ap (λ o. c.loop-place.table.items ++ o ∷ []) (c.reference_entry.ensures l tells targets ∙ ap (λ k. reference_entry l k x) c.from_usize-id.ensures)
    ∙ each-grow (reference_entry l) symbols i x c.loop-place.table.items at (c.loop-place.invariant l tells targets))

pub returns : goal.returns
returns c = λ l tells targets.
    c.loop-place.invariant l tells targets
    ∙ ap (each_from (reference_entry l) 0) (take_all c.loop-place.place c.symbols-symbols.result.now c.loop-place-test.false ∙ (c.symbols-symbols.ensures ∙ sym tells.symbols))

use Rattle.std.proofs.Common.{◌≡◌, ◌+◌, ◌∙◌, ◌++◌, [], ◌∷◌, List, Some, ap, arith, length, refl, slice_get, slice_index, sym}
use Rattle.std.proofs.lemmas.List.{take_all}
use Rattle.std.proofs.lemmas.Option.{slice_get_read}
use Rattle.link_input.specs.Symbols.{Symbol}
use Rattle.link_rules.specs.Places.{each_from}
use Rattle.link_rules.specs.Rivals.{settled_entry}
use Rattle.link_check_targets.proofs.Columns.{each-alike, each-grow}
use Rattle.link_check_rivals.specs.Lists.{entries_of, head_choice, noted_entry, own_list}
use Rattle.link_check_rivals.proofs.Tables.{noted-is}
use Rattle.link_check_rivals.proofs.loaded.LoadedSymbols.settled.Goals as goal

pub loop-place-preserved : goal.loop-place-preserved
loop-place-preserved c =
    let symbols = c.symbols-symbols.result.now in
    let choices = c.in_ok-choices.choices.items in
    let table = c.args.table.now in
    let naming = c.args.naming in
    let i = c.loop-place.place in
    let x = c.index-symbols-place.result in
    let at : slice_get symbols i ≡ Some x = slice_get_read symbols (length symbols) i x refl (omega arith) c.index-symbols-place.is in
    c.in_ok-push.ensures.items
    ∙ (ap (λ o. c.loop-place.settled.items ++ o ∷ [])
    (c.noted_entry.ensures
    ∙ (ap (λ l. noted_entry naming l c.deref.result.now x c.entry_at-old.result) (sym c.symbols-symbols.ensures)
    ∙ (ap (λ l. noted_entry naming symbols l x c.entry_at-old.result) c.deref.ensures.value
    ∙ ap (λ old. noted_entry naming symbols choices x old) (c.entry_at-old.ensures ∙ ap (slice_index table) c.from_usize.ensures))))
    ∙ each-grow (λ s y. noted_entry naming symbols choices y (slice_index table s)) symbols i x c.loop-place.settled.items at c.loop-place.invariant)

pub returns : goal.returns
returns c = λ l tells.
    let naming = c.args.naming in
    let table = c.args.table.now in
    let symbols = c.symbols-symbols.result.now in
    let choices = c.in_ok-choices.choices.items in
    let same = c.symbols-symbols.ensures ∙ sym tells.symbols in
    let told = c.in_ok-choices.ensures l tells ∙ ap (each_from (head_choice naming l table) 0) (sym tells.symbols) in
    c.loop-place.invariant
    ∙ (ap (each_from (λ s x. noted_entry naming symbols choices x (slice_index table s)) 0) (take_all c.loop-place.place symbols c.loop-place-test.false)
    ∙ (ap (λ (xs : List Symbol). each_from (λ s x. noted_entry naming xs choices x (slice_index table s)) 0 xs) same
    ∙ each-alike (λ s x. noted_entry naming l.stage.symbols choices x (slice_index table s))
    (λ s x. settled_entry l (own_list naming l.stage.symbols x) (entries_of naming l table (own_list naming l.stage.symbols x)) (slice_index table s)) 0 l.stage.symbols
    (λ k x at. noted-is naming l table choices x (slice_index table (0 + k)) told)))

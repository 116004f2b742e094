use Rattle.std.proofs.Common.{◌≡◌, ◌∙◌, ◌++◌, [], ◌∷◌, Some, ap, arith, refl, slice_get, length}
use Rattle.std.proofs.lemmas.List.{take_all}
use Rattle.std.proofs.lemmas.Option.{slice_get_read}
use Rattle.link_rules.specs.Places.{each_from}
use Rattle.link_check.specs.Columns.{loaded_target_at}
use Rattle.link_check.proofs.Columns.{loaded-targets-are}
use Rattle.link_check_targets.proofs.Columns.{each-grow}
use Rattle.link_check.proofs.table.loaded_targets.Goals as goal

pub loop-id-preserved : goal.loop-id-preserved
loop-id-preserved c =
    let symbols = c.args.symbols.now in
    let i = c.loop-id.id in
    let x = c.index-symbols-id.result in
    let at : slice_get symbols i ≡ Some x = slice_get_read symbols (length symbols) i x refl (omega arith) c.index-symbols-id.is in
    c.in_ok-push.ensures.items
    ∙ (ap (λ r. c.loop-id.column.items ++ r ∷ []) c.loaded_target_at.ensures
    ∙ each-grow (loaded_target_at c.args.marks.now c.args.targets.now) symbols i x c.loop-id.column.items at c.loop-id.invariant)

pub returns : goal.returns
returns c = λ w same told.
    let symbols = c.args.symbols.now in
    c.loop-id.invariant
    ∙ (ap (each_from (loaded_target_at c.args.marks.now c.args.targets.now) 0) (take_all c.loop-id.id symbols c.loop-id-test.false)
    ∙ loaded-targets-are w c.args.marks.now symbols c.args.targets.now same told)

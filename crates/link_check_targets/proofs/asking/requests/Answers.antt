use Rattle.std.proofs.Common.{◌≡◌, ◌∙◌, ◌++◌, [], ◌∷◌, Some, ap, arith, refl, slice_get, length}
use Rattle.std.proofs.lemmas.List.{take_all}
use Rattle.std.proofs.lemmas.Option.{slice_get_read}
use Rattle.link_rules.specs.Places.{each_from}
use Rattle.link_check_targets.specs.Tables.{request_by, target_at}
use Rattle.link_check_targets.proofs.AtStage.{requests-are}
use Rattle.link_check_targets.proofs.Columns.{each-grow}
use Rattle.link_check_targets.proofs.asking.requests.Goals as goal

pub loop-id-preserved : goal.loop-id-preserved
loop-id-preserved c =
    let symbols = c.args.symbols.now in
    let targets = c.args.targets.now in
    let i = c.loop-id.id in
    let x = c.index-symbols-id.result in
    let at : slice_get symbols i ≡ Some x = slice_get_read symbols (length symbols) i x refl (omega arith) c.index-symbols-id.is in
    c.in_ok-push.ensures.items
    ∙ (ap (λ r. c.loop-id.requests.items ++ r ∷ []) (c.request_of.ensures ∙ ap (λ t. request_by symbols x t) c.target_at.ensures)
    ∙ each-grow (λ s u. request_by symbols u (target_at targets s)) symbols i x c.loop-id.requests.items at c.loop-id.invariant)

pub returns : goal.returns
returns c = λ w same told.
    let symbols = c.args.symbols.now in
    let targets = c.args.targets.now in
    c.loop-id.invariant
    ∙ (ap (each_from (λ s u. request_by symbols u (target_at targets s)) 0) (take_all c.loop-id.id symbols c.loop-id-test.false)
    ∙ requests-are w symbols targets same told)

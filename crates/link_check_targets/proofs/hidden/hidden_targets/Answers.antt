use Rattle.std.proofs.Common.{◌∙◌, ◌<◌, ◌++◌, [], ◌∷◌, ap, arith, length}
use Rattle.link_check_targets.specs.Tables.{hidden_target}
use Rattle.link_check_targets.proofs.Columns.{symbol-there, each-grow}
use Rattle.link_check_targets.proofs.hidden.hidden_targets.Goals as goal

pub loop-place-preserved : goal.loop-place-preserved
loop-place-preserved c =
    let n = c.args.names.now in
    let weak = c.args.weak_overrides_common in
    let i = c.loop-place.place in
    let within : i < length n.symbols = omega (arith, ap length c.symbols-symbols.ensures) in
    let x = symbol-there n.symbols i within in
    c.in_ok-push.ensures.items
    ∙ (ap (λ t. c.loop-place.targets.items ++ t ∷ []) (c.hidden_target.ensures ∙ ap (λ k. hidden_target weak n k) c.from_usize-id.ensures)
    ∙ each-grow (λ s y. hidden_target weak n s) n.symbols i x.0 c.loop-place.targets.items x.1 c.loop-place.invariant)

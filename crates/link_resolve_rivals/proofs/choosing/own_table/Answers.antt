use Rattle.std.proofs.Common.{◌+◌, ◌-◌, ◌∷◌, ◌++◌, ◌∙◌, [], List, ℕ, ap, append_assoc, sym}
use Rattle.std.specs.List.{range_with_len}
use Rattle.link_resolve_rivals.proofs.SettlePass.{range-next}
use Rattle.link_resolve_rivals.proofs.choosing.own_table.Goals as goal

-- one symbol more
pub loop-number-preserved : goal.loop-number-preserved
loop-number-preserved c =
    let i : ℕ = c.loop-number.number in
    let rest : List ℕ = range_with_len (i + 1) (c.args.count - (i + 1)) in
    ap (λ xs. xs ++ rest) (c.in_ok-push.ensures.items ∙ ap (λ s. c.loop-number.table.items ++ s ∷ []) c.from_usize.ensures)
    ∙ append_assoc c.loop-number.table.items (i ∷ []) rest
    ∙ ap (λ xs. c.loop-number.table.items ++ xs) (sym (range-next i c.args.count c.loop-number-test.true))
    ∙ c.loop-number.invariant

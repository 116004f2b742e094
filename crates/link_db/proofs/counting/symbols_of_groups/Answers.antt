use Rattle.std.proofs.Common.{◌≡◌, ◌+◌, ◌∷◌, List, drop, length, ap, subst, arith}
use Rattle.link_input_groups.specs.declared.group.Group.{Group}
use Rattle.link_input_groups.specs.Asked.{AllCanBeAsked}
use Rattle.link_db_files.specs.GroupFiles.{symbols_in}
use Rattle.link_db.proofs.GroupCounts.{count-first}
use Rattle.link_db_texts.proofs.Forced.{rest_is}
use Rattle.link_db.proofs.counting.symbols_of_groups.Goals as goal

-- one group more is counted
pub loop-group-preserved : goal.loop-group-preserved
loop-group-preserved g c =
    let groups = c.args.groups.now in
    let i = c.loop-group.group-index in
    let here = c.group-item.result in
    let left = drop (i + 1) groups in
    let next : drop i groups ≡ here ∷ left = rest_is groups i here c.loop-group-test.true c.group-item.is in
    let asked : AllCanBeAsked (here ∷ left) = subst (λ (gs : List (Group g.row.P.Denot)). AllCanBeAsked gs) next c.loop-group.invariant.0 in
    let counted = ap (λ (gs : List (Group g.row.P.Denot)). length (symbols_in gs)) next in
    (asked.1, omega (arith, count-first here left asked, c.num_symbols-count.ensures, counted, c.loop-group.invariant.1))

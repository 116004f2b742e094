use Rattle.std.proofs.Common.{◌≡◌, ◌++◌, arith, drop, length, subst, sym, take}
use Rattle.std.proofs.lemmas.Grind.{common_steps}
use Rattle.link_resolve_explanation.specs.Gathered.{AreRows}
use Rattle.link_resolve_explanation.proofs.gathering.filled_rows.Goals as goal

pub returns-clause-behind : goal.returns-clause-behind
returns-clause-behind c =
    let whole : take c.in_ok-rows.rows.len (c.fill_rows.new.rows ++ drop (length c.fill_rows.new.rows) c.in_ok-rows.rows.items) ≡ c.fill_rows.new.rows =
    grind (arith, common_steps) in
    subst (AreRows c.args.heads.now (length c.args.heads.now)) (sym whole) c.in_ok-fill_rows.ensures

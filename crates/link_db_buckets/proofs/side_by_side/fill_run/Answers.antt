use Rattle.std.proofs.Common.{[]}
use Rattle.std.proofs.lemmas.Result.{on_err_weaker, on_ok_weaker}
use Rattle.link_db_buckets.specs.Runs.{joined}
use Rattle.link_db_buckets.proofs.Running.{on_err_always, run_grown_both, run_own, run_same_heads}
use Rattle.link_db_buckets.proofs.side_by_side.fill_run.Goals as goal

pub returns-in_err-reserve_run-clause-err : goal.returns-in_err-reserve_run-clause-err
returns-in_err-reserve_run-clause-err g c = on_err_always c.from_residual.result (run_same_heads (g.T.Names.key_at c.args.table.now) c.args.count c.args.first c.args.run.now c.reserve_run.new.run c.reserve_run.ensures c.requires.own)

pub apply_parts-requires-clause-own : goal.apply_parts-requires-clause-own
apply_parts-requires-clause-own g c =
    let names = g.T.Names.key_at c.args.table.now in
    run_own names c.args.count c.args.first [] c.args.run.now c.reserve_run.new.run (run_same_heads names c.args.count c.args.first c.args.run.now c.reserve_run.new.run c.reserve_run.ensures c.requires.own)

pub returns-clause-ok : goal.returns-clause-ok
returns-clause-ok g c =
    let names = g.T.Names.key_at c.args.table.now in
    let run = c.args.run.now in
    let stays = run_same_heads names c.args.count c.args.first run c.reserve_run.new.run c.reserve_run.ensures c.requires.own in
    on_ok_weaker c.apply_parts.result (λ grown. run_grown_both names c.args.count c.args.first [] (joined c.args.parts.now) run c.reserve_run.new.run c.apply_parts.new.run stays grown) c.apply_parts.ensures.ok

pub returns-clause-err : goal.returns-clause-err
returns-clause-err g c =
    let names = g.T.Names.key_at c.args.table.now in
    let run = c.args.run.now in
    let stays = run_same_heads names c.args.count c.args.first run c.reserve_run.new.run c.reserve_run.ensures c.requires.own in
    on_err_weaker c.apply_parts.result (λ grown. run_grown_both names c.args.count c.args.first [] [] run c.reserve_run.new.run c.apply_parts.new.run stays grown) c.apply_parts.ensures.err

use Rattle.std.proofs.Common.{◌+◌, ◌/◌, [], ap, length, sym}
use Rattle.std.proofs.lemmas.Result.{on_err_weaker, on_ok_weaker}
use Rattle.link_db_buckets.specs.Runs.{joined}
use Rattle.link_db_buckets.proofs.Running.{back_own, err_at, front_own, ok_at, run_back, run_grown_parts, run_own}
use Rattle.link_db_buckets.proofs.side_by_side.+runs.Goals as goal

pub apply_both-undo_parts-requires-clause-own : goal.apply_both-undo_parts-requires-clause-own
apply_both-undo_parts-requires-clause-own g t c = run_own (g.T.Names.key_at c.args.table.now) c.args.count c.args.first (joined c.args.parts.now) c.args.low.now c.fill_both.new.low (ok_at c.fill_both.result.0 c.in-Ok-Err.field-0-0 c.in-Ok-Err.is-0 c.fill_both.ensures.low_ok)

pub apply_both-undo_parts-requires-in-Err-Ok-clause-own : goal.apply_both-undo_parts-requires-in-Err-Ok-clause-own
apply_both-undo_parts-requires-in-Err-Ok-clause-own g t c = run_own (g.T.Names.key_at c.args.table.now) c.args.count c.args.next (joined c.args.parts.now) c.args.high.now c.fill_both.new.high (ok_at c.fill_both.result.1 c.in-Err-Ok.field-0-1 c.in-Err-Ok.is-1 c.fill_both.ensures.high_ok)

pub apply_both-returns-in-Ok-Err-clause-err : goal.apply_both-returns-in-Ok-Err-clause-err
apply_both-returns-in-Ok-Err-clause-err g t c =
    let names = g.T.Names.key_at c.args.table.now in (
      run_back names c.args.count c.args.first (joined c.args.parts.now) c.args.low.now c.fill_both.new.low c.undo_parts.new.run (ok_at c.fill_both.result.0 c.in-Ok-Err.field-0-0 c.in-Ok-Err.is-0 c.fill_both.ensures.low_ok) c.undo_parts.ensures,
      err_at c.fill_both.result.1 c.in-Ok-Err.error c.in-Ok-Err.is-1 c.fill_both.ensures.high_err,
    )

pub apply_both-returns-in-Err-Ok-clause-err : goal.apply_both-returns-in-Err-Ok-clause-err
apply_both-returns-in-Err-Ok-clause-err g t c =
    let names = g.T.Names.key_at c.args.table.now in (
      err_at c.fill_both.result.0 c.in-Err-Ok.error c.in-Err-Ok.is-0 c.fill_both.ensures.low_err,
      run_back names c.args.count c.args.next (joined c.args.parts.now) c.args.high.now c.fill_both.new.high c.undo_parts-in-Err-Ok.new.run (ok_at c.fill_both.result.1 c.in-Err-Ok.field-0-1 c.in-Err-Ok.is-1 c.fill_both.ensures.high_ok) c.undo_parts-in-Err-Ok.ensures,
    )

pub apply_run-apply_both-requires-clause-low_own : goal.apply_run-apply_both-requires-clause-low_own
apply_run-apply_both-requires-clause-low_own g t c κs within =
    let cut = c.split_at_mut-low in
    front_own (g.T.Names.key_at c.args.table.now) c.args.count c.args.first c.args.run.now cut.result.0.now cut.result.1.now cut.ensures.value c.requires.own

pub apply_run-apply_both-requires-clause-high_own : goal.apply_run-apply_both-requires-clause-high_own
apply_run-apply_both-requires-clause-high_own g t c κs within =
    let cut = c.split_at_mut-low in
    back_own (g.T.Names.key_at c.args.table.now) c.args.count c.args.first (c.args.first + length c.args.run.now / 2) c.args.run.now cut.result.0.now cut.result.1.now cut.ensures.value
    (ap (λ n. c.args.first + n) (sym cut.ensures.front_len)) c.requires.own

pub apply_run-returns-clause-ok : goal.apply_run-returns-clause-ok
apply_run-returns-clause-ok g t c =
    let cut = c.split_at_mut-low in
    on_ok_weaker c.apply_both.result (λ both.
    run_grown_parts (g.T.Names.key_at c.args.table.now) c.args.count c.args.first (c.args.first + length c.args.run.now / 2) (joined c.args.parts.now) c.args.run.now cut.result.0.now cut.result.1.now c.apply_both.new.low c.apply_both.new.high
    cut.ensures.value (ap (λ n. c.args.first + n) (sym cut.ensures.front_len)) both.0 both.1) c.apply_both.ensures.ok

pub apply_run-returns-clause-err : goal.apply_run-returns-clause-err
apply_run-returns-clause-err g t c =
    let cut = c.split_at_mut-low in
    on_err_weaker c.apply_both.result (λ both.
    run_grown_parts (g.T.Names.key_at c.args.table.now) c.args.count c.args.first (c.args.first + length c.args.run.now / 2) [] c.args.run.now cut.result.0.now cut.result.1.now c.apply_both.new.low c.apply_both.new.high
    cut.ensures.value (ap (λ n. c.args.first + n) (sym cut.ensures.front_len)) both.0 both.1) c.apply_both.ensures.err

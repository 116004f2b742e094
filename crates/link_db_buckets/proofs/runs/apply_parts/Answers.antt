use Rattle.std.proofs.Common.{[], List, get_or, subst, sym, take}
use Rattle.std.specs.Borrow.{Bor}
use Rattle.link_db_buckets.specs.declared.definition.Definition.{Definition}
use Rattle.link_db_buckets.specs.Runs.{AreGrown, joined}
use Rattle.link_db_buckets.proofs.Joined.{first_hashed, joined_more, part_hashed}
use Rattle.link_db_buckets.proofs.Running.{run_back, run_grown_both, run_grown_none, run_own, run_stays}
use Rattle.link_db_buckets.proofs.runs.apply_parts.Goals as goal

pub loop-at-init : goal.loop-at-init
loop-at-init g c = run_grown_none (g.T.Names.key_at c.args.table.now) c.args.count c.args.first c.args.run.now c.requires.own

pub apply_part-requires-clause-own : goal.apply_part-requires-clause-own
apply_part-requires-clause-own g c = run_own (g.T.Names.key_at c.args.table.now) c.args.count c.args.first (joined (take c.loop-at.at c.args.parts.now)) c.args.run.now c.loop-at.run c.loop-at.invariant

pub apply_part-requires-clause-hashed : goal.apply_part-requires-clause-hashed
apply_part-requires-clause-hashed g c = part_hashed (g.T.Names.key_at c.args.table.now) c.args.parts.now c.loop-at.at (record { ref_ptr = (0, 0); now = [] }) c.requires.hashed c.loop-at-test.true

pub undo_parts-requires-clause-own : goal.undo_parts-requires-clause-own
undo_parts-requires-clause-own g c = run_own (g.T.Names.key_at c.args.table.now) c.args.count c.args.first [] c.loop-at.run c.apply_part.new.run c.in-Err.ensures.err

pub undo_parts-requires-clause-hashed : goal.undo_parts-requires-clause-hashed
undo_parts-requires-clause-hashed g c = first_hashed (g.T.Names.key_at c.args.table.now) c.args.parts.now c.loop-at.at c.requires.hashed

pub returns-in-Err-clause-err : goal.returns-in-Err-clause-err
returns-in-Err-clause-err g c =
    let names = g.T.Names.key_at c.args.table.now in
    let done = joined (take c.loop-at.at c.args.parts.now) in
    run_back names c.args.count c.args.first done c.args.run.now c.apply_part.new.run c.undo_parts.new.run
    (run_stays names c.args.count c.args.first done c.args.run.now c.loop-at.run c.apply_part.new.run c.loop-at.invariant c.in-Err.ensures.err) c.undo_parts.ensures

pub loop-at-preserved : goal.loop-at-preserved
loop-at-preserved g c =
    let names = g.T.Names.key_at c.args.table.now in
    let parts = c.args.parts.now in
    let i = c.loop-at.at in
    let z : Bor (List Definition) = record { ref_ptr = (0, 0); now = [] } in
    subst (λ (l : List Definition). AreGrown names c.args.count c.args.first l c.args.run.now c.apply_part.new.run) (sym (joined_more parts i z c.loop-at-test.true))
    (run_grown_both names c.args.count c.args.first (joined (take i parts)) (get_or parts i z).now c.args.run.now c.loop-at.run c.apply_part.new.run c.loop-at.invariant c.in_default.ensures.ok)

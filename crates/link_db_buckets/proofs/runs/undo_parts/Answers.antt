use Rattle.std.proofs.Common.{[], List, get_or, subst, sym, take}
use Rattle.std.specs.Borrow.{Bor}
use Rattle.link_db_buckets.specs.declared.definition.Definition.{Definition}
use Rattle.link_db_buckets.specs.Runs.{AreTaken, joined}
use Rattle.link_db_buckets.proofs.Joined.{joined_more, part_hashed}
use Rattle.link_db_buckets.proofs.Running.{run_taken_both, run_taken_none, run_taken_own}
use Rattle.link_db_buckets.proofs.runs.undo_parts.Goals as goal

pub loop-definitions-init : goal.loop-definitions-init
loop-definitions-init g c = run_taken_none (g.T.Names.key_at c.args.table.now) c.args.count c.args.first c.args.run.now c.requires.own

pub undo_part-requires-clause-own : goal.undo_part-requires-clause-own
undo_part-requires-clause-own g c = run_taken_own (g.T.Names.key_at c.args.table.now) c.args.count c.args.first (joined (take c.loop-definitions.definitions-index c.args.parts.now)) c.args.run.now c.loop-definitions.run c.loop-definitions.invariant

pub undo_part-requires-clause-hashed : goal.undo_part-requires-clause-hashed
undo_part-requires-clause-hashed g c = part_hashed (g.T.Names.key_at c.args.table.now) c.args.parts.now c.loop-definitions.definitions-index (record { ref_ptr = (0, 0); now = [] }) c.requires.hashed c.loop-definitions-test.true

pub loop-definitions-preserved : goal.loop-definitions-preserved
loop-definitions-preserved g c =
    let names = g.T.Names.key_at c.args.table.now in
    let parts = c.args.parts.now in
    let i = c.loop-definitions.definitions-index in
    let z : Bor (List Definition) = record { ref_ptr = (0, 0); now = [] } in
    subst (λ (l : List Definition). AreTaken names c.args.count c.args.first l c.args.run.now c.undo_part.new.run) (sym (joined_more parts i z c.loop-definitions-test.true))
    (run_taken_both names c.args.count c.args.first (joined (take i parts)) (get_or parts i z).now c.args.run.now c.loop-definitions.run c.undo_part.new.run c.loop-definitions.invariant c.undo_part.ensures)

use Rattle.std.proofs.Common.{◌∷◌, [], List, get_or, subst, sym, take}
use Rattle.std.proofs.lemmas.List.{take_more}
use Rattle.link_db_buckets.specs.declared.definition.Definition.{Definition}
use Rattle.link_db_buckets.specs.declared.label.Label.TheVariants.{Plain}
use Rattle.link_db_buckets.specs.Runs.{AreGrown}
use Rattle.link_db_buckets.proofs.Running.{run_back, run_grown_both, run_grown_none, run_own, run_stays}
use Rattle.link_db_buckets.proofs.runs.apply_part.Goals as goal

pub loop-at-init : goal.loop-at-init
loop-at-init g c = run_grown_none (g.T.Names.key_at c.args.table.now) c.args.count c.args.first c.args.run.now c.requires.own

pub add_one-requires-clause-own : goal.add_one-requires-clause-own
add_one-requires-clause-own g c = run_own (g.T.Names.key_at c.args.table.now) c.args.count c.args.first (take c.loop-at.at c.args.definitions.now) c.args.run.now c.loop-at.run c.loop-at.invariant

pub undo_part-requires-clause-own : goal.undo_part-requires-clause-own
undo_part-requires-clause-own g c = run_own (g.T.Names.key_at c.args.table.now) c.args.count c.args.first [] c.loop-at.run c.add_one.new.run c.in-Err.ensures.err

pub returns-in-Err-clause-err : goal.returns-in-Err-clause-err
returns-in-Err-clause-err g c =
    let names = g.T.Names.key_at c.args.table.now in
    let done = take c.loop-at.at c.args.definitions.now in
    run_back names c.args.count c.args.first done c.args.run.now c.add_one.new.run c.undo_part.new.run
    (run_stays names c.args.count c.args.first done c.args.run.now c.loop-at.run c.add_one.new.run c.loop-at.invariant c.in-Err.ensures.err) c.undo_part.ensures

pub loop-at-preserved : goal.loop-at-preserved
loop-at-preserved g c =
    let names = g.T.Names.key_at c.args.table.now in
    let ds = c.args.definitions.now in
    let i = c.loop-at.at in
    let z : Definition = record { hash = 0; label = Plain 0; id = 0 } in
    subst (λ (l : List Definition). AreGrown names c.args.count c.args.first l c.args.run.now c.add_one.new.run) (sym (take_more ds i z c.loop-at-test.true))
    (run_grown_both names c.args.count c.args.first (take i ds) (get_or ds i z ∷ []) c.args.run.now c.loop-at.run c.add_one.new.run c.loop-at.invariant c.in_default.ensures.ok)

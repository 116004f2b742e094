use Rattle.std.proofs.Common.{◌∷◌, [], List, get_or, subst, sym, take}
use Rattle.std.proofs.lemmas.List.{take_more}
use Rattle.link_db_buckets.specs.declared.definition.Definition.{Definition}
use Rattle.link_db_buckets.specs.declared.label.Label.TheVariants.{Plain}
use Rattle.link_db_buckets.specs.Runs.{AreTaken}
use Rattle.link_db_buckets.proofs.Running.{run_taken_both, run_taken_none, run_taken_own}
use Rattle.link_db_buckets.proofs.runs.undo_part.Goals as goal

pub loop-definition-init : goal.loop-definition-init
loop-definition-init g c = run_taken_none (g.T.Names.key_at c.args.table.now) c.args.count c.args.first c.args.run.now c.requires.own

pub take_one-requires-clause-own : goal.take_one-requires-clause-own
take_one-requires-clause-own g c = run_taken_own (g.T.Names.key_at c.args.table.now) c.args.count c.args.first (take c.loop-definition.definition-index c.args.definitions.now) c.args.run.now c.loop-definition.run c.loop-definition.invariant

pub loop-definition-preserved : goal.loop-definition-preserved
loop-definition-preserved g c =
    let names = g.T.Names.key_at c.args.table.now in
    let ds = c.args.definitions.now in
    let i = c.loop-definition.definition-index in
    let z : Definition = record { hash = 0; label = Plain 0; id = 0 } in
    subst (λ (l : List Definition). AreTaken names c.args.count c.args.first l c.args.run.now c.take_one.new.run) (sym (take_more ds i z c.loop-definition-test.true))
    (run_taken_both names c.args.count c.args.first (take i ds) (get_or ds i z ∷ []) c.args.run.now c.loop-definition.run c.take_one.new.run c.loop-definition.invariant c.take_one.ensures)

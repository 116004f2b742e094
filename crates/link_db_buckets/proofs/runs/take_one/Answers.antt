use Rattle.std.proofs.Common.{◌+◌, get_or}
use Rattle.std.proofs.lemmas.Option.{slice_get-get_or}
use Rattle.link_db_buckets.proofs.Running.{run_taken_one, run_taken_past, taken_one}
use Rattle.link_db_buckets.proofs.runs.take_one.Goals as goal

pub returns-in_default : goal.returns-in_default
returns-in_default g c = run_taken_past (g.T.Names.key_at c.args.table.now) c.args.count c.args.first c.args.definition c.args.run.now c.requires.own c.requires.hashed c.in_default.ensures.none

pub take_last-requires-clause-keyed : goal.take_last-requires-clause-keyed
take_last-requires-clause-keyed g c =
    let run = c.args.run.now in
    (c.requires.own c.in-Some.at (get_or run c.in-Some.at c.index-run-at.result) (slice_get-get_or run c.in-Some.at c.index-run-at.result c.in-Some.ensures.found.0)).keyed

pub returns : goal.returns
returns g c =
    let names = g.T.Names.key_at c.args.table.now in
    let run = c.args.run.now in
    let at = c.in-Some.at in
    let b = get_or run at c.index-run-at.result in
    let d = c.args.definition in
    let is = slice_get-get_or run at c.index-run-at.result c.in-Some.ensures.found.0 in
    let e = c.take_last.ensures in
    run_taken_one names c.args.count c.args.first at d run b c.take_last.new.self c.requires.own c.requires.hashed c.in-Some.ensures.found.1 is
    (taken_one names c.args.count (c.args.first + at) d b c.take_last.new.self (c.requires.own at b is) e.keyed e.hashes e.definitions e.overridden e.labels)

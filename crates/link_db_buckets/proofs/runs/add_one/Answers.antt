use Rattle.std.proofs.Common.{◌+◌, get_or}
use Rattle.std.proofs.lemmas.Option.{slice_get-get_or}
use Rattle.link_db_buckets.proofs.Running.{grown_one, grown_same, on_err_two, on_ok_two, run_grown_one, run_grown_past, run_grown_same}
use Rattle.link_db_buckets.proofs.runs.add_one.Goals as goal

pub returns-in_default-clause-ok : goal.returns-in_default-clause-ok
returns-in_default-clause-ok g c = run_grown_past (g.T.Names.key_at c.args.table.now) c.args.count c.args.first c.args.definition c.args.run.now c.requires.own c.requires.hashed c.in_default.ensures.none

pub add-requires-clause-keyed : goal.add-requires-clause-keyed
add-requires-clause-keyed g c =
    let run = c.args.run.now in
    (c.requires.own c.in-Some.at (get_or run c.in-Some.at c.index-run-at.result) (slice_get-get_or run c.in-Some.at c.index-run-at.result c.in-Some.ensures.found.0)).keyed

pub returns-clause-ok : goal.returns-clause-ok
returns-clause-ok g c =
    let names = g.T.Names.key_at c.args.table.now in
    let run = c.args.run.now in
    let at = c.in-Some.at in
    let b = get_or run at c.index-run-at.result in
    let d = c.args.definition in
    let is = slice_get-get_or run at c.index-run-at.result c.in-Some.ensures.found.0 in
    let own = c.requires.own at b is in
    let place = c.in-Some.ensures.found.1 in
    let e = c.add.ensures in
    on_ok_two c.add.result (λ definitions labels. run_grown_one names c.args.count c.args.first at d run b c.add.new.self c.requires.own c.requires.hashed place is
    (grown_one names c.args.count (c.args.first + at) d b c.add.new.self own place e.keyed e.hashes definitions e.overridden labels)) e.definitions e.labels

pub returns-clause-err : goal.returns-clause-err
returns-clause-err g c =
    let names = g.T.Names.key_at c.args.table.now in
    let run = c.args.run.now in
    let at = c.in-Some.at in
    let b = get_or run at c.index-run-at.result in
    let is = slice_get-get_or run at c.index-run-at.result c.in-Some.ensures.found.0 in
    let own = c.requires.own at b is in
    let place = c.in-Some.ensures.found.1 in
    let e = c.add.ensures in
    on_err_two c.add.result (λ definitions labels. run_grown_same names c.args.count c.args.first at run b c.add.new.self c.requires.own is
    (grown_same names c.args.count (c.args.first + at) c.args.definition.hash b c.add.new.self own place e.keyed e.hashes definitions e.overridden labels)) e.err e.labels_err

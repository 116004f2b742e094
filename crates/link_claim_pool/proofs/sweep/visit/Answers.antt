use Rattle.std.proofs.Common.{◌<◌, length, ◌∙◌, Some, arith}
use Rattle.link_claim_pool.proofs.Items.{file_below, may_begin}
use Rattle.link_claim_pool.proofs.Findings.{found_now, are_found_later, found_set, missing_set}
use Rattle.std.proofs.lemmas.List.{length-set}
use Rattle.link_claim_pool.specs.Sweeping.{GoesOn}
use Rattle.link_claim_pool.proofs.Sweeping.{goes_then, may_later}
use Rattle.link_claim_pool.proofs.sweep.visit.Goals as goal

pub check-requires-clause-file : goal.check-requires-clause-file
check-requires-clause-file g c =
    let w = g.P.Plan.work c.args.plan.now in
    let wide = c.requires.may.wide in
    let inside = c.if-not-is_missing.ensures.inside in
    let lt : c.args.item < length w.items = omega arith in
    file_below w c.args.seat.now.view c.args.item c.file_of.result (g.met.P.Plan.sound c.args.plan.now) c.requires.may.work lt c.file_of.ensures

pub returns-then-not-check-clause-may : goal.returns-then-not-check-clause-may
returns-then-not-check-clause-may g c =
    may_later (g.P.Readable.found_in c.args.plan.now) (g.P.Plan.work c.args.plan.now) c.args.words.now c.args.seat.now c.check.new.self c.args.results.now
    (record { table = c.check.ensures.table; later = c.check.ensures.later }) c.requires.may

pub read_anyway-requires-clause-may : goal.read_anyway-requires-clause-may
read_anyway-requires-clause-may g c κs within =
    let w = g.P.Plan.work c.args.plan.now in
    let wide = c.requires.may.wide in
    let inside = c.if-not-is_missing.ensures.inside in
    let lt : c.args.item < length w.items = omega arith in
    may_begin w c.check.new.self.view c.args.item c.file_of.result (c.check.ensures.later.same ∙ c.requires.may.work) lt c.file_of.ensures c.if-not-check.ensures.known

pub returns-clause-may : goal.returns-clause-may
returns-clause-may g c =
    let w = g.P.Plan.work c.args.plan.now in
    let found = g.P.Readable.found_in c.args.plan.now in
    let wide = c.requires.may.wide in
    let inside = c.if-not-is_missing.ensures.inside in
    let lt : c.args.item < length w.items = omega arith in
    let v = c.args.seat.now.view in
    let u = c.check.new.self.view in
    let z = c.read_anyway.new.seat.view in
    let x = c.in_ok-found.found in
    let checked : GoesOn c.args.seat.now c.check.new.self = record { table = c.check.ensures.table; later = c.check.ensures.later } in
    let goes = goes_then checked c.read_anyway.ensures.goes_on in
    let may = may_begin w u c.args.item c.file_of.result (c.check.ensures.later.same ∙ c.requires.may.work) lt c.file_of.ensures c.if-not-check.ensures.known in
    record {
      table = goes.table ∙ c.requires.may.table;
      work = goes.later.same ∙ c.requires.may.work;
      wide = length-set c.args.results.now c.args.item (Some x) ∙ wide;
      found = found_set found z c.args.results.now c.args.item x (are_found_later found v z c.args.results.now goes.later c.requires.may.found)
          (found_now found u z c.args.item x may c.read_anyway.ensures.goes_on.later c.in_ok-found.ensures.read c.in_ok-found.ensures.found);
    }

pub returns-clause-visit : goal.returns-clause-visit
returns-clause-visit g c = missing_set c.args.results.now c.args.item c.in_ok-found.found c.if-not-is_missing.ensures.missing

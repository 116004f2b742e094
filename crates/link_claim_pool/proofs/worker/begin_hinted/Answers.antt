use Rattle.std.proofs.Common.{◌<◌, length, ◌∙◌, arith}
use Rattle.std.proofs.lemmas.Bool.Decides.{nat_tests}
use Rattle.std.proofs.lemmas.Bool.{OnTrue_from}
use Rattle.link_claim_pool.specs.Found.{IsBegun}
use Rattle.link_claim.proofs.Later.{later_then}
use Rattle.link_claim_pool.proofs.Items.{file_below, may_begin}
use Rattle.link_claim_pool.proofs.Begins.{check_begins, begin_begins}
use Rattle.link_claim_pool.proofs.worker.begin_hinted.Goals as goal

pub check-requires-clause-file : goal.check-requires-clause-file
check-requires-clause-file g c =
    let w = g.P.Plan.work c.args.plan.now in
    let count = c.items.ensures in
    let inside = c.if-item-items.false in
    let lt : c.args.item < length w.items = grind (arith, nat_tests) in
    file_below w c.args.seat.now.view c.args.item c.file_of.result (g.met.P.Plan.sound c.args.plan.now) c.requires.work lt c.file_of.ensures

pub begin-requires-clause-may : goal.begin-requires-clause-may
begin-requires-clause-may g c =
    let w = g.P.Plan.work c.args.plan.now in
    let count = c.items.ensures in
    let inside = c.if-item-items.false in
    let lt : c.args.item < length w.items = grind (arith, nat_tests) in
    may_begin w c.check.new.self.view c.args.item c.file_of.result (c.check.ensures.later.same ∙ c.requires.work) lt c.file_of.ensures c.if-not-check.ensures.known

pub returns-clause-begun : goal.returns-clause-begun
returns-clause-begun g c =
    let w = g.P.Plan.work c.args.plan.now in
    let count = c.items.ensures in
    let inside = c.if-item-items.false in
    let lt : c.args.item < length w.items = grind (arith, nat_tests) in
    let later = later_then c.check.ensures.later c.begin.ensures.later in
    let known = c.begin.ensures.later.known c.file_of.result c.if-not-check.ensures.known in
    let may = may_begin w c.begin.new.self.view c.args.item c.file_of.result (later.same ∙ c.requires.work) lt c.file_of.ensures known in
    OnTrue_from c.begin.result (IsBegun w c.begin.new.self.view c.args.item) (λ e. (lt, c.begin.ensures.known, may))

pub returns-then-not-check-clause-begins : goal.returns-then-not-check-clause-begins
returns-then-not-check-clause-begins g c = check_begins c.check.result c.file_of.result c.args.seat.now.view c.check.new.self.view c.check.ensures.view

pub returns-clause-begins : goal.returns-clause-begins
returns-clause-begins g c =
    let v = c.args.seat.now.view in
    let u = c.check.new.self.view in
    begin_begins c.begin.result c.args.item v u c.begin.new.self.view (check_begins c.check.result c.file_of.result v u c.check.ensures.view) c.begin.ensures.view

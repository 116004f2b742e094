use Rattle.std.proofs.Common.{◌≡◌, sym, ap, ◌∙◌, subst, length, drop, arith}
use Rattle.link_claim.specs.Later.{HasReadAll}
use Rattle.link_claim_pool.specs.Found.{AreFound}
use Rattle.link_claim_pool.specs.Results.{AreResultsOf}
use Rattle.link_claim_pool.proofs.Findings.{none_are_found, all_read, results_are, written}
use Rattle.link_claim_pool.proofs.pool.read_all.Goals as goal

pub read_known-requires-clause-found : goal.read_known-requires-clause-found
read_known-requires-clause-found g c κs within =
    let found = g.P.Readable.found_in c.args.plan.now in
    let v = c.begin.new.seat.view in
    subst (AreFound found v) (sym c.as_mut_slice-slots.ensures.value) (none_are_found found v c.in_ok-found.found.items c.in_ok-found.ensures.found)

pub returns-clause-read : goal.returns-clause-read
returns-clause-read g c =
    let w = g.P.Plan.work c.args.plan.now in
    let v = c.read_known.new.seat.view in
    let rest = c.read_known.ensures.later in
    let a = c.read_known.auto.results in
    let d = c.as_mut_slice-slots.ensures.len in
    let n = c.in_ok-found.ensures.count in
    let m = c.items.ensures in
    let e = ap length c.as_mut_slice-slots.ensures.value in
    subst HasReadAll (sym c.close-closed.ensures.view)
    (all_read (g.P.Readable.found_in c.args.plan.now) w v c.read_known.new.results (rest.same ∙ c.begin.ensures.later.same ∙ c.requires.work) (omega arith)
    c.in_ok-joined.ensures.found c.in_ok-joined.ensures.left (λ f has. rest.known f (c.in_ok-hints.ensures.known f has)) (λ k has. rest.marks k (c.in_ok-hints.ensures.listed k has)))

pub returns-clause-settled : goal.returns-clause-settled
returns-clause-settled g c =
    let read = returns-clause-read g c in
    c.close-closed.ensures.settled (subst HasReadAll c.close-closed.ensures.view read)

pub returns-clause-found : goal.returns-clause-found
returns-clause-found g c =
    let w = g.P.Plan.work c.args.plan.now in
    let found = g.P.Readable.found_in c.args.plan.now in
    let v = c.read_known.new.seat.view in
    let s = c.read_known.new.results in
    let rest = c.read_known.ensures.later in
    let a = c.read_known.auto.results in
    let d = c.as_mut_slice-slots.ensures.len in
    let n = c.in_ok-found.ensures.count in
    let m = c.items.ensures in
    let e = ap length c.as_mut_slice-slots.ensures.value in
    let wide : length s ≡ length w.items = omega arith in
    let whole : length s ≡ c.in_ok-found.found.len = omega (arith, c.in_ok-found.found.ok) in
    let right = results_are found w v s (rest.same ∙ c.begin.ensures.later.same ∙ c.requires.work) wide c.in_ok-joined.ensures.found c.in_ok-joined.ensures.left
    c.close-closed.result c.close-closed.ensures.view (returns-clause-settled g c) in
    subst (AreResultsOf w found c.close-closed.result) (sym (written s (drop (length s) c.in_ok-found.found.items) c.in_ok-found.found.len whole)) right

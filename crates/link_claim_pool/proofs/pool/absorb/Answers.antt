use Rattle.std.proofs.Common.{◌≡◌, Some, length, sym, ◌∙◌, subst, inl, inr, arith}
use Rattle.std.proofs.lemmas.List.Elements.{All-pop}
use Rattle.link_claim_pool.specs.Found.{IsFound, AreFound}
use Rattle.link_claim_pool.proofs.Findings.{are_found_later, all_found_later, found_below, found_set}
use Rattle.link_claim_pool.proofs.Begins.{in_hand_put, in_hand_end, written_join}
use Rattle.link_claim_pool.proofs.pool.absorb.Goals as goal

pub loop-finding-init : goal.loop-finding-init
loop-finding-init g c =
    let found = g.P.Readable.found_in c.args.plan.now in
    let u = c.join.new.self.view in
    let back = c.requires.back in
    record {
      found = are_found_later found c.args.seat.now.view u c.args.results.now c.join.ensures.later c.requires.found;
      rest = all_found_later found c.args.back.seat.view u c.args.back.findings.items c.join.ensures.later_than_other back.2;
      in_hand = λ i has. has;
    }

pub put-requires : goal.put-requires
put-requires g c =
    let found = g.P.Readable.found_in c.args.plan.now in
    let u = c.join.new.self.view in
    let f = c.in-Some.finding in
    let popped =
    All-pop (λ f. IsFound found u f.item f.found) c.loop-finding.findings.items c.pop.new.self.items (Some f) c.in-Some.ensures.items c.loop-finding.invariant.rest in
    found_below found (g.P.Plan.work c.args.plan.now) u f.item _ f.found (c.join.ensures.later.same ∙ c.requires.work) (c.loop-finding.auto.results ∙ c.requires.wide) popped.1

pub loop-finding-preserved : goal.loop-finding-preserved
loop-finding-preserved g c =
    let found = g.P.Readable.found_in c.args.plan.now in
    let u = c.join.new.self.view in
    let f = c.in-Some.finding in
    let results = c.loop-finding.results in
    let popped =
    All-pop (λ f. IsFound found u f.item f.found) c.loop-finding.findings.items c.pop.new.self.items (Some f) c.in-Some.ensures.items c.loop-finding.invariant.rest in
    let lt = found_below found (g.P.Plan.work c.args.plan.now) u f.item _ f.found (c.join.ensures.later.same ∙ c.requires.work) (c.loop-finding.auto.results ∙ c.requires.wide) popped.1 in
    record {
      found = subst (AreFound found u) (sym c.put.ensures) (found_set found u results f.item f.found c.loop-finding.invariant.found popped.1);
      rest = popped.0;
      in_hand = λ i has.
          in_hand_put c.put.new.results results c.loop-finding.findings.items c.pop.new.self.items f c.put.ensures lt c.in-Some.ensures.items i
          (c.loop-finding.invariant.in_hand i has);
    }

pub returns-clause-stays : goal.returns-clause-stays
returns-clause-stays g c i has =
    let empty = c.in_default.ensures.cases.0 in
    let fs = c.loop-finding.findings in
    let none : length fs.items ≡ 0 = omega (arith, fs.ok) in
    in_hand_end c.loop-finding.results fs.items none i (c.loop-finding.invariant.in_hand i (inl has))

pub returns-clause-taken : goal.returns-clause-taken
returns-clause-taken g c =
    let empty = c.in_default.ensures.cases.0 in
    let fs = c.loop-finding.findings in
    let none : length fs.items ≡ 0 = omega (arith, fs.ok) in
    (c.join.ensures.later_than_other, λ i has. in_hand_end c.loop-finding.results fs.items none i (c.loop-finding.invariant.in_hand i (inr has)))

pub returns-clause-written : goal.returns-clause-written
returns-clause-written g c before old =
    let empty = c.in_default.ensures.cases.0 in
    let fs = c.loop-finding.findings in
    let none : length fs.items ≡ 0 = omega (arith, fs.ok) in
    written_join before c.args.seat.now.view c.args.back.seat.view c.join.new.self.view c.args.results.now c.loop-finding.results c.args.back.findings.items c.join.ensures.view
    (λ i has. in_hand_end c.loop-finding.results fs.items none i (c.loop-finding.invariant.in_hand i has)) c.requires.back.3 old

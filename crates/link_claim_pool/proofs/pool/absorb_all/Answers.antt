use Rattle.std.proofs.Common.{◌≡◌, Some, IfOk, refl, ◌∙◌, subst, length, inl, arith}
use Rattle.std.proofs.lemmas.List.Elements.{All-pop}
use Rattle.link_claim.proofs.Later.{later_self, later_then}
use Rattle.link_claim_pool.specs.Jobs.{IsBack}
use Rattle.link_claim_pool.proofs.Begins.{none_taken, taken_more, all_taken}
use Rattle.link_claim_pool.proofs.pool.absorb_all.Goals as goal

pub absorb-requires-clause-back : goal.absorb-requires-clause-back
absorb-requires-clause-back g c κs within =
    let is = IsBack (g.P.Plan.work c.args.plan.now) (g.P.Readable.found_in c.args.plan.now) c.args.words.now in
    let popped = All-pop (λ r. IfOk r is) c.loop-back.backs.items c.pop.new.self.items (Some c.in-Some.back) c.in-Some.ensures.items c.loop-back.invariant.rest in
    subst (λ r. IfOk r is) c.in_ok-back.was popped.1

pub loop-back-init : goal.loop-back-init
loop-back-init g c = record {
  table = refl;
  later = later_self c.args.seat.now.view;
  found = c.requires.found;
  written = λ i has. inl has;
  taken = none_taken c.args.seat.now.view c.args.results.now c.args.backs.items;
  rest = c.requires.back;
}

pub loop-back-preserved : goal.loop-back-preserved
loop-back-preserved g c =
    let is = IsBack (g.P.Plan.work c.args.plan.now) (g.P.Readable.found_in c.args.plan.now) c.args.words.now in
    let popped = All-pop (λ r. IfOk r is) c.loop-back.backs.items c.pop.new.self.items (Some c.in-Some.back) c.in-Some.ensures.items c.loop-back.invariant.rest in
    record {
      table = c.absorb.ensures.table ∙ c.loop-back.invariant.table;
      later = later_then c.loop-back.invariant.later c.absorb.ensures.later;
      found = c.absorb.ensures.found;
      taken = taken_more c.loop-back.seat.view c.absorb.new.seat.view c.loop-back.results c.absorb.new.results c.absorb.ensures.later c.absorb.ensures.stays
          c.args.backs.items c.loop-back.backs.items c.pop.new.self.items c.in-Some.back _ c.in_ok-back.was c.in-Some.ensures.items c.absorb.ensures.taken c.loop-back.invariant.taken;
      written = c.absorb.ensures.written c.args.seat.now.view.begins c.loop-back.invariant.written;
      rest = popped.0;
    }

pub returns-clause-taken : goal.returns-clause-taken
returns-clause-taken g c =
    let empty = c.in_default.ensures.cases.0 in
    let left = c.loop-back.backs in
    let none : length left.items ≡ 0 = omega (arith, left.ok) in
    all_taken c.loop-back.seat.view c.loop-back.results c.args.backs.items left.items none c.loop-back.invariant.taken

use Rattle.std.proofs.Common.{◌<◌, Some, ap, sym, ◌∙◌, arith}
use Rattle.std.proofs.lemmas.Bool.Decides.{nat_tests}
use Rattle.std.specs.Prelude.{slice_get}
use Rattle.link_closure.specs.declared.workload.Item.{Item}
use Rattle.link_claim_pool.specs.Examples.{item_is, first_request, second_request, past_two, third_of_found}
use Rattle.link_tests_claim.proofs.pool.ScatteredReadable.request_at.Goals as goal

pub returns-then-item-self : goal.returns-then-item-self
returns-then-item-self c it has =
    let on = c.if-item-self.true in
    let third = third_of_found c.args.read.now c.args._item c.requires in
    let lt = (item_is c.args.self.now.chain c.args.self.now.files c.args.self.now.roots c.args._item it has).0 in
    absurd (grind (arith, nat_tests))

pub returns-in-0 : goal.returns-in-0
returns-in-0 c it has =
    ap Some (c.first_request.ensures.is ∙ ap (first_request c.args.self.now.chain c.args.self.now.files) (third_of_found c.args.read.now c.args._item c.requires))
    ∙ ap (λ (t : Item). slice_get t.requests 0) (item_is c.args.self.now.chain c.args.self.now.files c.args.self.now.roots c.args._item it has).1
    ∙ ap (λ k. slice_get it.requests k) (sym c.in-0.is)

pub returns-in-1 : goal.returns-in-1
returns-in-1 c it has =
    ap Some (c.second_request.ensures.is ∙ ap (second_request c.args.self.now.chain c.args.self.now.files) (third_of_found c.args.read.now c.args._item c.requires))
    ∙ ap (λ (t : Item). slice_get t.requests 1) (item_is c.args.self.now.chain c.args.self.now.files c.args.self.now.roots c.args._item it has).1
    ∙ ap (λ k. slice_get it.requests k) (sym c.in-1.is)

pub returns-in_default : goal.returns-in_default
returns-in_default c it has =
    let out = c.in_default in
    let past : 1 < c.args.index = grind (arith, nat_tests) in
    past_two (first_request c.args.self.now.chain c.args.self.now.files c.args._item) (second_request c.args.self.now.chain c.args.self.now.files c.args._item) c.args.index past
    ∙ ap (λ (t : Item). slice_get t.requests c.args.index) (item_is c.args.self.now.chain c.args.self.now.files c.args.self.now.roots c.args._item it has).1

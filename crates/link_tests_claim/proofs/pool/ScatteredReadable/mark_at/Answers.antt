use Rattle.std.proofs.Common.{◌%◌, ◌<◌, ℕ, Some, ap, sym, ◌∙◌, arith}
use Rattle.std.proofs.lemmas.Bool.Decides.{nat_tests}
use Rattle.std.specs.Prelude.{slice_get}
use Rattle.link_closure.specs.declared.workload.Item.{Item}
use Rattle.link_claim_pool.specs.Examples.{item_is, past_one, third_of_found}
use Rattle.link_tests_claim.proofs.pool.ScatteredReadable.mark_at.Goals as goal

pub returns-in-0 : goal.returns-in-0
returns-in-0 c it has =
    ap (λ (s : ℕ). Some (record { symbol = s; bits = 2 })) c.from_usize.ensures
    ∙ ap (λ (i : ℕ). Some (record { symbol = i % 8; bits = 2 })) (third_of_found c.args.read.now c.args._item c.requires)
    ∙ ap (λ (t : Item). slice_get t.marks 0) (item_is c.args.self.now.chain c.args.self.now.files c.args.self.now.roots c.args._item it has).1
    ∙ ap (λ k. slice_get it.marks k) (sym c.in-0.is)

pub returns-in_default : goal.returns-in_default
returns-in_default c it has =
    let out = c.in_default in
    let past : 0 < c.args.index = grind (arith, nat_tests) in
    past_one _ c.args.index past
    ∙ ap (λ (t : Item). slice_get t.marks c.args.index) (item_is c.args.self.now.chain c.args.self.now.files c.args.self.now.roots c.args._item it has).1

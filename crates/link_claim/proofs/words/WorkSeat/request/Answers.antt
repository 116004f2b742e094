use Rattle.std.proofs.Common.{◌<◌, ◌+◌, sym, ap, ◌∙◌, subst, arith, IsTrue}
use Rattle.link_closure.specs.Workload.{IsSound}
use Rattle.link_claim.specs.Views.{Seated, MayRequest}
use Rattle.link_claim.specs.Seats.{Place}
use Rattle.link_claim.proofs.Moves.{sees_claim, takes_claim}
use Rattle.link_claim.proofs.Calls.{file_word, when_zero}
use Rattle.std.proofs.Common.{rules, false}
use Rattle.std.specs.Prelude.{◌==◌}
use Rattle.link_claim.proofs.Later.{after_request}
use Rattle.link_claim.proofs.words.WorkSeat.request.Goals as goal

pub overflow_add-file : goal.overflow_add-file
overflow_add-file g c =
    let may = subst (λ (p : Place). MayRequest p.view c.args.file) (sym c.self.view_is) c.requires.asked in
    let bound = file_word _ _ _ _ c.self.invariant.1 c.args.file may in omega arith

pub load-requires : goal.load-requires
load-requires g c =
    let may = subst (λ (p : Place). MayRequest p.view c.args.file) (sym c.self.view_is) c.requires.asked in
    let table = ap (λ (p : Place). p.table) c.self.view_is ∙ c.requires.table ∙ sym c.words.view_is in
    let placed = c.self.invariant.1 in
    let bound = file_word _ _ _ _ placed c.args.file may in (
      table,
      subst (λ z. 1 + c.args.file < z.words) table bound.0,
      sees_claim _ _ _ _ c.args.file placed.live placed.sound may,
    )

pub overflow_add-file-2 : goal.overflow_add-file-2
overflow_add-file-2 g c =
    let may = subst (λ (p : Place). MayRequest p.view c.args.file) (sym c.self.view_is) c.requires.asked in
    let bound = file_word _ _ _ _ c.self.invariant.1 c.args.file may in omega arith

pub swap-requires : goal.swap-requires
swap-requires g c =
    let may = subst (λ (p : Place). MayRequest p.view c.args.file) (sym c.self.view_is) c.requires.asked in
    let table = ap (λ (p : Place). p.table) c.self.view_is ∙ c.requires.table ∙ sym c.words.view_is in
    let placed = c.self.invariant.1 in
    let bound = file_word _ _ _ _ placed c.args.file may in
    let same = when_zero c.load.result _ _ c.if-load-ne0.false c.load.ensures.2 in
    let P : Seated → Type 0 = λ me. IsTrue me.0.live × IsSound me.0.work × MayRequest me.0 c.args.file in
    let facts : P c.load.new.seat.me = subst P (sym same) (placed.live, placed.sound, may) in (
      c.load.ensures.0 ∙ table,
      subst (λ z. 1 + c.args.file < z.words) table bound.0,
      takes_claim _ _ _ _ c.args.file facts.0 facts.1 facts.2,
    )

pub returns-then-load-ne0-clause-view : goal.returns-then-load-ne0-clause-view
returns-then-load-ne0-clause-view g c = search rules

pub returns-then-load-ne0-clause-later : goal.returns-then-load-ne0-clause-later
returns-then-load-ne0-clause-later g c = (after_request false c.args.file _ _ (returns-then-load-ne0-clause-view g c)).0

pub returns-then-load-ne0-clause-known : goal.returns-then-load-ne0-clause-known
returns-then-load-ne0-clause-known g c = (after_request false c.args.file _ _ (returns-then-load-ne0-clause-view g c)).1

pub returns-clause-view : goal.returns-clause-view
returns-clause-view g c = search rules

pub returns-clause-later : goal.returns-clause-later
returns-clause-later g c = (after_request (c.swap.result == 0) c.args.file _ _ (returns-clause-view g c)).0

pub returns-clause-known : goal.returns-clause-known
returns-clause-known g c = (after_request (c.swap.result == 0) c.args.file _ _ (returns-clause-view g c)).1

use Rattle.std.proofs.Common.{arith, refl}
use Rattle.std.proofs.lemmas.Result.{err_from_is_err_and}
use Rattle.link_script_syntax.proofs.Sections.{sorted_side, sorted_global, sorted_local, sorted_fails, sorted_ends}
use Rattle.link_script_syntax.proofs.body.pieces_at.Goals as goal

pub returns-in_err-item-clause-gives : goal.returns-in_err-item-clause-gives
returns-in_err-item-clause-gives c =
    let p = err_from_is_err_and c.from_residual.result c.from_residual.ensures.1 in
    rw (p.1, p.2) (sorted_fails c.args.profile c.in_err-item.field-0.0 c.turns.globals c.turns.locals c.turns.now c.turns.rest.now c.args.text.now c.in_err-item.ensures.gives c.turns.invariant.sorted)

pub returns-in-None-clause-gives : goal.returns-in-None-clause-gives
returns-in-None-clause-gives c = sorted_ends c.args.profile c.turns.globals c.turns.locals c.turns.now c.turns.rest.now c.in_ok-item.after.now c.args.text.now (rw c.in-None.is at c.in_ok-item.ensures.gives) c.turns.invariant.sorted

pub turns-preserved-in-Some-Side : goal.turns-preserved-in-Some-Side
turns-preserved-in-Some-Side c = record { sorted = sorted_side c.args.profile c.turns.globals c.turns.locals c.turns.now c.in-Some-Side.side c.turns.rest.now c.in_ok-item.after.now c.args.text.now (rw (c.in-Some-Side.is, c.in-Some-Side.field-0-is) at c.in_ok-item.ensures.gives) ((rw c.in-Some-Side.is at c.in_ok-item.ensures.shorter) refl) c.turns.invariant.sorted; shorter = omega (arith, c.in_ok-item.ensures.no_longer) }

pub turns-preserved-in-Continue-branch-2 : goal.turns-preserved-in-Continue-branch-2
turns-preserved-in-Continue-branch-2 c =
    let so_far = rw c.in-Global.is at c.turns.invariant.sorted in
    record { sorted = rw c.in-Global.is (sorted_global c.args.profile c.turns.globals c.turns.locals c.push.new.self c.in-Some-Entry.entry c.turns.rest.now c.in_ok-item.after.now c.args.text.now (rw (c.in-Some-Entry.is, c.in-Some-Entry.field-0-is) at c.in_ok-item.ensures.gives) ((rw c.in-Some-Entry.is at c.in_ok-item.ensures.shorter) refl) c.in_ok-push-in-Global.ensures.ok so_far); shorter = omega (arith, c.in_ok-item.ensures.no_longer) }

pub turns-preserved : goal.turns-preserved
turns-preserved c =
    let so_far = rw c.in-Local.is at c.turns.invariant.sorted in
    record { sorted = rw c.in-Local.is (sorted_local c.args.profile c.turns.globals c.turns.locals c.push-in-Local.new.self c.in-Some-Entry.entry c.turns.rest.now c.in_ok-item.after.now c.args.text.now (rw (c.in-Some-Entry.is, c.in-Some-Entry.field-0-is) at c.in_ok-item.ensures.gives) ((rw c.in-Some-Entry.is at c.in_ok-item.ensures.shorter) refl) c.in_ok-push-in-Local.ensures.ok so_far); shorter = omega (arith, c.in_ok-item.ensures.no_longer) }

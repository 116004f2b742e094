use Rattle.std.proofs.Common.{◌<◌, inr, length, sym, ap, ◌∙◌, subst}
use Rattle.link_closure.specs.declared.workload.Mark.{Mark}
use Rattle.link_claim.specs.declared.view.View.{View}
use Rattle.link_claim.specs.Views.{MayMark, Shows, with_write}
use Rattle.link_claim.proofs.Later.{asked_all, asked_missing}
use Rattle.link_claim.proofs.flags.join_missing.Goals as goal

pub returns-then-found-bits-clause-view : goal.returns-then-found-bits-clause-view
returns-then-found-bits-clause-view g c = asked_all (record { symbol = c.args.symbol; bits = c.args.bits }) _ _ _ c.look_for-found.ensures.view c.if-found-bits.true

pub write_bits-requires-clause-symbol : goal.write_bits-requires-clause-symbol
write_bits-requires-clause-symbol g c =
    let missed = asked_missing (record { symbol = c.args.symbol; bits = c.args.bits }) _ _ _ c.look_for-found.ensures.view c.if-found-bits.false in
    subst (λ (v : View). c.args.symbol < length v.work.opening) (sym missed) c.requires.symbol

pub write_bits-requires-clause-may : goal.write_bits-requires-clause-may
write_bits-requires-clause-may g c =
    let m : Mark = record { symbol = c.args.symbol; bits = c.args.bits } in
    let missed = asked_missing m _ _ _ c.look_for-found.ensures.view c.if-found-bits.false in
    subst (λ (v : View). MayMark v m) (sym missed) c.requires.may

pub returns-clause-view : goal.returns-clause-view
returns-clause-view g c =
    let m : Mark = record { symbol = c.args.symbol; bits = c.args.bits } in
    let missed = asked_missing m _ _ _ c.look_for-found.ensures.view c.if-found-bits.false in
    inr (c.write_bits.ensures.view ∙ ap (with_write m c.write_bits.result) missed)

pub returns-clause-shows : goal.returns-clause-shows
returns-clause-shows g c =
    let missed = asked_missing (record { symbol = c.args.symbol; bits = c.args.bits }) _ _ _ c.look_for-found.ensures.view c.if-found-bits.false in
    let P : View → Type 0 = λ v. Shows v c.args.symbol c.write_bits.result in
    let shows = subst P missed c.write_bits.ensures.shows in record { opening = shows.opening; listed = shows.listed; most = shows.most }

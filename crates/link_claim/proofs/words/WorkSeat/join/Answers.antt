use Rattle.std.proofs.Common.{◌<◌, ap, ◌∙◌, subst}
use Rattle.link_claim.specs.Seats.{Place}
use Rattle.link_claim.proofs.Moves.{merges}
use Rattle.link_claim.proofs.Calls.{some_word}
use Rattle.std.proofs.Common.{rules, sym}
use Rattle.link_claim.specs.Later.{IsLater}
use Rattle.link_claim.proofs.Later.{joined_left, joined_right}
use Rattle.link_claim.proofs.words.WorkSeat.join.Goals as goal

pub join_seat-requires : goal.join_seat-requires
join_seat-requires g c =
    let table = ap (λ (p : Place). p.table) (c.self.view_is ∙ c.same_work.ensures.same) ∙ c.requires.table ∙ sym c.words.view_is in
    let other = ap (λ (p : Place). p.table) (c.other.view_is ∙ c.same_work.ensures.other) ∙ c.requires.other ∙ sym c.words.view_is in
    (table, other, c.other.invariant.0, subst (λ z. 0 < z.words) table (some_word _ _ _ _ c.self.invariant.1), merges _ _ _ _ _ c.self.invariant.1.live)

pub returns-clause-view : goal.returns-clause-view
returns-clause-view g c = search rules

pub returns-clause-later : goal.returns-clause-later
returns-clause-later g c = subst (IsLater c.args.self.now.view) (sym (returns-clause-view g c)) (joined_left c.args.self.now.view c.args.other.view)

pub returns-clause-later_than_other : goal.returns-clause-later_than_other
returns-clause-later_than_other g c = subst (IsLater c.args.other.view) (sym (returns-clause-view g c)) (joined_right c.args.self.now.view c.args.other.view c.same_work.ensures.work)

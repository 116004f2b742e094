use Rattle.std.proofs.Common.{◌<◌, ap, ◌∙◌, sym, subst}
use Rattle.link_claim.specs.Seats.{Place}
use Rattle.link_claim.proofs.Calls.{some_word}
use Rattle.link_claim.proofs.words.WorkSeat.same_work.Goals as goal

pub tell_one_work-requires : goal.tell_one_work-requires
tell_one_work-requires g c =
    let table = ap (λ (p : Place). p.table) c.self.view_is ∙ c.requires.table ∙ sym c.words.view_is in
    let other = ap (λ (p : Place). p.table) c.other.view_is ∙ c.requires.other ∙ sym c.words.view_is in
    record { table = table; other = other; word = subst (λ z. 0 < z.words) table (some_word _ _ _ _ c.self.invariant.1); live = c.self.invariant.1.live; other_live = c.other.invariant.1.live }

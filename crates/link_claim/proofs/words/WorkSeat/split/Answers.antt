use Rattle.std.proofs.Common.{◌<◌, sym, ap, ◌∙◌, subst}
use Rattle.link_claim.specs.Seats.{Place}
use Rattle.link_claim.proofs.Moves.{splits}
use Rattle.link_claim.proofs.Calls.{some_word}
use Rattle.link_claim.proofs.words.WorkSeat.split.Goals as goal

pub split_seat-seat-requires : goal.split_seat-seat-requires
split_seat-seat-requires g c =
    let table = ap (λ (p : Place). p.table) c.self.view_is ∙ c.requires ∙ sym c.words.view_is in
    (table, subst (λ z. 0 < z.words) table (some_word _ _ _ _ c.self.invariant.1), splits _ _ _)

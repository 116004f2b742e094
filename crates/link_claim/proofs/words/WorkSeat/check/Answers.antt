use Rattle.std.proofs.Common.{◌<◌, ◌+◌, sym, ap, ◌∙◌, subst}
use Rattle.link_claim.specs.Seats.{Place}
use Rattle.link_claim.proofs.Moves.{checks}
use Rattle.link_claim.proofs.Calls.{claim_word}
use Rattle.std.proofs.Common.{rules}
use Rattle.link_claim.proofs.Later.{after_check}
use Rattle.link_claim.proofs.words.WorkSeat.check.Goals as goal

pub load-requires : goal.load-requires
load-requires g c =
    let lt = subst (λ (p : Place). c.args.file < p.view.work.files) (sym c.self.view_is) c.requires.file in
    let table = ap (λ (p : Place). p.table) c.self.view_is ∙ c.requires.table ∙ sym c.words.view_is in
    let placed = c.self.invariant.1 in
    (table, subst (λ z. 1 + c.args.file < z.words) table (claim_word _ _ _ _ placed c.args.file lt).0, checks _ _ _ _ c.args.file placed.live lt)

pub returns-clause-view : goal.returns-clause-view
returns-clause-view g c = search rules

pub returns-clause-later : goal.returns-clause-later
returns-clause-later g c = (after_check _ c.args.file _ _ (returns-clause-view g c)).0

pub returns-clause-known : goal.returns-clause-known
returns-clause-known g c = (after_check _ c.args.file _ _ (returns-clause-view g c)).1

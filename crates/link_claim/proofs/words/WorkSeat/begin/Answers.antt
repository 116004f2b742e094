use Rattle.std.proofs.Common.{◌<◌, ℕ, ◌+◌, sym, ap, ◌∙◌, subst}
use mathlib.Core.Option.{none}
use Rattle.atomic_table.specs.Table.{step, Allows}
use Rattle.link_claim.specs.Rule.{Holds}
use Rattle.link_claim.specs.Views.{MayBegin, took_begin}
use Rattle.link_claim.specs.Seats.{Place}
use Rattle.link_claim.proofs.Moves.{takes_begin}
use Rattle.link_claim.proofs.Calls.{item_word}
use Rattle.std.proofs.Common.{rules}
use Rattle.std.specs.Prelude.{◌==◌}
use Rattle.link_claim.proofs.Later.{after_begin}
use Rattle.link_claim.proofs.words.WorkSeat.begin.Goals as goal

pub swap-requires : goal.swap-requires
swap-requires g c =
    let may = subst (λ (p : Place). MayBegin p.view c.args.item) (sym c.self.view_is) c.requires.may in
    let table = ap (λ (p : Place). p.table) c.self.view_is ∙ c.requires.table ∙ sym c.words.view_is in
    let placed = c.self.invariant.1 in
    let bound = item_word _ _ _ _ placed c.args.item may in
    let P : ℕ → Type 0 = λ files. Allows (Holds (g.P.Plan.work c.words.inside.table.shared.key)) c.words.inside.table.shared.table_id.slots c.self.inside.seat.id c.self.inside.seat.me (1 + files + c.args.item) (λ n. 1)
    (took_begin (step c.words.inside.table.shared.table_id.slots (1 + files + c.args.item) 1 0 none) c.self.inside.seat.me) in (
      table,
      subst (λ z. 1 + c.self.inside.files + c.args.item < z.words) table bound.0,
      subst P (sym placed.files_is) (takes_begin _ _ _ _ c.args.item placed.live may),
    )

pub returns-clause-view : goal.returns-clause-view
returns-clause-view g c = search rules

pub returns-clause-later : goal.returns-clause-later
returns-clause-later g c = (after_begin (c.swap.result == 0) c.args.item _ _ (returns-clause-view g c)).0

pub returns-clause-known : goal.returns-clause-known
returns-clause-known g c = (after_begin (c.swap.result == 0) c.args.item _ _ (returns-clause-view g c)).1

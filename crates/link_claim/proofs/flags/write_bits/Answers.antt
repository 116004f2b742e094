use Rattle.std.proofs.Common.{rules, ◌<◌, ℕ, ◌+◌, sym, ap, ◌∙◌, subst, length}
use mathlib.Core.Option.{none}
use Rattle.std.specs.Prelude.{bit_or}
use Rattle.atomic_table.specs.Table.{step, Allows}
use Rattle.link_claim.specs.Workload.{FitsU32}
use Rattle.link_claim.specs.Views.{MayMark, wrote_mark}
use Rattle.link_claim.specs.Rule.{Holds}
use Rattle.link_claim.specs.Seats.{Place}
use Rattle.link_claim.proofs.Moves.{writes_bits}
use Rattle.link_claim.proofs.Calls.{flag_word, shows_fits}
use Rattle.link_claim.proofs.flags.write_bits.Goals as goal

pub fetch_or-requires : goal.fetch_or-requires
fetch_or-requires g c =
    let lt = subst (λ (p : Place). c.args.symbol < length p.view.work.opening) (sym c.seat.view_is) c.requires.symbol in
    let may = subst (λ (p : Place). MayMark p.view (record { symbol = c.args.symbol; bits = c.args.bits })) (sym c.seat.view_is) c.requires.may in
    let table = ap (λ (p : Place). p.table) c.seat.view_is ∙ c.requires.table ∙ sym c.words.view_is in
    let placed = c.seat.invariant.1 in
    let shared = c.words.inside.table.shared in
    let bound = flag_word _ _ _ _ placed c.args.symbol lt in
    let P : ℕ → ℕ → Type 0 = λ files items. Allows (Holds (g.P.Plan.work shared.key)) shared.table_id.slots c.seat.inside.seat.id c.seat.inside.seat.me (1 + files + items + c.args.symbol) (λ n. bit_or n c.args.bits)
    (wrote_mark (step shared.table_id.slots (1 + files + items + c.args.symbol) c.args.bits 0 none) c.seat.inside.seat.me) in (
      table,
      subst (λ z. 1 + c.seat.inside.files + c.seat.inside.items + c.args.symbol < z.words) table bound.0,
      subst (λ (z : ℕ × ℕ). P z.0 z.1) (λ i. (sym placed.files_is i, sym placed.items_is i)) (writes_bits _ _ _ _ c.args.symbol c.args.bits placed.live lt may),
    )

pub returns-clause-shows : goal.returns-clause-shows
returns-clause-shows g c = search rules

pub returns-clause-fits : goal.returns-clause-fits
returns-clause-fits g c = shows_fits _ c.args.symbol _ (subst (λ (p : Place). FitsU32 p.view.work) c.seat.view_is c.seat.invariant.1.fits) c.requires.symbol (returns-clause-shows g c)

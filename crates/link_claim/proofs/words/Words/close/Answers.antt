use Rattle.std.proofs.Common.{sym, ◌∙◌, subst}
use Rattle.atomic_table.specs.declared.shared.Seat.{Seat}
use Rattle.std.specs.Mem.Slots.{slots_items}
use Rattle.link_claim.specs.declared.view.View.{View}
use Rattle.link_claim.specs.Later.{HasReadAll}
use Rattle.link_claim.specs.Seats.{Place, IsEnding, IsPlaced}
use Rattle.link_claim.proofs.Calls.{ends}
use Rattle.link_claim.proofs.Settled.{settled}
use Rattle.link_claim.proofs.words.Words.close.Goals as goal

pub invariant_of-result : goal.invariant_of-result
invariant_of-result g c =
    let words = slots_items c.close_with-closed.result.words in
    let values = c.close_with-closed.ensures.values in
    let placed = c.seat.invariant.1 in
    let P : Seat (Unit {0}) View → Type 0 = λ s. IsEnding words s.me.0 × IsPlaced s.table_id s.me.0 c.seat.inside.files c.seat.inside.items in
    let both : P c.of-seen.result.value = subst P (sym c.of-seen.ensures) (ends _ _ _ words _ placed.live values.2, placed) in
    (values.0, c.close_with-closed.ensures.counts.1 ∙ c.self.invariant, both.0, both.1)

pub returns-clause-rule : goal.returns-clause-rule
returns-clause-rule g c =
    let words = slots_items c.close_with-closed.result.words in
    let values = c.close_with-closed.ensures.values in
    let P : Seat (Unit {0}) View → Type 0 = λ s. IsEnding words s.me.0 in
    subst P (sym c.of-seen.ensures) (ends _ _ _ words _ c.seat.invariant.1.live values.2)

pub returns-clause-settled : goal.returns-clause-settled
returns-clause-settled g c read =
    let words = slots_items c.close_with-closed.result.words in
    let P : Seat (Unit {0}) View → Type 0 = λ s. HasReadAll s.me.0 in
    let all : P c.of-seen.result.value = subst P (sym c.of-seen.ensures) (subst (λ (p : Place). HasReadAll p.view) (sym c.seat.view_is) read) in
    settled words c.of-seen.result.value.me.0 (returns-clause-rule g c) all

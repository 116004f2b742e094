use Rattle.std.proofs.Common.{ℕ, sym, ap, ◌∙◌, subst}
use Rattle.link_claim.specs.Views.{IsMarked}
use Rattle.link_claim.specs.Seats.{FlagPlace, mark_of}
use Rattle.link_claim.proofs.Later.{after_mark}
use Rattle.link_claim.proofs.flags.AtomicValueFlags.fetch_or.Goals as goal

pub returns-clause-view : goal.returns-clause-view
returns-clause-view g c =
    let symbol = c.as_usize.ensures.value ∙ ap (λ (p : FlagPlace). p.symbol) c.self.view_is in
    let bits = c.from-bits.ensures ∙ c.bits.ensures tt in
    let P : ℕ → ℕ → ℕ → Type 0 = λ x b n. IsMarked (record { symbol = x; bits = b }) n c.args.seat.now.view c.join_missing-found.new.seat.view in
    subst (λ (z : ℕ × ℕ × ℕ). P z.0 z.1 z.2) (λ i. (symbol i, bits i, sym c.flags_of_word.ensures i)) c.join_missing-found.ensures.view

pub returns-clause-later : goal.returns-clause-later
returns-clause-later g c = (after_mark (mark_of c.args.self.now c.args.flags) _ _ _ (returns-clause-view g c)).0

pub returns-clause-listed : goal.returns-clause-listed
returns-clause-listed g c = (after_mark (mark_of c.args.self.now c.args.flags) _ _ _ (returns-clause-view g c)).1

use Rattle.std.proofs.Common.{ℕ, [], List, length, sym, refl, ap, ◌∙◌, subst}
use Rattle.atomic_table.specs.Table.{opening}
use Rattle.link_claim.specs.Rule.{Holds}
use Rattle.link_claim.specs.Views.{Seated, first_view}
use Rattle.link_claim.specs.Seats.{IsPlaced}
use Rattle.link_claim.proofs.Moves.{length-opening, opens_as}
use Rattle.link_claim.proofs.words.Words.create.Goals as goal

pub of_words-requires : goal.of_words-requires
of_words-requires g c =
    let w = g.P.Plan.work c.args.plan.now in
    let same = c.as_slice.ensures.value ∙ c.in_ok-words.ensures.words in
    subst (λ (ws : List ℕ). Holds w (opening ws [] (first_view w))) (sym same) (opens_as w (g.met.P.Plan.sound c.args.plan.now))

pub invariant_of-seat : goal.invariant_of-seat
invariant_of-seat g c =
    let w = g.P.Plan.work c.args.plan.now in
    let made = c.in_ok-table.ensures in
    let same = c.as_slice.ensures.value ∙ c.in_ok-words.ensures.words in
    let wide = ap (λ t. t.words) made.2 ∙ made.0 ∙ ap length same ∙ length-opening w in
    let me = made.4 in (
      ap (λ (m : Seated). m.1) me,
      subst (λ (m : Seated). IsPlaced c.in_ok-table.seat.table_id m.0 c.files.result c.items.result) (sym me)
          (record { live = refl; files_is = c.files.ensures; items_is = c.items.ensures; wide = wide; small = c.in_ok-words.ensures.small; sound = g.met.P.Plan.sound c.args.plan.now; fits = g.met.P.Plan.fits c.args.plan.now }),
    )

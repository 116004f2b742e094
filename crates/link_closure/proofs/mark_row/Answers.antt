use Rattle.std.proofs.Common.{◌≡◌, ◌+◌, ◌<◌, ◌⊎◌, ℕ, List, ◌∷◌, [], ◌++◌, length, take, get_or, subst, sym, ◌∙◌, inl, inr, arith}
use Rattle.std.specs.List.{Contains}
use Rattle.std.proofs.lemmas.Grind.{common_steps}
use Rattle.std.proofs.lemmas.List.Elements.{Contains-push_cases, Contains-get_or}
use Rattle.link_closure.specs.Graph.{IsMarked}
use Rattle.link_closure.proofs.mark_row.Goals as goal

either : {A B C : Type 0} → A ⊎ B → (A → C) → (B → C) → C
either (inl a) f g = f a
either (inr b) f g = g b

in-next : (row : List ℕ) (i g : ℕ) → i < length row → Contains (take (i + 1) row) g → Contains (take i row) g ⊎ (get_or row i 0 ≡ g)
in-next row i g lt held =
    let step : take (i + 1) row ≡ take i row ++ get_or row i 0 ∷ [] = grind (arith, common_steps) in
    Contains-push_cases (take i row) (get_or row i 0) g (rw step at held)

contains-at : (row : List ℕ) (i f : ℕ) → i < length row → f ≡ get_or row i 0 → Contains row f
contains-at row i f lt is = subst (Contains row) (sym is) (Contains-get_or row i 0 lt)

pub returns-in_err-mark_one-clause-only : goal.returns-in_err-mark_one-clause-only
returns-in_err-mark_one-clause-only c = λ f held.
    either (c.mark_one.ensures.only f held) (c.loop-number.invariant.only f)
    (λ is. inr (contains-at c.args.row.now c.loop-number.number-index f c.loop-number-test.true is))

pub loop-number-preserved : goal.loop-number-preserved
loop-number-preserved c = record {
  row = λ g held. either (in-next c.args.row.now c.loop-number.number-index g c.loop-number-test.true held)
      (λ before. c.mark_one.ensures.kept g (c.loop-number.invariant.row g before))
      (λ is. subst (IsMarked c.mark_one.new.marks) is c.in_ok-mark_one.ensures.marked);
  kept = λ f held. c.mark_one.ensures.kept f (c.loop-number.invariant.kept f held);
  waits = λ f held. either (c.in_ok-mark_one.ensures.waits f held)
      (λ before. either (c.loop-number.invariant.waits f before) inl (λ waiting. inr (c.mark_one.ensures.waiting f waiting))) inr;
  only = λ f held. either (c.mark_one.ensures.only f held) (c.loop-number.invariant.only f)
      (λ is. inr (contains-at c.args.row.now c.loop-number.number-index f c.loop-number-test.true is));
  waiting = λ f held. c.mark_one.ensures.waiting f (c.loop-number.invariant.waiting f held);
  listed = λ f held. either (c.mark_one.ensures.listed f held)
      (λ before. either (c.loop-number.invariant.listed f before) inl (λ marked. inr (c.mark_one.ensures.kept f marked))) inr;
  below = rw c.mark_one.auto.marks (λ first. c.mark_one.ensures.below (c.loop-number.invariant.below first));
  fewer = c.in_ok-mark_one.ensures.fewer ∙ c.loop-number.invariant.fewer;
}

pub returns-clause-row : goal.returns-clause-row
returns-clause-row c = λ g held.
    let all : take c.loop-number.number-index c.args.row.now ≡ c.args.row.now = grind (arith, common_steps) in
    c.loop-number.invariant.row g (rw all held)

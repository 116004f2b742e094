use Rattle.std.proofs.Common.{◌≡◌, ℕ, zero, suc, [], ◌∷◌, List, arith, get_or, set, bit_or, get_or-set_same, get_or-set_other}
use Rattle.std.specs.Int.{IsBitSet}
use Rattle.std.specs.Prelude.{bit_and, ◌^◌}
use Rattle.std.proofs.lemmas.Nat.{le_or_l}
use Rattle.std.proofs.lemmas.Nat.Bits.{bit_at_or, bit_at_and, same_from_bits}
use Rattle.link_claim.specs.declared.state.Core.{Core}
use Rattle.link_claim.specs.declared.state.Step.{Step}
use Rattle.link_claim.specs.declared.state.Step.TheVariants.{Claim, Begin, Mark as MarkStep, Read}
use Rattle.link_claim.specs.Steps.{state_after, is_claimed, is_begun}
use Rattle.link_claim.proofs.Kept.{both}
use Rattle.link_claim.proofs.law.flags_only_grow.Goals as goal

-- a bit of a is a bit of a joined with b
bit_kept : (a b k : ℕ) → IsBitSet a k → IsBitSet (bit_or a b) k
bit_kept a b k is none =
    let p : ℕ = 2 ^ k in
    let part : bit_or (bit_and a p) (bit_and (bit_or a b) p) ≡ bit_and (bit_or a b) p =
    same_from_bits _ _ (λ i. rw (bit_at_or (bit_and a p) (bit_and (bit_or a b) p) i, bit_at_and a p i, bit_at_and (bit_or a b) p i, bit_at_or a b i) (omega arith)) in
    let less = le_or_l (bit_and a p) (bit_and (bit_or a b) p) in is (omega arith)

-- a bit of a flag word is one of the word joined with more
word_kept : (l : List ℕ) (x y b k : ℕ) → IsBitSet (get_or l y 0) k → IsBitSet (get_or (set l x (bit_or (get_or l x 0) b)) y 0) k
word_kept [] x y b k is = is
word_kept (n ∷ l) zero zero b k is = bit_kept n b k is
word_kept (n ∷ l) zero (suc y) b k is = is
word_kept (n ∷ l) (suc x) zero b k is = is
word_kept (n ∷ l) (suc x) (suc y) b k is = word_kept l x y b k is

step_kept : (core : Core) (s : Step) (x bit : ℕ) → IsBitSet (get_or core.flags x 0) bit → IsBitSet (get_or (state_after core s).flags x 0) bit
step_kept core (Claim by f) x bit is = both (λ c. IsBitSet (get_or c.flags x 0) bit) (is_claimed core f) _ _ (λ taken. is) (λ free. is)
step_kept core (Begin by i) x bit is = both (λ c. IsBitSet (get_or c.flags x 0) bit) (is_begun core i) _ _ (λ taken. is) (λ free. is)
step_kept core (MarkStep by m) x bit is = word_kept core.flags m.symbol x m.bits bit is
step_kept core (Read by) x bit is = is

pub returns-clause-stays : goal.returns-clause-stays
returns-clause-stays c core s x bit is = step_kept core s x bit is

pub returns-clause-joined : goal.returns-clause-joined
returns-clause-joined c core by m lt = get_or-set_same core.flags m.symbol _ 0 lt

pub returns-clause-others : goal.returns-clause-others
returns-clause-others c core by m x apart = get_or-set_other core.flags m.symbol x _ 0 apart

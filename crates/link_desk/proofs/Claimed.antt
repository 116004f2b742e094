-- The entries that passes claim, by their marks.
use Rattle.std.proofs.Common.{ℕ, ◌≡◌, ◌⊎◌, ◌+◌, ◌<◌, ◌∙◌, Bool, List, false, length, slice_get, get_or, Some, inl, inr, arith, sym, ap, subst}
use Rattle.std.proofs.lemmas.Bool.{false≢true, cases_eq}
use Rattle.link_closure.specs.Closure.{is_marked}
use Rattle.link_closure.specs.Graph.{IsMarked}
use Rattle.link_desk.specs.declared.pass.Kept.{Kept}
use Rattle.link_desk.specs.Passes.{AreClaimed, Carried, IsCallAt}
use Rattle.link_desk.proofs.Calls.{at_index, call_at}

-- before the first pass nothing is claimed
pub claimed_none : (marks : List Bool) (cs : List Carried) → ((i : ℕ) → is_marked marks i ≡ false) → AreClaimed marks cs 0
claimed_none marks cs clear i less = (
  λ marked. absurd (false≢true (sym (clear i) ∙ marked)),
  λ found. absurd (let earlier : found.0 < 0 = found.3 in omega (arith, earlier)),
)

-- what the calls of pass p claim is added
pub claimed_more : (a b : List Bool) (cs : List Carried) (p : ℕ) (c : Carried) (calls : List Kept)
    → p < length cs → c ≡ get_or cs p c → calls ≡ c.calls → length b ≡ length a
    → ((j : ℕ) (y : Kept) → slice_get calls j ≡ Some y → y.place < length a → IsMarked b y.place)
    → ((i : ℕ) → IsMarked a i → IsMarked b i)
    → ((i : ℕ) → IsMarked b i → IsMarked a i ⊎ ((j : ℕ) × (y : Kept) × (slice_get calls j ≡ Some y) × (y.place ≡ i)))
    → AreClaimed a cs p → AreClaimed b cs (p + 1)
claimed_more a b cs p c calls within is same each claims kept only before i less =
    let less' : i < length a = omega (arith, less, each) in (
      λ marked. elim (only i marked) [
        | inl old ↦ (let f = (before i less').0 old in (f.0, f.1, f.2, omega (arith, f.3), f.4, f.5))
        | inr new ↦ (p, new.0, new.1, omega arith, call_at cs p new.0 c new.1 within is (ap (λ (ks : List Kept). slice_get ks new.0) (sym same) ∙ new.2), new.3)
      ],
      λ found. elim (cases_eq found.0 p) [
        | inl here ↦ (let P : ℕ → Type 0 = λ n. IsCallAt cs n found.1 found.2 in
            let at = ap (λ (ks : List Kept). slice_get ks found.1) same ∙ at_index cs p found.1 c found.2 is (subst P here found.4) in
            let Q : ℕ → Type 0 = λ n. n < length a in
            subst (IsMarked b) found.5 (claims found.1 found.2 at (subst Q (sym found.5) less')))
        | inr other ↦ kept i ((before i less').1 (found.0, found.1, found.2, (let earlier = found.3 in omega (arith, earlier, other)), found.4, found.5))
      ],
    )

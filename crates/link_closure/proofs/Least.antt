-- Two least closed sets are each part of the other, and what has the same closed sets has the same least one.
use Rattle.std.proofs.Common.{◌≡◌, ℕ, List, Bool, true, false, get_or, IsTrue, refl, sym, ◌∙◌, ext_get_or}
use Rattle.std.specs.Prelude.{◌↔◌}
use Rattle.link_closure.specs.Closure.{IsClosed, IsLeastClosed, is_marked}

-- two tests that follow from each other are one
same-truth : (a b : Bool) → (IsTrue a → IsTrue b) → (IsTrue b → IsTrue a) → a ≡ b
same-truth true b into from = sym (into refl)
same-truth false true into from = from refl
same-truth false false into from = refl

-- there is one least closed set
pub one-least : (Root : ℕ → Type 0) (Leads : ℕ → ℕ → Type 0) (count : ℕ) (a b : List Bool)
    → IsLeastClosed Root Leads count a → IsLeastClosed Root Leads count b → a ≡ b
one-least Root Leads count a b first second =
    ext_get_or false a b (first.each ∙ sym second.each) (λ f lt. same-truth (get_or a f false) (get_or b f false)
    (first.least (is_marked b) second.closed f) (second.least (is_marked a) first.closed f))

-- the least closed set is that of any roots and edges which are the same
pub least_of_same : (Root Root' : ℕ → Type 0) (Leads Leads' : ℕ → ℕ → Type 0) (count : ℕ) (marks : List Bool)
    → ((f : ℕ) → Root f ↔ Root' f) → ((f g : ℕ) → Leads f g ↔ Leads' f g) → IsLeastClosed Root Leads count marks → IsLeastClosed Root' Leads' count marks
least_of_same Root Root' Leads Leads' count marks roots edges least = record {
  each = least.each;
  closed = ((λ f root. least.closed.0 f ((roots f).1 root)), λ f g held leads. least.closed.1 f g held ((edges f g).1 leads));
  least = λ other closed f held. least.least other ((λ g root. closed.0 g ((roots g).0 root)), λ g k has leads. closed.1 g k has ((edges g k).0 leads)) f held;
}

-- the least closed set is that of any roots and edges which have the same closed sets
pub least_of_alike : (Root Root' : ℕ → Type 0) (Leads Leads' : ℕ → ℕ → Type 0) (count : ℕ) (marks : List Bool)
    → ((holds : ℕ → Bool) → IsClosed Root Leads holds ↔ IsClosed Root' Leads' holds)
    → IsLeastClosed Root Leads count marks → IsLeastClosed Root' Leads' count marks
least_of_alike Root Root' Leads Leads' count marks alike least = record {
  each = least.each;
  closed = (alike (is_marked marks)).0 least.closed;
  least = λ other closed. least.least other ((alike other).1 closed);
}

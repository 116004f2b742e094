-- Each number of a least closed set has a level, below how many numbers there are: what some edges reach stands still in the end.
use Rattle.std.proofs.Common.{◌≡◌, ℕ, zero, suc, ◌+◌, ◌<◌, ◌≤◌, ◌⊎◌, List, Bool, true, false, cond, refl, sym, ◌∙◌, ap, subst, inl, inr, arith}
use Rattle.std.specs.Prelude.{◌&&◌, ◌||◌, IsTrue}
use Rattle.std.proofs.lemmas.Bool.{cases_Bool, cases_eq, cases_lt}
use Rattle.link_closure.specs.Closure.{IsClosed, IsLeastClosed}
use Rattle.link_closure.specs.Graph.{IsMarked}
use Rattle.link_closure.specs.Levels.{HasChain, IsLevel}
use Rattle.link_closure.proofs.Turn.{either}
use Rattle.link_closure.proofs.Layers.{marked-within}

-- what a chain leads to is in every closed set
pub chain-in_closed : (Root : ℕ → Type 0) (Leads : ℕ → ℕ → Type 0) (holds : ℕ → Bool) → IsClosed Root Leads holds
    → (n f : ℕ) → HasChain Root Leads n f → IsTrue (holds f)
chain-in_closed Root Leads holds closed zero f root = closed.0 f root
chain-in_closed Root Leads holds closed (suc n) f (e, chain, leads) = closed.1 e f (chain-in_closed Root Leads holds closed n e chain) leads

-- ---- tests below a bound

-- it holds of some number below the bound
abbrev some_below : (ℕ → Bool) → ℕ → Bool
some_below p zero = false
some_below p (suc n) = p n || some_below p n

-- a disjunction has one of its parts
or-cases : (a b : Bool) → (a || b) ≡ true → (a ≡ true) ⊎ (b ≡ true)
or-cases true b is = inl refl
or-cases false b is = inr is

-- what has a part has the disjunction
or-left : (a b : Bool) → a ≡ true → (a || b) ≡ true
or-left true b is = refl
or-left false b is = absurd cc

or-right : (a b : Bool) → b ≡ true → (a || b) ≡ true
or-right true b is = refl
or-right false b is = is

-- a conjunction has both parts
and-parts : (a b : Bool) → (a && b) ≡ true → (a ≡ true) × (b ≡ true)
and-parts true b is = (refl, is)
and-parts false b is = absurd cc

and-both : (a b : Bool) → a ≡ true → b ≡ true → (a && b) ≡ true
and-both true b first second = second
and-both false b first second = absurd cc

-- such a number
below-found : (p : ℕ → Bool) (n : ℕ) → some_below p n ≡ true → (e : ℕ) × (e < n) × (p e ≡ true)
below-found p zero is = absurd cc
below-found p (suc n) is = either (or-cases (p n) (some_below p n) is)
    (λ here. (n, omega arith, here))
    (λ before. let it = below-found p n before in (it.0, let h = it.1 in omega arith, it.2))

found-below : (p : ℕ → Bool) (n e : ℕ) → e < n → p e ≡ true → some_below p n ≡ true
found-below p zero e lt is = absurd (omega arith)
found-below p (suc n) e lt is = either (cases_eq e n)
    (λ same. or-left (p n) (some_below p n) (subst (λ k. p k ≡ true) same is))
    (λ differs. or-right (p n) (some_below p n) (found-below p n e (omega arith) is))

-- how many numbers below the bound pass
abbrev count : (ℕ → Bool) → ℕ → ℕ
count p zero = 0
count p (suc n) = cond (p n) 1 0 + count p n

-- one more or not, as a test goes
cond-one : (b : Bool) → b ≡ true → ◌≡◌ {A = ℕ} (cond b 1 0) 1
cond-one true is = refl
cond-one false is = absurd cc

cond-none : (b : Bool) → b ≡ false → ◌≡◌ {A = ℕ} (cond b 1 0) 0
cond-none true is = absurd cc
cond-none false is = refl

cond-most : (b : Bool) → cond {A = ℕ} b 1 0 ≤ 1
cond-most true = omega arith
cond-most false = omega arith

-- no more than there are
count-most : (p : ℕ → Bool) (n : ℕ) → count p n ≤ n
count-most p zero = omega arith
count-most p (suc n) = let h = count-most p n in let one = cond-most (p n) in omega arith

-- some pass where one does
count-some : (p : ℕ → Bool) (n e : ℕ) → e < n → p e ≡ true → 1 ≤ count p n
count-some p zero e lt is = absurd (omega arith)
count-some p (suc n) e lt is = either (cases_eq e n)
    (λ same. let one = cond-one (p n) (subst (λ k. p k ≡ true) same is) in omega arith)
    (λ differs. let rest = count-some p n e (omega arith) is in omega arith)

-- what passes more passes the same, or more numbers
at-least : (p q : ℕ → Bool) → ((f : ℕ) → p f ≡ true → q f ≡ true) → (n : ℕ) → count p n ≤ count q n
at-least p q more zero = omega arith
at-least p q more (suc n) = either (cases_Bool (p n))
    (λ is. let one = cond-one (p n) is in let two = cond-one (q n) (more n is) in let rest = at-least p q more n in omega arith)
    (λ not. let none = cond-none (p n) not in let rest = at-least p q more n in omega arith)

-- the same numbers, or more of them
same-or-more : (p q : ℕ → Bool) → ((f : ℕ) → p f ≡ true → q f ≡ true) → (n : ℕ)
    → ((f : ℕ) → f < n → q f ≡ true → p f ≡ true) ⊎ (count p n < count q n)
same-or-more p q more zero = inl (λ f lt is. absurd (omega arith))
same-or-more p q more (suc n) = either (same-or-more p q more n)
    (λ same. either (cases_Bool (p n))
    (λ is. inl (λ f lt of_q. either (cases_eq f n) (λ here. subst (λ k. p k ≡ true) (sym here) is) (λ differs. same f (omega arith) of_q)))
    (λ not. either (cases_Bool (q n))
    (λ new. inr (let none = cond-none (p n) not in let one = cond-one (q n) new in let rest = at-least p q more n in omega arith))
    (λ neither. inl (λ f lt of_q. either (cases_eq f n)
    (λ here. absurd (let both : true ≡ false = sym of_q ∙ ap q here ∙ neither in cc))
    (λ differs. same f (omega arith) of_q)))))
    (λ further. inr (either (cases_Bool (p n))
    (λ is. let one = cond-one (p n) is in let two = cond-one (q n) (more n is) in omega arith)
    (λ not. let none = cond-none (p n) not in omega arith)))

-- ---- what some edges reach

-- a chain of no more than k edges leads to the number, over numbers below the size
abbrev near : (ℕ → Bool) → (ℕ → ℕ → Bool) → ℕ → ℕ → ℕ → Bool
near root leads size zero f = root f
near root leads size (suc k) f = near root leads size k f || some_below (λ e. near root leads size k e && leads e f) size

module _ (root : ℕ → Bool) (leads : ℕ → ℕ → Bool) (size : ℕ) (marks : List Bool)
    (least : IsLeastClosed (λ f. IsTrue (root f)) (λ f g. IsTrue (leads f g)) size marks) where
  -- what is reached is reached later too
  near-more : (k f : ℕ) → near root leads size k f ≡ true → near root leads size (suc k) f ≡ true
  near-more k f is = or-left (near root leads size k f) (some_below (λ e. near root leads size k e && leads e f) size) is

  near-later : (j k f : ℕ) → j ≤ k → near root leads size j f ≡ true → near root leads size k f ≡ true
  near-later j zero f within is = subst (λ i. near root leads size i f ≡ true) (let e : j ≡ 0 = omega arith in e) is
  near-later j (suc k) f within is = either (cases_eq j (suc k))
      (λ same. subst (λ i. near root leads size i f ≡ true) same is)
      (λ differs. near-more k f (near-later j k f (omega arith) is))

  -- one edge further
  near-next : (k e f : ℕ) → e < size → near root leads size k e ≡ true → leads e f ≡ true → near root leads size (suc k) f ≡ true
  near-next k e f lt is edge = or-right (near root leads size k f) (some_below (λ i. near root leads size k i && leads i f) size)
      (found-below (λ i. near root leads size k i && leads i f) size e lt (and-both (near root leads size k e) (leads e f) is edge))

  -- what is reached with one more edge was reached, or has an edge from what was
  near-cases : (k f : ℕ) → near root leads size (suc k) f ≡ true
      → (near root leads size k f ≡ true) ⊎ ((e : ℕ) × (e < size) × (near root leads size k e ≡ true) × (leads e f ≡ true))
  near-cases k f is = either (or-cases (near root leads size k f) (some_below (λ i. near root leads size k i && leads i f) size) is)
      inl
      (λ new. let it = below-found (λ i. near root leads size k i && leads i f) size new in
      let both = and-parts (near root leads size k it.0) (leads it.0 f) it.2 in
      inr (it.0, it.1, both.0, both.1))

  -- what is reached is marked, so it is below the size
  near-marked : (k f : ℕ) → near root leads size k f ≡ true → IsMarked marks f
  near-marked zero f is = least.closed.0 f is
  near-marked (suc k) f is = either (near-cases k f is) (near-marked k f)
      (λ from. least.closed.1 from.0 f (near-marked k from.0 from.2) from.3)

  near-below : (k f : ℕ) → near root leads size k f ≡ true → f < size
  near-below k f is = let inside = marked-within marks f (near-marked k f is) in omega (arith, least.each)

  -- a chain leads to what is reached, and what a chain leads to is reached
  near-chain : (k f : ℕ) → near root leads size k f ≡ true → (m : ℕ) × (m ≤ k) × HasChain (λ f. IsTrue (root f)) (λ f g. IsTrue (leads f g)) m f
  near-chain zero f is = (0, omega arith, is)
  near-chain (suc k) f is = either (near-cases k f is)
      (λ before. let it = near-chain k f before in (it.0, let h = it.1 in omega arith, it.2))
      (λ from. let it = near-chain k from.0 from.2 in (suc it.0, let h = it.1 in omega arith, (from.0, it.2, from.3)))

  chain-near : (m f : ℕ) → HasChain (λ f. IsTrue (root f)) (λ f g. IsTrue (leads f g)) m f → near root leads size m f ≡ true
  chain-near zero f is = is
  chain-near (suc m) f (e, chain, edge) =
      let before = chain-near m e chain in
      near-next m e f (near-below m e before) before edge

  -- with k edges all is reached that one more reaches
  abbrev IsStable : ℕ → Type 0
  IsStable k = (f : ℕ) → f < size → near root leads size (suc k) f ≡ true → near root leads size k f ≡ true

  stable-later : (j k : ℕ) → j ≤ k → IsStable j → IsStable k
  stable-later j zero within stable = subst IsStable (let e : j ≡ 0 = omega arith in e) stable
  stable-later j (suc k) within stable = either (cases_eq j (suc k))
      (λ same. subst IsStable same stable)
      (λ differs. λ f lt is. either (near-cases (suc k) f is) (λ before. before)
      (λ from. near-next k from.0 f from.1 (stable-later j k (omega arith) stable from.0 from.1 from.2) from.3))

  stable-back : (j k f : ℕ) → j ≤ k → IsStable j → f < size → near root leads size k f ≡ true → near root leads size j f ≡ true
  stable-back j zero f within stable lt is = subst (λ i. near root leads size i f ≡ true) (let e : 0 ≡ j = omega arith in e) is
  stable-back j (suc k) f within stable lt is = either (cases_eq j (suc k))
      (λ same. subst (λ i. near root leads size i f ≡ true) (sym same) is)
      (λ differs. stable-back j k f (omega arith) stable lt (stable-later j k (omega arith) stable f lt is))

  -- until all is reached, each edge more reaches one number more
  progress : (b : ℕ) → b ≤ count (near root leads size 0) size → (k : ℕ)
      → ((j : ℕ) × (j < k) × IsStable j) ⊎ (k + b ≤ count (near root leads size k) size)
  progress b some zero = inr (omega arith)
  progress b some (suc k) = either (progress b some k)
      (λ before. inl (before.0, let h = before.1 in omega arith, before.2))
      (λ many. either (same-or-more (near root leads size k) (near root leads size (suc k)) (near-more k) size)
      (λ same. inl (k, omega arith, same))
      (λ more. inr (omega arith)))

  -- with as many edges as there are numbers all is reached
  stable-last : IsStable size
  stable-last = either (progress 0 (omega arith) (suc size))
      (λ before. stable-later before.0 size (let h = before.1 in omega arith) before.2)
      (λ many. absurd (let most = count-most (near root leads size (suc size)) size in omega arith))

  near-closed : IsClosed (λ f. IsTrue (root f)) (λ f g. IsTrue (leads f g)) (near root leads size size)
  near-closed = (
    λ f is. near-later 0 size f (omega arith) is,
    λ f g is edge. let next = near-next size f g (near-below size f is) is edge in stable-last g (near-below (suc size) g next) next,
  )

  -- the least number of edges that reach it
  first-near : (k f : ℕ) → near root leads size k f ≡ true
      → (j : ℕ) × (near root leads size j f ≡ true) × ((i : ℕ) → i < j → near root leads size i f ≡ true → ⊥)
  first-near zero f is = (0, is, λ i lt. absurd (omega arith))
  first-near (suc k) f is = either (cases_Bool (near root leads size k f)) (first-near k f)
      (λ not. (suc k, is, λ i lt earlier. absurd (let both : true ≡ false = sym (near-later i k f (omega arith) earlier) ∙ not in cc)))

  -- a chain begins at a root
  chain-root : (m f : ℕ) → HasChain (λ f. IsTrue (root f)) (λ f g. IsTrue (leads f g)) m f → (r : ℕ) × (root r ≡ true)
  chain-root zero f is = (f, is)
  chain-root (suc m) f (e, chain, edge) = chain-root m e chain

  -- each number of the least closed set has a level, below the size
  pub level-of-marked : (f : ℕ) → IsMarked marks f → (n : ℕ) × (n < size) × IsLevel (λ f. IsTrue (root f)) (λ f g. IsTrue (leads f g)) n f
  level-of-marked f marked =
      let first = first-near size f (least.least (near root leads size size) near-closed f marked) in
      let chain = near-chain first.0 f first.1 in
      let same : chain.0 ≡ first.0 = either (cases_lt chain.0 first.0)
      (λ below. absurd (first.2 chain.0 below (chain-near chain.0 f chain.2)))
      (λ past. let h = chain.1 in omega arith) in
      let origin = chain-root chain.0 f chain.2 in
      let some = count-some (near root leads size 0) size origin.0 (near-below 0 origin.0 origin.1) origin.1 in
      let bound : first.0 < size = either (progress 1 some first.0)
      (λ before. absurd (first.2 before.0 before.1 (stable-back before.0 first.0 f (let h = before.1 in omega arith) before.2 (near-below first.0 f first.1) first.1)))
      (λ many. let most = count-most (near root leads size first.0) size in omega arith) in (
        first.0,
        bound,
        record {
          chain = subst (λ m. HasChain (λ f. IsTrue (root f)) (λ f g. IsTrue (leads f g)) m f) same chain.2;
          least = λ m other. either (cases_lt m first.0) (λ below. absurd (first.2 m below (chain-near m f other))) (λ past. past);
        },
      )

-- The last number that passes a test.
use Rattle.std.proofs.Common.{◌≡◌, ◌<◌, ℕ, zero, suc, max, Bool, true, false, ◌&&◌, ◌||◌, Option, Some, None, if◌then◌else◌, refl, sym, ap, ◌∙◌, arith}
use Rattle.link_glob.specs.GlobList.{last_of, later}

below_on : (b : Bool) (n m : ℕ) (rest : Option ℕ) → (rest ≡ Some m → m < n) → (if b then Some n else rest) ≡ Some m → m < suc n
below_on true n m rest h e = let k : n ≡ m = cc in omega (arith, k)
below_on false n m rest h e = omega (arith, h e)

-- it is below the bound
pub below : (p : ℕ → Bool) (n m : ℕ) → last_of p n ≡ Some m → m < n
below p zero m e = absurd cc
below p (suc n) m e = below_on (p n) n m (last_of p n) (below p n m) e

passes_on : (p : ℕ → Bool) (b : Bool) (n m : ℕ) (rest : Option ℕ) → p n ≡ b → (rest ≡ Some m → p m ≡ true) → (if b then Some n else rest) ≡ Some m → p m ≡ true
passes_on p true n m rest is h e = let k : n ≡ m = cc in ap p (sym k) ∙ is
passes_on p false n m rest is h e = h e

-- it passes
pub passes : (p : ℕ → Bool) (n m : ℕ) → last_of p n ≡ Some m → p m ≡ true
passes p zero m e = absurd cc
passes p (suc n) m e = passes_on p (p n) n m (last_of p n) refl (passes p n m) e

-- tests that are alike below the bound have the same last number
pub same : (p q : ℕ → Bool) (n : ℕ) → ((k : ℕ) → k < n → p k ≡ q k) → last_of p n ≡ last_of q n
same p q zero h = refl
same p q (suc n) h = let a = h n (omega arith) in let b = same p q n (λ k l. h k (omega (arith, l))) in rw (a, b) refl

chained_on : (p f : ℕ → Bool) (n m : ℕ) (b : Bool) → p n ≡ b → (if b then Some n else last_of p n) ≡ Some m
    → (last_of p n ≡ Some m → last_of (λ k. p k && f k) n ≡ last_of (λ k. p k && f k) (suc m)) → last_of (λ k. p k && f k) (suc n) ≡ last_of (λ k. p k && f k) (suc m)
chained_on p f n m true is e h = let k : n ≡ m = cc in ap (λ j. last_of (λ k. p k && f k) (suc j)) k
chained_on p f n m false is e h = rw is (h e)

-- the last number that passes two tests is found from the last one that passes the first
pub chained : (p f : ℕ → Bool) (n m : ℕ) → last_of p n ≡ Some m → last_of (λ k. p k && f k) n ≡ last_of (λ k. p k && f k) (suc m)
chained p f zero m e = absurd cc
chained p f (suc n) m e = chained_on p f n m (p n) refl e (λ h. chained p f n m h)

none_on : (p f : ℕ → Bool) (n : ℕ) (b : Bool) → p n ≡ b → (if b then Some n else last_of p n) ≡ None
    → (last_of p n ≡ None → last_of (λ k. p k && f k) n ≡ None) → last_of (λ k. p k && f k) (suc n) ≡ None
none_on p f n true is e h = absurd cc
none_on p f n false is e h = rw is (h e)

-- where none passes the first test, none passes both
pub none : (p f : ℕ → Bool) (n : ℕ) → last_of p n ≡ None → last_of (λ k. p k && f k) n ≡ None
none p f zero e = refl
none p f (suc n) e = none_on p f n (p n) refl e (λ h. none p f n h)

-- the later one is the last that passes one test or the other
pub either : (p q : ℕ → Bool) (n : ℕ) → later (last_of p n) (last_of q n) ≡ last_of (λ k. p k || q k) n
either p q zero = refl
either p q (suc n) = on (p n) (q n) (last_of p n) (last_of q n) (below p n) (below q n) (either p q n)
  where
    on : (a b : Bool) (r s : Option ℕ) → ((m : ℕ) → r ≡ Some m → m < n) → ((m : ℕ) → s ≡ Some m → m < n) → later r s ≡ last_of (λ k. p k || q k) n
        → later (if a then Some n else r) (if b then Some n else s) ≡ (if a || b then Some n else last_of (λ k. p k || q k) n)
    on true true r s h g e = let k : max n n ≡ n = omega arith in ap (λ (m : ℕ). Some m) k
    on true false r None h g e = refl
    on true false r (Some s) h g e = let l = g s refl in let k : max n s ≡ n = omega (arith, l) in ap (λ (m : ℕ). Some m) k
    on false true None s h g e = refl
    on false true (Some r) s h g e = let l = h r refl in let k : max r n ≡ n = omega (arith, l) in ap (λ (m : ℕ). Some m) k
    on false false r s h g e = e

-- of three numbers the latest is found in any order
pub later_assoc : (a b c : Option ℕ) → later (later a b) c ≡ later a (later b c)
later_assoc None b c = refl
later_assoc (Some a) None c = refl
later_assoc (Some a) (Some b) None = refl
later_assoc (Some a) (Some b) (Some c) = let k : max (max a b) c ≡ max a (max b c) = omega arith in ap (λ (m : ℕ). Some m) k

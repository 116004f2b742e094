-- Lists of what a function gives of places and elements, first elements, and lists that grow.
use Rattle.std.proofs.Common.{◌≡◌, ℕ, zero, suc, ◌+◌, ◌≤◌, ◌⊎◌, List, [], ◌∷◌, ◌++◌, length, map, Bool, true, false, cond, refl, sym, ◌∙◌, ap, subst, inl, inr, arith, Some, None, Option, Contains, slice_get, append_assoc}
use Rattle.std.specs.Prelude.{find, filter_map, option_and_then, option_to_list, is_some}
use Rattle.std.specs.List.{cons_option}
use Rattle.std.specs.Option.{option_or}
use Rattle.link_rules.specs.Places.{first_of, kept_if, places_from, some_from}
use Rattle.link_rules.proofs.Settled.{here, there, here_or_there, nothing_in, none_some, some_same}

module _ {X Y : Type 0} where
  -- one element more of what a function gives
  pub some-more : (f : ℕ → X → Option Y) (old all : List Y) (i id next : ℕ) (x : X) (y : Option Y) (xs rest : List X)
      → id ≡ i → xs ≡ x ∷ rest → next ≡ i + 1 → y ≡ f id x → old ++ some_from f i xs ≡ all
      → (old ++ option_to_list y) ++ some_from f next rest ≡ all
  some-more f old all i id next x y xs rest at is more gives before =
      ap (λ (n : ℕ). (old ++ option_to_list y) ++ some_from f n rest) more
      ∙ append_assoc old (option_to_list y) (some_from f (i + 1) rest)
      ∙ ap (λ (o : Option Y). old ++ (option_to_list o ++ some_from f (i + 1) rest)) (gives ∙ ap (λ n. f n x) at)
      ∙ ap (λ (l : List X). old ++ some_from f i l) (sym is) ∙ before

  -- what is given stands at a place
  pub given-at : (f : ℕ → X → Option Y) (n : ℕ) (xs : List X) (y : Y) → Contains (some_from f n xs) y
      → (k : ℕ) × (x : X) × (slice_get xs k ≡ Some x) × (f (n + k) x ≡ Some y)
  given-at f n [] y within = absurd (nothing_in y within)
  given-at f n (x ∷ xs) y within = by (f n x) refl (given-at f (n + 1) xs y) within
    where
      later : ((k : ℕ) × (z : X) × (slice_get xs k ≡ Some z) × (f (n + 1 + k) z ≡ Some y)) → (k : ℕ) × (z : X) × (slice_get (x ∷ xs) k ≡ Some z) × (f (n + k) z ≡ Some y)
      later it = (suc it.0, it.1, it.2, let e : n + 1 + it.0 ≡ n + suc it.0 = omega arith in subst (λ k. f k it.1 ≡ Some y) e it.3)

      by : (o : Option Y) → f n x ≡ o → (Contains (some_from f (n + 1) xs) y → (k : ℕ) × (z : X) × (slice_get xs k ≡ Some z) × (f (n + 1 + k) z ≡ Some y))
          → Contains (option_to_list o ++ some_from f (n + 1) xs) y → (k : ℕ) × (z : X) × (slice_get (x ∷ xs) k ≡ Some z) × (f (n + k) z ≡ Some y)
      by None is further held = later (further held)
      by (Some v) is further held = elim (here_or_there v (some_from f (n + 1) xs) y held) [
        | inl same ↦ (0, x, refl, let e : n ≡ n + 0 = omega arith in subst (λ k. f k x ≡ Some y) e (is ∙ ap (λ (u : Y). Some u) same))
        | inr deeper ↦ later (further deeper)
      ]

  -- what a place gives is given
  pub given-in : (f : ℕ → X → Option Y) (n : ℕ) (xs : List X) (k : ℕ) (x : X) (y : Y) → slice_get xs k ≡ Some x → f (n + k) x ≡ Some y → Contains (some_from f n xs) y
  given-in f n [] k x y at gives = absurd (none_some x at)
  given-in f n (z ∷ zs) zero x y at gives =
      let e : n + 0 ≡ n = omega arith in
      let now : f n z ≡ Some y = ap (f n) (some_same z x at) ∙ subst (λ k. f k x ≡ Some y) e gives in
      subst (λ (o : Option Y). Contains (option_to_list o ++ some_from f (n + 1) zs) y) (sym now) (here y (some_from f (n + 1) zs))
  given-in f n (z ∷ zs) (suc k) x y at gives =
      let e : n + suc k ≡ n + 1 + k = omega arith in
      behind (f n z) (given-in f (n + 1) zs k x y at (subst (λ m. f m x ≡ Some y) e gives))
    where
      behind : (o : Option Y) → Contains (some_from f (n + 1) zs) y → Contains (option_to_list o ++ some_from f (n + 1) zs) y
      behind None deeper = deeper
      behind (Some v) deeper = there v (some_from f (n + 1) zs) y deeper

  -- where each one has the number of its place, the first that passes a test has the least
  pub first-least : (f : ℕ → X → Option Y) (number : Y → ℕ) → ((n : ℕ) (x : X) (y : Y) → f n x ≡ Some y → number y ≡ n) → (p : Y → Bool)
      → (n : ℕ) (xs : List X) (q r : Y) → find p (some_from f n xs) ≡ Some q → Contains (some_from f n xs) r → p r ≡ true → number q ≤ number r
  first-least f number numbered p n [] q r is within passes = absurd (none_some q is)
  first-least f number numbered p n (x ∷ xs) q r is within passes = by (f n x) refl (first-least f number numbered p (n + 1) xs q r) is within
    where
      from-next : Contains (some_from f (n + 1) xs) r → n + 1 ≤ number r
      from-next deeper = let it = given-at f (n + 1) xs r deeper in let e = numbered (n + 1 + it.0) it.1 r it.3 in omega arith

      by-test : (v : Y) → number v ≡ n → (b : Bool) → p v ≡ b → (find p (some_from f (n + 1) xs) ≡ Some q → Contains (some_from f (n + 1) xs) r → p r ≡ true → number q ≤ number r)
          → cond b (Some v) (find p (some_from f (n + 1) xs)) ≡ Some q → (v ≡ r) ⊎ Contains (some_from f (n + 1) xs) r → number q ≤ number r
      by-test v at true holds further found (inl same) = let e : q ≡ r = sym (some_same v q found) ∙ same in let numbers = ap number e in omega arith
      by-test v at true holds further found (inr deeper) = let e = ap number (some_same v q found) in let next = from-next deeper in omega arith
      by-test v at false fails further found (inl same) = absurd (let both : false ≡ true = sym fails ∙ ap p same ∙ passes in cc)
      by-test v at false fails further found (inr deeper) = further found deeper passes

      by : (o : Option Y) → f n x ≡ o → (find p (some_from f (n + 1) xs) ≡ Some q → Contains (some_from f (n + 1) xs) r → p r ≡ true → number q ≤ number r)
          → find p (option_to_list o ++ some_from f (n + 1) xs) ≡ Some q → Contains (option_to_list o ++ some_from f (n + 1) xs) r → number q ≤ number r
      by None gives further found held = further found held passes
      by (Some v) gives further found held = by-test v (numbered n x v gives) (p v) refl further found (here_or_there v (some_from f (n + 1) xs) r held)

module _ {X : Type 0} where
  -- something passes, so something is found
  pub found-some : (p : X → Bool) (xs : List X) (x : X) → Contains xs x → p x ≡ true → (y : X) × (find p xs ≡ Some y)
  found-some p [] x within passes = absurd (nothing_in x within)
  found-some p (z ∷ zs) x within passes = by (p z) refl (λ deeper. found-some p zs x deeper passes) (here_or_there z zs x within)
    where
      by : (b : Bool) → p z ≡ b → (Contains zs x → (y : X) × (find p zs ≡ Some y)) → (z ≡ x) ⊎ Contains zs x → (y : X) × (cond b (Some z) (find p zs) ≡ Some y)
      by true is further held = (z, refl)
      by false is further (inl same) = absurd (let both : false ≡ true = sym is ∙ ap p same ∙ passes in cc)
      by false is further (inr deeper) = further deeper

  -- what is found is in the list and passes
  pub found-is : (p : X → Bool) (xs : List X) (y : X) → find p xs ≡ Some y → Contains xs y × (p y ≡ true)
  found-is p [] y is = absurd (none_some y is)
  found-is p (z ∷ zs) y is = by (p z) refl (found-is p zs y) is
    where
      by : (b : Bool) → p z ≡ b → (find p zs ≡ Some y → Contains zs y × (p y ≡ true)) → cond b (Some z) (find p zs) ≡ Some y → Contains (z ∷ zs) y × (p y ≡ true)
      by true passes further found = let same = some_same z y found in (subst (Contains (z ∷ zs)) same (here z zs), ap p (sym same) ∙ passes)
      by false fails further found = let it = further found in (there z zs y it.0, it.1)

-- ---- first places

-- the first place where a key more stands behind
pub first-push : (p : Option ℕ → Bool) (n : ℕ) (xs : List (Option ℕ)) (k : Option ℕ)
    → first_of (places_from p n (xs ++ k ∷ [])) ≡ option_or (first_of (places_from p n xs)) (cond (p k) (Some (n + length xs)) None)
first-push p n [] k = let e : n ≡ n + 0 = omega arith in by (p k) (n + 0) e
  where
    by : (b : Bool) (m : ℕ) → n ≡ m → first_of (kept_if b n []) ≡ cond b (Some m) None
    by true m e = ap (λ (i : ℕ). Some i) e
    by false m e = refl
first-push p n (x ∷ xs) k = by (p x) (first-push p (n + 1) xs k)
  where
    by : (b : Bool) → first_of (places_from p (n + 1) (xs ++ k ∷ [])) ≡ option_or (first_of (places_from p (n + 1) xs)) (cond (p k) (Some (n + 1 + length xs)) None)
        → first_of (kept_if b n (places_from p (n + 1) (xs ++ k ∷ []))) ≡ option_or (first_of (kept_if b n (places_from p (n + 1) xs))) (cond (p k) (Some (n + length (x ∷ xs))) None)
    by true rest = refl
    by false rest =
        let e : n + 1 + length xs ≡ n + length (x ∷ xs) = further (length xs) in
        rest ∙ ap (λ (m : ℕ). option_or (first_of (places_from p (n + 1) xs)) (cond (p k) (Some m) None)) e
      where
        further : (m : ℕ) → n + 1 + m ≡ n + suc m
        further m = omega arith

module _ {X : Type 0} (v : X → Option ℕ) (t : Option ℕ → Bool) where
  -- where the first place of a key that passes is, and what stands there
  FirstAt : ℕ → List X → Type 0
  FirstAt n xs = ((first_of (places_from t n (map v xs)) ≡ None) × (find (λ x. t (v x)) xs ≡ None))
      ⊎ ((k : ℕ) × (x : X) × (first_of (places_from t n (map v xs)) ≡ Some (n + k)) × (slice_get xs k ≡ Some x) × (find (λ x. t (v x)) xs ≡ Some x))

  first-at : (n : ℕ) (xs : List X) → FirstAt n xs
  unfolding FirstAt
  first-at n [] = inl (refl, refl)
  first-at n (x ∷ xs) = by (t (v x)) (first-at (n + 1) xs)
    where
      by : (b : Bool) → FirstAt (n + 1) xs
          → ((first_of (kept_if b n (places_from t (n + 1) (map v xs))) ≡ None) × (cond b (Some x) (find (λ z. t (v z)) xs) ≡ None))
          ⊎ ((k : ℕ) × (y : X) × (first_of (kept_if b n (places_from t (n + 1) (map v xs))) ≡ Some (n + k)) × (slice_get (x ∷ xs) k ≡ Some y) × (cond b (Some x) (find (λ z. t (v z)) xs) ≡ Some y))
      by true further = inr (0, x, let e : n ≡ n + 0 = omega arith in ap (λ (m : ℕ). Some m) e, refl, refl)
      by false (inl none) = inl none
      by false (inr it) = inr (suc it.0, it.1, let e : n + 1 + it.0 ≡ n + suc it.0 = omega arith in it.2 ∙ ap (λ (m : ℕ). Some m) e, it.3, it.4)

  -- what stands at the first place of a key that passes is the first whose key passes
  pub at-first : (xs : List X) → option_and_then (slice_get xs) (first_of (places_from t 0 (map v xs))) ≡ find (λ x. t (v x)) xs
  unfolding FirstAt
  at-first xs = by (first-at 0 xs)
    where
      by : FirstAt 0 xs → option_and_then (slice_get xs) (first_of (places_from t 0 (map v xs))) ≡ find (λ x. t (v x)) xs
      by (inl none) = ap (option_and_then (slice_get xs)) none.0 ∙ sym none.1
      by (inr it) =
          let e : 0 + it.0 ≡ it.0 = omega arith in
          ap (option_and_then (slice_get xs)) (it.2 ∙ ap (λ (m : ℕ). Some m) e) ∙ it.3 ∙ sym it.4

  -- there is a first place exactly where something is found
  pub some-first : (xs : List X) → is_some (first_of (places_from t 0 (map v xs))) ≡ is_some (find (λ x. t (v x)) xs)
  unfolding FirstAt
  some-first xs = by (first-at 0 xs)
    where
      by : FirstAt 0 xs → is_some (first_of (places_from t 0 (map v xs))) ≡ is_some (find (λ x. t (v x)) xs)
      by (inl none) = ap is_some none.0 ∙ sym (ap is_some none.1)
      by (inr it) = ap is_some it.2 ∙ sym (ap is_some it.4)

-- one element more that something may be given of
pub mapped-push : {X Y : Type 0} (h : X → Option Y) (xs : List X) (x : X) → filter_map h (xs ++ x ∷ []) ≡ filter_map h xs ++ option_to_list (h x)
mapped-push {Y = Y} h [] x = by (h x)
  where
    by : (o : Option Y) → cons_option o [] ≡ option_to_list o
    by None = refl
    by (Some y) = refl
mapped-push {Y = Y} h (z ∷ zs) x = by (h z) (mapped-push h zs x)
  where
    by : (o : Option Y) → filter_map h (zs ++ x ∷ []) ≡ filter_map h zs ++ option_to_list (h x) → cons_option o (filter_map h (zs ++ x ∷ [])) ≡ cons_option o (filter_map h zs) ++ option_to_list (h x)
    by None rest = rest
    by (Some y) rest = ap (λ (ys : List Y). y ∷ ys) rest

-- Walks of hash numbers, where one more head is hung.
use Rattle.std.proofs.Common.{◌≡◌, ◌≢◌, ◌∙◌, ◌+◌, ◌<◌, ◌≤◌, ◌++◌, ◌||◌, ◌⊎◌, inl, inr, ℕ, zero, suc, Bool, true, false, List, [], ◌∷◌, length, Some, None, get_or, not, refl, sym, ap, subst, arith, replicate, set}
use Rattle.std.specs.Prelude.{◌==◌, slice_get}
use Rattle.std.specs.List.{last_or}
use Rattle.std.specs.Iterator.{Drains, YieldsFirst}
use Rattle.std.proofs.Math.Nat.{eq-or-lt_of_le}
use Rattle.std.proofs.lemmas.Bool.{eq-eqb, eqb-true}
use Rattle.std.proofs.lemmas.List.{get_or-set_other, get_or-set_same, length-replicate, length-set, length_push}
use Rattle.std.proofs.lemmas.Option.{same_Some}
use Rattle.link_db_buckets.specs.declared.places.Places.{Places}
use Rattle.link_db_buckets.specs.declared.walk.Fork.{Fork}
use Rattle.link_db_buckets.specs.Slots.{may_hold, slot_of}
use Rattle.link_db_buckets.specs.Walks.{AreHung, AreTold, HaveWalks, IsLink, bit_at, link_at, passes, side_of, walk_from, walk_of}

-- ---- walks

-- what hangs somewhere still hangs there
abbrev pub IsKept : List Fork → List Fork → Type 0
IsKept old new = (place : ℕ) (right : Bool) → link_at old place right ≢ 0 → link_at new place right ≡ link_at old place right

-- a walk from a link passes the head there, and goes on from what hangs on the side to which it turns
pub walk_step : (forks : List Fork) (number depth most rest link place : ℕ) (right : Bool) (next : ℕ) → most ≡ suc rest → link ≡ suc place → right ≡ bit_at number depth → next ≡ link_at forks place right → walk_from most forks number depth link ≡ (place, right) ∷ walk_from rest forks number (depth + 1) next
walk_step forks number depth most rest link place right next more some turn on = rw (more, some, on, turn) refl

-- a walk passes its first head, or later ones
pub passes_either : (step : ℕ × Bool) (rest : List (ℕ × Bool)) (place : ℕ) → passes (step ∷ rest) place ≡ true → (step.0 ≡ place) ⊎ (passes rest place ≡ true)
passes_either step rest place e = by (step.0 == place) refl e
  where
    by : (b : Bool) → (step.0 == place) ≡ b → (b || passes rest place) ≡ true → (step.0 ≡ place) ⊎ (passes rest place ≡ true)
    by true is e = inl (eqb-true step.0 place is)
    by false is e = inr e

-- it passes its first head
pub passes_first : (step : ℕ × Bool) (rest : List (ℕ × Bool)) (place : ℕ) → step.0 ≡ place → passes (step ∷ rest) place ≡ true
passes_first step rest place e = rw (eq-eqb step.0 place e) refl

-- and what its rest passes
pub passes_later : (step : ℕ × Bool) (rest : List (ℕ × Bool)) (place : ℕ) → passes rest place ≡ true → passes (step ∷ rest) place ≡ true
passes_later step rest place e = by (step.0 == place)
  where
    by : (b : Bool) → (b || passes rest place) ≡ true
    by true = refl
    by false = e

-- a walk from no link passes nothing
pub no_walk : (most : ℕ) (forks : List Fork) (number depth : ℕ) → walk_from most forks number depth 0 ≡ []
no_walk zero forks number depth = refl
no_walk (suc most) forks number depth = refl

-- so it does not pass a head
never_passed : (most : ℕ) (forks : List Fork) (number depth place : ℕ) → passes (walk_from most forks number depth 0) place ≡ true → ⊥
never_passed most forks number depth place e = let no : passes [] place ≡ true = ap (λ (w : List (ℕ × Bool)). passes w place) (sym (no_walk most forks number depth)) ∙ e in cc

-- a walk passes what it passed, where links are kept and no fewer heads may be passed
pub passes_kept : (old new : List Fork) (number place most more depth link : ℕ) → IsKept old new → most ≤ more → passes (walk_from most old number depth link) place ≡ true → passes (walk_from more new number depth link) place ≡ true
passes_kept old new number place zero more depth link kept le e = absurd cc
passes_kept old new number place (suc most) more depth zero kept le e = absurd cc
passes_kept old new number place (suc most) zero depth (suc at) kept le e = absurd (omega (arith, le))
passes_kept old new number place (suc most) (suc more) depth (suc at) kept le e = elim (passes_either (at, bit_at number depth) (walk_from most old number (depth + 1) (link_at old at (bit_at number depth))) place e) [
  | inl here ↦ passes_first (at, bit_at number depth) (walk_from more new number (depth + 1) (link_at new at (bit_at number depth))) place here
  | inr rest ↦
      let lower : most ≤ more = omega (arith, le) in
      passes_later (at, bit_at number depth) (walk_from more new number (depth + 1) (link_at new at (bit_at number depth))) place
      (by (link_at old at (bit_at number depth)) refl (passes_kept old new number place most more (depth + 1) (link_at old at (bit_at number depth)) kept lower rest) rest)
]
  where
    by : (n : ℕ) → link_at old at (bit_at number depth) ≡ n → passes (walk_from more new number (depth + 1) (link_at old at (bit_at number depth))) place ≡ true → passes (walk_from most old number (depth + 1) (link_at old at (bit_at number depth))) place ≡ true
        → passes (walk_from more new number (depth + 1) (link_at new at (bit_at number depth))) place ≡ true
    by zero none onward rest = absurd (never_passed most old number (depth + 1) place (subst (λ (l : ℕ). passes (walk_from most old number (depth + 1) l) place ≡ true) none rest))
    by (suc n) some onward rest =
        let there : link_at old at (bit_at number depth) ≢ 0 = λ z. omega (arith, some, z) in
        subst (λ (l : ℕ). passes (walk_from more new number (depth + 1) l) place ≡ true) (sym (kept at (bit_at number depth) there)) onward

-- ---- the end of a walk

-- The walk from a link ends at a head: nothing hangs there on this side, and where something is hung there, the walk passes it.
pub record IsEnd (forks : List Fork) (number count most depth link last : ℕ) (right : Bool) : Type 0 where
  pub free : link_at forks last right ≡ 0
  pub before : last < count
  pub passes : (new : List Fork) (place : ℕ) → IsKept forks new → link_at new last right ≡ suc place → passes (walk_from most new number depth link) place ≡ true

-- a list with an item at its end is not empty
not_empty : {A : Type 0} (front : List A) (x : A) → [] ≡ front ++ x ∷ [] → ⊥
not_empty [] x e = absurd cc
not_empty (y ∷ front) x e = absurd cc

-- the last head of a walk is its end
pub walk_end : (forks : List Fork) (number count last : ℕ) (right : Bool) (most depth link : ℕ) (front : List (ℕ × Bool)) → ((place : ℕ) (side : Bool) → IsLink count place (link_at forks place side)) → link ≤ count → (0 < link → depth < link) → count < depth + most
    → walk_from most forks number depth link ≡ front ++ (last, right) ∷ [] → IsEnd forks number count most depth link last right
walk_end forks number count last right zero depth link front links within deep room e = absurd (not_empty front (last, right) e)
walk_end forks number count last right (suc most) depth zero front links within deep room e = absurd (not_empty front (last, right) e)
walk_end forks number count last right (suc most) depth (suc at) [] links within deep room e =
    let side : Bool = bit_at number depth in
    let head : ◌≡◌ {A = ℕ × Bool} (at, side) (last, right) = cc in
    let here : at ≡ last = ap (λ (step : ℕ × Bool). step.0) head in
    let turn : side ≡ right = ap (λ (step : ℕ × Bool). step.1) head in
    let rest : walk_from most forks number (depth + 1) (link_at forks at side) ≡ [] = cc in
    let positive : 0 < suc at = omega arith in
    let lower : depth < suc at = deep positive in
    by most (omega (arith, room, within, lower)) (link_at forks at side) refl rest here turn
  where
    by : (m : ℕ) → 0 < m → (n : ℕ) → link_at forks at (bit_at number depth) ≡ n → walk_from m forks number (depth + 1) (link_at forks at (bit_at number depth)) ≡ [] → at ≡ last → bit_at number depth ≡ right → IsEnd forks number count (suc m) depth (suc at) last right
    by zero positive n is rest here turn = absurd (omega (arith, positive))
    by (suc m) positive (suc n) is rest here turn = let no : walk_from (suc m) forks number (depth + 1) (suc n) ≡ [] = subst (λ (l : ℕ). walk_from (suc m) forks number (depth + 1) l ≡ []) is rest in absurd cc
    by (suc m) positive zero is rest here turn = record {
      free = subst (λ (k : ℕ). link_at forks k right ≡ 0) here (subst (λ (b : Bool). link_at forks at b ≡ 0) turn is);
      before = omega (arith, here, within);
      passes = λ new place kept hung.
          let there : link_at new at (bit_at number depth) ≡ suc place = subst (λ (k : ℕ). link_at new k (bit_at number depth) ≡ suc place) (sym here) (subst (λ (b : Bool). link_at new last b ≡ suc place) (sym turn) hung) in
          let first : passes (walk_from (suc m) new number (depth + 1) (suc place)) place ≡ true = passes_first (place, bit_at number (depth + 1)) (walk_from m new number (depth + 1 + 1) (link_at new place (bit_at number (depth + 1)))) place refl in
          passes_later (at, bit_at number depth) (walk_from (suc m) new number (depth + 1) (link_at new at (bit_at number depth))) place (subst (λ (l : ℕ). passes (walk_from (suc m) new number (depth + 1) l) place ≡ true) (sym there) first);
    }
walk_end forks number count last right (suc most) depth (suc at) (step ∷ front) links within deep room e =
    let side : Bool = bit_at number depth in
    let link : ℕ = link_at forks at side in
    let rest : walk_from most forks number (depth + 1) link ≡ front ++ (last, right) ∷ [] = cc in
    let positive : 0 < suc at = omega arith in
    let lower : depth < suc at = deep positive in
    let deeper : 0 < link → depth + 1 < link = λ positive. let later : at + 1 < link = (links at side).later positive in omega (arith, later, lower) in
    let more : count < depth + 1 + most = omega (arith, room) in
    by rest (walk_end forks number count last right most (depth + 1) link front links (links at side).within deeper more rest)
  where
    by : walk_from most forks number (depth + 1) (link_at forks at (bit_at number depth)) ≡ front ++ (last, right) ∷ [] → IsEnd forks number count most (depth + 1) (link_at forks at (bit_at number depth)) last right → IsEnd forks number count (suc most) depth (suc at) last right
    by rest end = record {
      free = end.free;
      before = end.before;
      passes = λ new place kept hung.
          let there : link_at forks at (bit_at number depth) ≢ 0 = λ z. not_empty front (last, right) (sym (no_walk most forks number (depth + 1)) ∙ subst (λ (l : ℕ). walk_from most forks number (depth + 1) l ≡ front ++ (last, right) ∷ []) z rest) in
          passes_later (at, bit_at number depth) (walk_from most new number (depth + 1) (link_at new at (bit_at number depth))) place (subst (λ (l : ℕ). passes (walk_from most new number (depth + 1) l) place ≡ true) (sym (kept at (bit_at number depth) there)) (end.passes new place kept hung));
    }

-- what an iterator gives that shows what is left is all that was left
pub drained : {A : Type 0} (xs s : List A) → Drains (YieldsFirst (λ (w : List A). w)) s xs → xs ≡ s
drained [] s d = sym (d.1.1 ∙ d.1.2.0)
drained (x ∷ xs) s d = ap (λ l. x ∷ l) (drained xs d.1.1.0 (d.0, (d.1.0, d.1.1.2, d.1.2))) ∙ sym d.1.1.1

-- a list that has a last item ends with it
pub ends_with : {A : Type 0} (xs : List A) (x : A) → last_or None xs ≡ Some x → (front : List A) × (xs ≡ front ++ x ∷ [])
ends_with [] x e = absurd cc
ends_with (y ∷ xs) x e = last_behind xs y x e
  where
    last_behind : {A : Type 0} (xs : List A) (y x : A) → last_or (Some y) xs ≡ Some x → (front : List A) × (y ∷ xs ≡ front ++ x ∷ [])
    last_behind [] y x e = let same : y ≡ x = same_Some y x e in ([], ap (λ z. z ∷ []) same)
    last_behind (z ∷ xs) y x e = let rest = last_behind xs z x e in (y ∷ rest.0, ap (λ l. y ∷ l) rest.1)

-- a list without a last item is empty
pub ends_nowhere : {A : Type 0} (xs : List A) → last_or None xs ≡ None → xs ≡ []
ends_nowhere [] e = refl
ends_nowhere (y ∷ xs) e = absurd (never xs y e)
  where
    never : {A : Type 0} (xs : List A) (y : A) → last_or (Some y) xs ≡ None → ⊥
    never [] y e = absurd cc
    never (z ∷ xs) y e = never xs z e

-- a walk that passes nothing begins at no link
no_start : (most : ℕ) (forks : List Fork) (number depth link : ℕ) → 0 < most → walk_from most forks number depth link ≡ [] → link ≡ 0
no_start zero forks number depth link positive e = absurd (omega (arith, positive))
no_start (suc most) forks number depth zero positive e = refl
no_start (suc most) forks number depth (suc at) positive e = absurd cc

-- a walk that begins at a head passes it
starts_at : (most : ℕ) (forks : List Fork) (number depth place : ℕ) → 0 < most → passes (walk_from most forks number depth (suc place)) place ≡ true
starts_at zero forks number depth place positive = absurd (omega (arith, positive))
starts_at (suc most) forks number depth place positive = passes_first (place, bit_at number depth) (walk_from most forks number (depth + 1) (link_at forks place (bit_at number depth))) place refl

-- ---- forks

-- what hangs on a head stays, where that of another one changes
link_other : (forks : List Fork) (i k : ℕ) (fork : Fork) (right : Bool) → k ≢ i → link_at (set forks i fork) k right ≡ link_at forks k right
link_other [] i k fork right apart = refl
link_other (x ∷ forks) zero zero fork right apart = absurd (apart refl)
link_other (x ∷ forks) zero (suc k) fork right apart = refl
link_other (x ∷ forks) (suc i) zero fork right apart = refl
link_other (x ∷ forks) (suc i) (suc k) fork right apart = link_other forks i k fork right (λ e. apart (ap suc e))

-- what hangs on a head that changed is what it says
link_here : (forks : List Fork) (i : ℕ) (fork : Fork) (right : Bool) → i < length forks → link_at (set forks i fork) i right ≡ side_of right fork
link_here [] i fork right lt = absurd (omega (arith, lt))
link_here (x ∷ forks) zero fork right lt = refl
link_here (x ∷ forks) (suc i) fork right lt = let lower : i < length forks = omega (arith, lt) in link_here forks i fork right lower

-- nothing hangs behind the last head
link_past : (forks : List Fork) (i : ℕ) (right : Bool) → length forks ≤ i → link_at forks i right ≡ 0
link_past [] i right le = refl
link_past (x ∷ forks) zero right le = absurd (omega (arith, le))
link_past (x ∷ forks) (suc i) right le = let lower : length forks ≤ i = omega (arith, le) in link_past forks i right lower

-- what hangs on heads stays, where one comes behind them on which nothing hangs
link_push : (forks : List Fork) (fork : Fork) (k : ℕ) (right : Bool) → side_of right fork ≡ 0 → link_at (forks ++ fork ∷ []) k right ≡ link_at forks k right
link_push [] fork zero right bare = bare
link_push [] fork (suc k) right bare = refl
link_push (x ∷ forks) fork zero right bare = refl
link_push (x ∷ forks) fork (suc k) right bare = link_push forks fork k right bare

-- two places are one, or not
same_or_not : (a b : ℕ) → (a ≡ b) ⊎ (a ≢ b)
same_or_not zero zero = inl refl
same_or_not zero (suc b) = inr (λ e. omega (arith, e))
same_or_not (suc a) zero = inr (λ e. omega (arith, e))
same_or_not (suc a) (suc b) = elim (same_or_not a b) [ inl e ↦ inl (ap suc e) | inr apart ↦ inr (λ e. apart (omega (arith, e))) ]

-- a side is the other one of two, or not
same_or_other : (side right : Bool) → (side ≡ right) ⊎ (side ≡ not right)
same_or_other true true = inl refl
same_or_other true false = inr refl
same_or_other false true = inr refl
same_or_other false false = inl refl

-- what is on neither side is on no side
pub either_side : (bare : Fork) → side_of false bare ≡ 0 → side_of true bare ≡ 0 → (right : Bool) → side_of right bare ≡ 0
either_side bare left right true = right
either_side bare left right false = left

-- nothing hangs on the heads that were cleared, and on one more
pub cleared_step : (forks : List Fork) (bare : Fork) (i : ℕ) → side_of false bare ≡ 0 → side_of true bare ≡ 0 → i < length forks → ((place : ℕ) (right : Bool) → place < i → link_at forks place right ≡ 0)
    → (place : ℕ) (right : Bool) → place < i + 1 → link_at (set forks i bare) place right ≡ 0
cleared_step forks bare i left right inside cleared place side lt = elim (same_or_not place i) [
  | inl e ↦ ap (λ k. link_at (set forks i bare) k side) e ∙ link_here forks i bare side inside ∙ either_side bare left right side
  | inr apart ↦ let lower : place < i = omega (arith, lt, apart) in link_other forks i place bare side apart ∙ cleared place side lower
]

-- nothing hangs anywhere, where all heads were cleared
pub all_cleared : (forks : List Fork) (i : ℕ) → length forks ≤ i → ((place : ℕ) (right : Bool) → place < i → link_at forks place right ≡ 0) → (place : ℕ) (right : Bool) → link_at forks place right ≡ 0
all_cleared forks i le cleared place right = elim (below place i) [ inl lt ↦ cleared place right lt | inr past ↦ link_past forks place right (omega (arith, le, past)) ]
  where
    below : (a b : ℕ) → (a < b) ⊎ (b ≤ a)
    below a zero = inr (omega arith)
    below zero (suc b) = inl (omega arith)
    below (suc a) (suc b) = elim (below a b) [ inl lt ↦ inl (omega (arith, lt)) | inr le ↦ inr (omega (arith, le)) ]

-- ---- hanging a head

-- a link leads within more heads too
link_within : (few many place link : ℕ) → few ≤ many → IsLink few place link → IsLink many place link
link_within few many place link le is = record { within = omega (arith, is.within, le); later = is.later }

-- a place below the next one is this one, or below it
last_or_before : (k place : ℕ) → k < place + 1 → (k ≡ place) ⊎ (k < place)
last_or_before k place lt = let le : k ≤ place = omega (arith, lt) in eq-or-lt_of_le le

-- slots that were just made lead to no head
pub no_slots : (slots : List ℕ) (count : ℕ) → slots ≡ replicate count 0 → (length slots ≡ count) × ((slot : ℕ) → get_or slots slot 0 ≡ 0)
no_slots slots count is = (ap length is ∙ length-replicate count 0, λ slot. ap (λ l. get_or l slot 0) is ∙ zeros count slot)
  where
    zeros : (n i : ℕ) → get_or {A = ℕ} (replicate n 0) i 0 ≡ 0
    zeros zero i = refl
    zeros (suc n) zero = refl
    zeros (suc n) (suc i) = zeros n i

-- where nothing hangs and no slot leads to a head, none hang so far
pub none_hung : (slots : List ℕ) (forks : List Fork) (numbers : List ℕ) → ((slot : ℕ) → get_or slots slot 0 ≡ 0) → ((place : ℕ) (right : Bool) → link_at forks place right ≡ 0) → AreHung slots forks numbers 0
none_hung slots forks numbers empty bare = record {
  first = λ slot. omega (arith, empty slot);
  next = λ place right. record { within = omega (arith, bare place right); later = λ some. absurd (omega (arith, bare place right, some)) };
  passed = λ place number lt. absurd (omega (arith, lt));
}

-- heads hang as they did, where one comes behind them on which nothing hangs
pub hung_push : (slots : List ℕ) (forks : List Fork) (fork : Fork) (numbers : List ℕ) (number count : ℕ) → ((right : Bool) → side_of right fork ≡ 0) → count ≤ length numbers → AreHung slots forks numbers count → AreHung slots (forks ++ fork ∷ []) (numbers ++ number ∷ []) count
hung_push slots forks fork numbers number count bare le hung = record {
  first = hung.first;
  next = λ place right. subst (IsLink count place) (sym (link_push forks fork place right (bare right))) (hung.next place right);
  passed = λ place n lt is. elim (get-push numbers place number n is) [
    | inl e ↦ absurd (omega (arith, e, lt, le))
    | inr old ↦ passes_kept forks (forks ++ fork ∷ []) n place (length forks) (length (forks ++ fork ∷ [])) 0 (get_or slots (slot_of (length slots) n) 0) (λ k right _. link_push forks fork k right (bare right)) more (hung.passed place n lt old)
  ];
}
  where
    more : length forks ≤ length (forks ++ fork ∷ [])
    more = omega (arith, length_push forks fork)

    get-push : {A : Type 0} (xs : List A) (k : ℕ) (y z : A) → slice_get (xs ++ y ∷ []) k ≡ Some z → (k ≡ length xs) ⊎ (slice_get xs k ≡ Some z)
    get-push [] zero y z is = inl refl
    get-push [] (suc k) y z is = absurd cc
    get-push (x ∷ xs) zero y z is = inr is
    get-push (x ∷ xs) (suc k) y z is = elim (get-push xs k y z is) [ inl w ↦ inl (ap suc w) | inr w ↦ inr w ]

-- the last head that a walk passes is its end
pub hung_end : (slots : List ℕ) (forks : List Fork) (numbers : List ℕ) (place number last : ℕ) (right : Bool) → place < length forks → AreHung slots forks numbers place → last_or None (walk_of slots forks number) ≡ Some (last, right)
    → IsEnd forks number place (length forks) 0 (get_or slots (slot_of (length slots) number) 0) last right
hung_end slots forks numbers place number last right inside hung e =
    let start = slot_of (length slots) number in
    let ends = ends_with (walk_of slots forks number) (last, right) e in
    let room : place < 0 + length forks = omega (arith, inside) in
    walk_end forks number place last right (length forks) 0 (get_or slots start 0) ends.0 hung.next (hung.first start) (λ positive. positive) room ends.1

-- one head more hangs, where it was hung on the end of its number's walk
pub hung_fork : (slots : List ℕ) (forks : List Fork) (numbers : List ℕ) (place number last : ℕ) (right : Bool) (old fork : Fork) → slice_get numbers place ≡ Some number → place < length forks → IsEnd forks number place (length forks) 0 (get_or slots (slot_of (length slots) number) 0) last right
    → ((side : Bool) → link_at forks last side ≡ side_of side old) → side_of right fork ≡ place + 1 → side_of (not right) fork ≡ side_of (not right) old → AreHung slots forks numbers place → AreHung slots (set forks last fork) numbers (place + 1)
hung_fork slots forks numbers place number last right old fork here inside end was hangs other hung = record {
  first = λ slot. omega (arith, hung.first slot);
  next = λ k side. elim (changed k side) [
    | inl e ↦ subst (IsLink (place + 1) k) (sym e) (link_within place (place + 1) k (link_at forks k side) (omega arith) (hung.next k side))
    | inr w ↦ linked k side w.0 w.1
  ];
  passed = λ k n lt is. elim (last_or_before k place lt) [
    | inl e ↦ its_own k n e is
    | inr lower ↦ passes_kept forks new n k (length forks) (length new) 0 (get_or slots (slot_of (length slots) n) 0) kept enough (hung.passed k n lower is)
  ];
}
  where
    new : List Fork
    new = set forks last fork

    same : length new ≡ length forks
    same = length-set forks last fork

    enough : length forks ≤ length new
    enough = omega (arith, same)

    reach : last < length forks
    reach = omega (arith, end.before, inside)

    link : link_at new last right ≡ suc place
    link = let next : place + 1 ≡ suc place = omega arith in link_here forks last fork right reach ∙ hangs ∙ next

    changed : (k : ℕ) (side : Bool) → (link_at new k side ≡ link_at forks k side) ⊎ ((k ≡ last) × (side ≡ right))
    changed k side = elim (same_or_not k last) [
      | inr apart ↦ inl (link_other forks last k fork side apart)
      | inl e ↦ elim (same_or_other side right) [
        | inl f ↦ inr (e, f)
        | inr f ↦ inl (ap (λ j. link_at new j side) e ∙ link_here forks last fork side reach ∙ ap (λ b. side_of b fork) f ∙ other ∙ ap (λ b. side_of b old) (sym f) ∙ sym (was side) ∙ ap (λ j. link_at forks j side) (sym e))
      ]
    ]

    kept : IsKept forks new
    kept k side some = elim (changed k side) [ inl e ↦ e | inr w ↦ absurd (some (ap (λ b. link_at forks k b) w.1 ∙ ap (λ j. link_at forks j right) w.0 ∙ end.free)) ]

    linked : (k : ℕ) (side : Bool) → k ≡ last → side ≡ right → IsLink (place + 1) k (link_at new k side)
    linked k side e f =
        let is : link_at new k side ≡ suc place = ap (λ b. link_at new k b) f ∙ ap (λ j. link_at new j right) e ∙ link in
        record { within = omega (arith, is); later = λ _. omega (arith, is, e, end.before) }

    its_own : (k n : ℕ) → k ≡ place → slice_get numbers k ≡ Some n → passes (walk_of slots new n) k ≡ true
    its_own k n e is =
        let number_is : n ≡ number = same_Some n number (sym is ∙ ap (slice_get numbers) e ∙ here) in
        rw (number_is, e, same) (end.passes new place kept link)

-- one head more hangs, where its number's slot led to none and leads to it
pub hung_slot : (slots : List ℕ) (forks : List Fork) (numbers : List ℕ) (place number : ℕ) → slice_get numbers place ≡ Some number → place < length forks → slot_of (length slots) number < length slots → last_or None (walk_of slots forks number) ≡ None
    → AreHung slots forks numbers place → AreHung (set slots (slot_of (length slots) number) (place + 1)) forks numbers (place + 1)
hung_slot slots forks numbers place number here inside within none hung = record {
  first = λ slot. first_in slot;
  next = λ k side. link_within place (place + 1) k (link_at forks k side) (omega arith) (hung.next k side);
  passed = λ k n lt is. elim (last_or_before k place lt) [
    | inl e ↦ its_own k n e is
    | inr lower ↦ others k n (hung.passed k n lower is)
  ];
}
  where
    slot : ℕ
    slot = slot_of (length slots) number

    new : List ℕ
    new = set slots slot (place + 1)

    same : length new ≡ length slots
    same = length-set slots slot (place + 1)

    first_in : (k : ℕ) → get_or new k 0 ≤ place + 1
    first_in k = elim (same_or_not k slot) [
      | inl e ↦ let is : get_or new k 0 ≡ place + 1 = ap (λ j. get_or new j 0) e ∙ get_or-set_same slots slot (place + 1) 0 within in omega (arith, is)
      | inr apart ↦ let is : get_or new k 0 ≡ get_or slots k 0 = get_or-set_other slots slot k (place + 1) 0 apart in omega (arith, is, hung.first k)
    ]

    some : 0 < length forks
    some = omega (arith, inside)

    unled : get_or slots slot 0 ≡ 0
    unled = no_start (length forks) forks number 0 (get_or slots slot 0) some (ends_nowhere (walk_of slots forks number) none)

    others : (k n : ℕ) → passes (walk_of slots forks n) k ≡ true → passes (walk_of new forks n) k ≡ true
    others k n e = elim (same_or_not (slot_of (length slots) n) slot) [
      | inl own ↦ absurd (never_passed (length forks) forks n 0 k (ap (λ l. passes (walk_from (length forks) forks n 0 l) k) (sym (ap (λ j. get_or slots j 0) own ∙ unled)) ∙ e))
      | inr apart ↦
          let start : get_or new (slot_of (length new) n) 0 ≡ get_or slots (slot_of (length slots) n) 0 = ap (λ j. get_or new (slot_of j n) 0) same ∙ get_or-set_other slots slot (slot_of (length slots) n) (place + 1) 0 apart in
          ap (λ l. passes (walk_from (length forks) forks n 0 l) k) start ∙ e
    ]

    its_own : (k n : ℕ) → k ≡ place → slice_get numbers k ≡ Some n → passes (walk_of new forks n) k ≡ true
    its_own k n e is =
        let number_is : n ≡ number = same_Some n number (sym is ∙ ap (slice_get numbers) e ∙ here) in
        let next : place + 1 ≡ suc place = omega arith in
        let start : get_or new (slot_of (length new) n) 0 ≡ suc place = ap (λ j. get_or new (slot_of j n) 0) same ∙ ap (λ m. get_or new (slot_of (length slots) m) 0) number_is ∙ get_or-set_same slots slot (place + 1) 0 within ∙ next in
        ap (λ l. passes (walk_from (length forks) forks n 0 l) k) start ∙ ap (λ j. passes (walk_from (length forks) forks n 0 (suc place)) j) e ∙ starts_at (length forks) forks n 0 place some

-- the numbers of the first heads are told, and that of one more
pub told_more : (old new numbers : List ℕ) (place number : ℕ) → slice_get numbers place ≡ Some number → ((n : ℕ) → may_hold old n ≡ true → may_hold new n ≡ true) → may_hold new number ≡ true → AreTold old numbers place → AreTold new numbers (place + 1)
told_more old new numbers place number at kept added told k n lt is = elim (last_or_before k place lt) [
  | inl here ↦ let same : number ≡ n = same_Some number n (sym at ∙ ap (slice_get numbers) (sym here) ∙ is) in subst (λ (m : ℕ). may_hold new m ≡ true) same added
  | inr before ↦ kept n (told k n before is)
]

-- the numbers that came are told, where one more came behind them
told_push : (old new numbers : List ℕ) (number count : ℕ) → count ≡ length (numbers ++ number ∷ []) → ((n : ℕ) → may_hold old n ≡ true → may_hold new n ≡ true) → may_hold new number ≡ true → AreTold old numbers (length numbers) → AreTold new (numbers ++ number ∷ []) count
told_push old new numbers number count all kept added told place n lt is = by numbers place (λ k m inside at. kept m (told k m inside at)) is
  where
    by : (xs : List ℕ) (i : ℕ) → ((k m : ℕ) → k < length xs → slice_get xs k ≡ Some m → may_hold new m ≡ true) → slice_get (xs ++ number ∷ []) i ≡ Some n → may_hold new n ≡ true
    by [] zero before is = let same : number ≡ n = same_Some number n is in subst (λ (m : ℕ). may_hold new m ≡ true) same added
    by [] (suc i) before is = absurd cc
    by (x ∷ xs) zero before is = before 0 n (omega arith) is
    by (x ∷ xs) (suc i) before is = by xs i (λ k m inside at. before (suc k) m (omega (arith, inside)) at) is

-- all heads hang, where one more was hung behind them
pub walks_push : (old new : Places) (mid : List Fork) (bare : Fork) (numbers : List ℕ) (place number : ℕ) → HaveWalks old numbers → place ≡ length old.forks.items → mid ≡ old.forks.items ++ bare ∷ [] → ((right : Bool) → side_of right bare ≡ 0) → length new.forks.items ≡ length mid
    → ((all : List ℕ) → slice_get all place ≡ Some number → AreHung old.slots.items mid all place → AreHung new.slots.items new.forks.items all (place + 1)) → ((n : ℕ) → may_hold old.filter n ≡ true → may_hold new.filter n ≡ true) → may_hold new.filter number ≡ true → HaveWalks new (numbers ++ number ∷ [])
walks_push old new mid bare numbers place number walks at mid_is none forks step kept added =
    let slots : List ℕ = old.slots.items in
    let all : List ℕ = numbers ++ number ∷ [] in
    let end : place ≡ length numbers = at ∙ walks.each in
    let pushed : AreHung slots (old.forks.items ++ bare ∷ []) all (length numbers) = hung_push slots old.forks.items bare numbers number (length numbers) none (omega arith) walks.hung in
    let before : AreHung slots mid all place = subst (λ (k : ℕ). AreHung slots mid all k) (sym end) (subst (λ (l : List Fork). AreHung slots l all (length numbers)) (sym mid_is) pushed) in
    let here : slice_get all place ≡ Some number = subst (λ (k : ℕ). slice_get all k ≡ Some number) (sym end) (get_pushed numbers number) in
    let more : place + 1 ≡ length all = omega (arith, end, length_push numbers number) in
    record {
      each = forks ∙ ap length mid_is ∙ length_push old.forks.items bare ∙ ap (λ (k : ℕ). k + 1) walks.each ∙ sym (length_push numbers number);
      hung = subst (λ (k : ℕ). AreHung new.slots.items new.forks.items all k) more (step all here before);
      told = told_push old.filter new.filter numbers number (length all) refl kept added walks.told;
    }
  where
    get_pushed : (xs : List ℕ) (x : ℕ) → slice_get (xs ++ x ∷ []) (length xs) ≡ Some x
    get_pushed [] x = refl
    get_pushed (y ∷ xs) x = get_pushed xs x

-- Claimed objects whose places rise.
use Rattle.std.proofs.Common.{◌≡◌, ◌+◌, ◌-◌, ◌<◌, ◌≤◌, ◌&&◌, ◌∙◌, ℕ, zero, suc, Bool, true, false, List, [], ◌∷◌, Option, Some, None, length, drop, slice_get, get_or, refl, sym, ap, subst, arith}
use Rattle.std.specs.Prelude.{◌==◌, ◌||◌, find, is_some, option_map, nat_lt, if◌then◌else◌}
use Rattle.std.proofs.lemmas.Option.{get_or_from_slice_get, slice_get-get_or, slice_get_within}
use Rattle.std.specs.Ordering.{is_eq, nat_cmp}
use Rattle.std.specs.declared.cmp.Ordering.TheVariants.{Less, Equal, Greater}
use Rattle.std.proofs.lemmas.Bool.{eqb-true, eq-eqb, ltb-true, lt-ltb}
use Rattle.link_rules.proofs.Settled.{both_true, none_some, some_same}
use Rattle.link_check_claims.specs.declared.claim.ClaimedObject.{ClaimedObject}
use Rattle.link_check_claims.specs.Claims.{AreRising, is_claimed}
use Rattle.link_check_loaded.specs.Accepted.{Ranks, is_above, rank_in, rises_from}
use Rattle.link_check_loaded.proofs.Places.{drop-next}

-- places that rise one after another rise all
abbrev AllAbove : Option ℕ → List ClaimedObject → Type 0
AllAbove last os = (k : ℕ) (d : ClaimedObject) → k < length os → is_above last (get_or os k d).object ≡ true

further : (last : Option ℕ) (m n : ℕ) → is_above last m ≡ true → m < n → is_above last n ≡ true
further None m n above less = refl
further (Some l) m n above less = lt-ltb l n (omega (arith, ltb-true l m above, less))

pub rises-is : (last : Option ℕ) (os : List ClaimedObject) → rises_from last os ≡ true → AreRising os × AllAbove last os
rises-is last [] rises = (tt, λ k d lt. absurd (omega (arith, lt)))
rises-is last (o ∷ os) rises =
    let here = both_true (is_above last o.object) (rises_from (Some o.object) os) rises in
    let behind = rises-is (Some o.object) os here.1 in
    ((λ k d lt. ltb-true o.object (get_or os k d).object (behind.1 k d lt), behind.0), above here.0 behind.1)
  where
    above : is_above last o.object ≡ true → AllAbove (Some o.object) os → AllAbove last (o ∷ os)
    above first rest zero d lt = first
    above first rest (suc k) d lt = further last o.object (get_or os k d).object first (ltb-true o.object (get_or os k d).object (rest k d (omega (arith, lt))))

pub is-rises : (last : Option ℕ) (os : List ClaimedObject) → AreRising os → AllAbove last os → rises_from last os ≡ true
is-rises last [] rising above = refl
is-rises last (o ∷ os) rising above =
    ap (λ b. b && rises_from (Some o.object) os) (above zero o (omega arith))
    ∙ is-rises (Some o.object) os rising.1 (λ k d lt. lt-ltb o.object (get_or os k d).object (rising.0 k d lt))

not-same : (m n : ℕ) (same : Bool) → (m == n) ≡ same → m < n → same ≡ false
not-same m n true is less = absurd (let e = eqb-true m n is in omega (arith, less, e))
not-same m n false is less = refl

-- of objects that rise each has the rank that it is claimed with
pub ranked : (os : List ClaimedObject) → AreRising os → (i : ℕ) (from : ClaimedObject) → slice_get os i ≡ Some from → rank_in os from.object ≡ Some from.rank
ranked [] rising i from at = absurd (none_some from at)
ranked (o ∷ os) rising zero from at =
    let same : o ≡ from = some_same o from at in
    ap (λ (b : Bool). option_map (λ (x : ClaimedObject). x.rank) (if b then Some o else find (λ (x : ClaimedObject). x.object == from.object) os)) (eq-eqb o.object from.object (ap (λ (x : ClaimedObject). x.object) same))
    ∙ ap (λ (x : ClaimedObject). Some x.rank) same
ranked (o ∷ os) rising (suc i) from at =
    let less : o.object < (get_or os i from).object = rising.0 i from (slice_get_within os i from at) in
    let lower : o.object < from.object = subst (λ (x : ClaimedObject). o.object < x.object) (get_or_from_slice_get os i from from at) less in
    ap (λ (b : Bool). option_map (λ (x : ClaimedObject). x.rank) (if b then Some o else find (λ (x : ClaimedObject). x.object == from.object) os)) (not-same o.object from.object (o.object == from.object) refl lower)
    ∙ ranked os rising.1 i from at

-- an object is claimed where it has a rank
pub claimed-ranked : (os : List ClaimedObject) (f : ℕ) → is_claimed os f ≡ is_some (rank_in os f)
claimed-ranked [] f = refl
claimed-ranked (o ∷ os) f = by (o.object == f) (claimed-ranked os f)
  where
    by : (b : Bool) → is_claimed os f ≡ is_some (rank_in os f)
        → (b || is_claimed os f) ≡ is_some (option_map (λ (x : ClaimedObject). x.rank) (if b then Some o else find (λ (x : ClaimedObject). x.object == f) os))
    by true rest = refl
    by false rest = rest

-- a rank is that of a claimed object
pub rank-found : (os : List ClaimedObject) (f r : ℕ) → rank_in os f ≡ Some r → (i : ℕ) × (o : ClaimedObject) × (slice_get os i ≡ Some o) × (o.object ≡ f) × (o.rank ≡ r)
rank-found [] f r is = absurd cc
rank-found (o ∷ os) f r is = by (o.object == f) refl (λ has. rank-found os f r has) is
  where
    by : (b : Bool) → (o.object == f) ≡ b
        → (rank_in os f ≡ Some r → (i : ℕ) × (p : ClaimedObject) × (slice_get os i ≡ Some p) × (p.object ≡ f) × (p.rank ≡ r))
        → option_map (λ (x : ClaimedObject). x.rank) (if b then Some o else find (λ (x : ClaimedObject). x.object == f) os) ≡ Some r
        → (i : ℕ) × (p : ClaimedObject) × (slice_get (o ∷ os) i ≡ Some p) × (p.object ≡ f) × (p.rank ≡ r)
    by true at rest has = (0, o, refl, eqb-true o.object f at, some_same o.rank r has)
    by false at rest has = let it = rest has in (suc it.0, it.1, it.2, it.3, it.4)

-- the first object of a list has its rank, before what the others have
pub rank-first : (o : ClaimedObject) (os : List ClaimedObject) (f : ℕ) → rank_in (o ∷ os) f ≡ (if o.object == f then Some o.rank else rank_in os f)
rank-first o os f = by (o.object == f)
  where
    by : (b : Bool) → option_map (λ (x : ClaimedObject). x.rank) (if b then Some o else find (λ (x : ClaimedObject). x.object == f) os) ≡ (if b then Some o.rank else rank_in os f)
    by true = refl
    by false = refl

-- ranks are the same where each object has the same
pub same-ranks : (f g : Ranks) → ((object : ℕ) → f object ≡ g object) → f ≡ g
same-ranks f g same = λ i. λ object. same object i

-- numbers tie where they are the same
pub is-eq : (a b : ℕ) → is_eq (nat_cmp a b) ≡ (a == b)
is-eq a b = by (nat_lt a b) refl (a == b) refl
  where
    by : (less : Bool) → nat_lt a b ≡ less → (same : Bool) → (a == b) ≡ same → is_eq (if less then Less else (if same then Equal else Greater)) ≡ same
    by true is same at = sym (not-same a b same at (ltb-true a b is))
    by false is true at = refl
    by false is false at = refl

-- one object before those whose ranks are noted
pub ranks-grow : (loaded : List ClaimedObject) (left : ℕ) (d : ClaimedObject) (old new : Ranks) → 1 ≤ left → left ≤ length loaded → ((f : ℕ) → old f ≡ rank_in (drop left loaded) f)
    → ((f : ℕ) → new f ≡ (if (get_or loaded (left - 1) d).object == f then Some (get_or loaded (left - 1) d).rank else old f))
    → (f : ℕ) → new f ≡ rank_in (drop (left - 1) loaded) f
ranks-grow loaded left d old new some within told noted f =
    let o = get_or loaded (left - 1) d in
    let at : slice_get loaded (left - 1) ≡ Some o = slice_get-get_or loaded (left - 1) d (omega (arith, some, within)) in
    let next : left - 1 + 1 ≡ left = omega (arith, some) in
    noted f
    ∙ (ap (λ (r : Option ℕ). if o.object == f then Some o.rank else r) (told f)
    ∙ (sym (rank-first o (drop left loaded) f)
    ∙ sym (ap (λ l. rank_in l f) (drop-next loaded (left - 1) o at ∙ ap (λ k. o ∷ drop k loaded) next))))

-- What a seat began.
use Rattle.std.proofs.Common.{◌≡◌, ℕ, Bool, true, false, List, [], ◌∷◌, ◌++◌, Contains, sym, ap, ◌∙◌, subst, inl, inr, ⊎_elim, arith, Option, Some, length, set, ◌<◌}
use Rattle.std.specs.Prelude.{MatchBool, ◌⊎◌, slice_get, All, Result, Ok, Err, IsOkAnd}
use Rattle.std.proofs.lemmas.List.Elements.{All-weaker, All-contains_itself}
use mathlib.Core.Logic.{dite}
use native.Mathlib.Decide.{ℕ_discrete}
use Rattle.link_closure.specs.declared.workload.Mark.{Mark}
use Rattle.link_claim.specs.declared.view.View.{View}
use Rattle.link_claim.specs.Views.{with_file, with_claim, with_item, with_begin, joined, IsMarked}
use Rattle.link_claim.specs.Later.{IsLater}
use Rattle.link_claim.proofs.Later.{later_then}
use Rattle.link_closure.proofs.Joins.{contains_here, contains_left, contains_right, contains_cases, contains_append, contains_none}
use Rattle.link_claim_pool.specs.declared.worker.Finding.{Finding}
use Rattle.link_claim_pool.specs.declared.worker.Back.{Back}
use Rattle.link_claim_pool.specs.Jobs.{HasFinding, AreKept, IsInHand, IsTakenIn}
use Rattle.link_claim_pool.specs.Found.{HasResult, AreWritten}
use Rattle.link_claim_pool.proofs.Findings.{get_below, get_set, get_set_other}

-- a request begins nothing
pub request_begins : (b : Bool) (f : ℕ) (v u : View) → MatchBool b (u ≡ with_claim f v) (u ≡ with_file f v) → u.begins ≡ v.begins
request_begins true f v u e = ap (λ (x : View). x.begins) e
request_begins false f v u e = ap (λ (x : View). x.begins) e

-- nor does a check
pub check_begins : (b : Bool) (f : ℕ) (v u : View) → MatchBool b (u ≡ with_file f v) ((u ≡ v) × ¬ Contains v.known f) → u.begins ≡ v.begins
check_begins true f v u e = ap (λ (x : View). x.begins) e
check_begins false f v u e = ap (λ (x : View). x.begins) e.0

-- nor does a mark
pub mark_begins : (m : Mark) (n : ℕ) (v u : View) → IsMarked m n v u → u.begins ≡ v.begins
mark_begins m n v u h = ⊎_elim (λ a. ap (λ (x : View). x.begins) a.1) (λ b. ap (λ (x : View). x.begins) b) h

-- a begin lists its item where it answers true
pub begin_begins : (b : Bool) (i : ℕ) (v u z : View) → u.begins ≡ v.begins → MatchBool b (z ≡ with_begin i u) (z ≡ with_item i u) → MatchBool b (z.begins ≡ i ∷ v.begins) (z.begins ≡ v.begins)
begin_begins true i v u z same e = ap (λ (x : View). x.begins) e ∙ ap (λ (l : List ℕ). i ∷ l) same
begin_begins false i v u z same e = ap (λ (x : View). x.begins) e ∙ same

-- what is in a list of one
only : {X : Type 0} (x y : X) → Contains (x ∷ []) y → x ≡ y
only x y has = ⊎_elim (λ e. e) (λ none. contains_none y none) (contains_cases x y [] has)

module _ {T : Type 0} where
  -- where nothing was begun since, nothing is lost
  pub kept_same : (v u : View) (fs : List (Finding T)) → u.begins ≡ v.begins → AreKept v fs → AreKept u fs
  kept_same v u fs same kept i has = kept i (subst (λ (l : List ℕ). Contains l i) same has)

  -- nor where the one that was begun has a finding
  pub kept_push : (v u : View) (fs : List (Finding T)) (f : Finding T) → u.begins ≡ f.item ∷ v.begins → AreKept v fs → AreKept u (fs ++ f ∷ [])
  kept_push v u fs f more kept i has =
      ⊎_elim (λ (e : f.item ≡ i). (f, contains_right f fs (f ∷ []) (contains_here f []), e))
      (λ (old : Contains v.begins i). let k = kept i old in (k.0, contains_left k.0 fs (f ∷ []) k.1, k.2))
      (contains_cases f.item i v.begins (subst (λ (l : List ℕ). Contains l i) more has))

  -- a result stays when another is written
  result_stays : (results : List (Option T)) (k i : ℕ) (y : T) → HasResult results i → HasResult (set results k (Some y)) i
  result_stays results k i y has =
      dite (ℕ_discrete i k)
      (λ e. (y, subst (λ j. slice_get (set results k (Some y)) j ≡ Some (Some y)) (sym e) (get_set results k (Some y) (subst (λ j. j < length results) e (get_below results i (Some has.0) has.1)))))
      (λ ne. (has.0, get_set_other results k i (Some y) ne ∙ has.1))

  -- a finding that is written down is no longer needed
  pub in_hand_put : (new results : List (Option T)) (fs rest : List (Finding T)) (f : Finding T) → new ≡ set results f.item (Some f.found) → f.item < length results
      → fs ≡ rest ++ f ∷ [] → (i : ℕ) → IsInHand results fs i → IsInHand new rest i
  in_hand_put new results fs rest f is lt split i has =
      ⊎_elim
      (λ (done : HasResult results i). inl (subst (λ (r : List (Option T)). HasResult r i) (sym is) (result_stays results f.item i f.found done)))
      (λ (k : HasFinding fs i). ⊎_elim (λ (a : Contains rest k.0). inr (k.0, a, k.2))
      (λ (b : Contains (f ∷ []) k.0). inl (subst (λ j. HasResult new j) (ap (λ (x : Finding T). x.item) (only f k.0 b) ∙ k.2)
      (f.found, subst (λ (r : List (Option T)). slice_get r f.item ≡ Some (Some f.found)) (sym is) (get_set results f.item (Some f.found) lt))))
      (contains_append k.0 rest (f ∷ []) (subst (λ (l : List (Finding T)). Contains l k.0) split k.1)))
      has

  -- once no finding is left, what is in hand has a result
  pub in_hand_end : (results : List (Option T)) (fs : List (Finding T)) → length fs ≡ 0 → (i : ℕ) → IsInHand results fs i → HasResult results i
  in_hand_end results fs none i has =
      ⊎_elim (λ (a : HasResult results i). a) (λ (k : HasFinding fs i). let lt = k.1.1 in absurd (omega arith)) has

  -- once a seat is joined and its findings are written down, what it began has a result too
  pub written_join : (before : List ℕ) (v u z : View) (old new : List (Option T)) (fs : List (Finding T)) → z ≡ joined v u → ((i : ℕ) → IsInHand old fs i → HasResult new i)
      → AreKept u fs → AreWritten before v old → AreWritten before z new
  written_join before v u z old new fs is done kept written i has =
      ⊎_elim (λ (a : Contains v.begins i). ⊎_elim (λ (b : Contains before i). inl b) (λ (r : HasResult old i). inr (done i (inl r))) (written i a))
      (λ (b : Contains u.begins i). inr (done i (inr (kept i b))))
      (contains_append i v.begins u.begins (subst (λ (x : View). Contains x.begins i) is has))

  -- at first each is still to come
  pub none_taken : {E : Type 0} (v : View) (results : List (Option T)) (all : List (Result (Back T) E)) → All (λ x. Contains all x ⊎ IsOkAnd x (IsTakenIn v results)) all
  none_taken v results all = All-weaker (Contains all) (λ x. Contains all x ⊎ IsOkAnd x (IsTakenIn v results)) (λ x is. inl is) all (All-contains_itself all)

  module _ (v u : View) (old new : List (Option T)) (later : IsLater v u) (stays : (i : ℕ) → HasResult old i → HasResult new i) where
    -- who was taken in stays so
    taken_later : {E : Type 0} (r : Result (Back T) E) → IsOkAnd r (IsTakenIn v old) → IsOkAnd r (IsTakenIn u new)
    taken_later (Ok b) is = (later_then is.0 later, λ i has. stays i (is.1 i has))
    taken_later (Err e) is = is

    -- one more that came back is taken in
    pub taken_more : {E : Type 0} (all backs rest : List (Result (Back T) E)) (r : Result (Back T) E) (b : Back T) → r ≡ Ok b → backs ≡ rest ++ r ∷ [] → IsTakenIn u new b
        → All (λ x. Contains backs x ⊎ IsOkAnd x (IsTakenIn v old)) all → All (λ x. Contains rest x ⊎ IsOkAnd x (IsTakenIn u new)) all
    taken_more {E} all backs rest r b ok split taken were =
        All-weaker (λ x. Contains backs x ⊎ IsOkAnd x (IsTakenIn v old)) (λ x. Contains rest x ⊎ IsOkAnd x (IsTakenIn u new))
        (λ x is. ⊎_elim
        (λ (left : Contains backs x). ⊎_elim (λ (a : Contains rest x). inl a)
        (λ (c : Contains (r ∷ []) x). inr (subst (λ y. IsOkAnd y (IsTakenIn u new)) (sym ok ∙ only r x c) taken))
        (contains_append x rest (r ∷ []) (subst (λ (l : List (Result (Back T) E)). Contains l x) split left)))
        (λ (done : IsOkAnd x (IsTakenIn v old)). inr (taken_later x done))
        is)
        all were

  -- once none is left, all are taken in
  pub all_taken : {E : Type 0} (v : View) (results : List (Option T)) (all backs : List (Result (Back T) E)) → length backs ≡ 0 → All (λ x. Contains backs x ⊎ IsOkAnd x (IsTakenIn v results)) all
      → All (λ x. IsOkAnd x (IsTakenIn v results)) all
  all_taken v results all backs none were =
      All-weaker (λ x. Contains backs x ⊎ IsOkAnd x (IsTakenIn v results)) (λ x. IsOkAnd x (IsTakenIn v results))
      (λ x is. ⊎_elim (λ (left : Contains backs x). let lt = left.1 in absurd (omega arith)) (λ (done : IsOkAnd x (IsTakenIn v results)). done) is) all were

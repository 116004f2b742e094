-- What was found in items, and what is missing.
use Rattle.std.proofs.Common.{◌≡◌, ℕ, zero, suc, ◌+◌, ◌<◌, ◌≤◌, List, [], ◌∷◌, Bool, true, false, ◌||◌, ◌++◌, take, Contains, Some, None, Option, All, sym, refl, ap, ◌∙◌, subst, arith, length, set, below_more}
use Rattle.std.specs.Prelude.{slice_get, MatchBool}
use Rattle.std.proofs.lemmas.List.Elements.{All-contains, All-weaker}
use mathlib.Core.Logic.{dite}
use native.Mathlib.Decide.{ℕ_discrete}
use Rattle.link_closure.specs.declared.workload.Mark.{Mark}
use Rattle.link_closure.specs.declared.workload.Item.{Item}
use Rattle.link_closure.specs.declared.workload.Workload.{Workload}
use Rattle.link_claim.specs.declared.view.View.{View}
use Rattle.link_closure.specs.Closure.{is_marked}
use Rattle.link_closure.specs.Workload.{HasItem}
use Rattle.link_claim.specs.Views.{MayBegin}
use Rattle.link_claim.specs.Later.{IsLater, HasRead, HasReadAll}
use Rattle.link_claim.specs.Seats.{Ending, IsSettled, claimed_in}
use Rattle.link_claim.proofs.Later.{read_later}
use Rattle.link_claim_pool.specs.Found.{IsFound, AreFound, missing, IsNotDue, Visits, Sweeps}
use Rattle.link_claim_pool.specs.declared.worker.Finding.{Finding}
use Rattle.link_claim_pool.specs.Jobs.{AllFound}
use Rattle.link_claim_pool.specs.Results.{AreResultsOf}
use Rattle.link_claim_pool.proofs.Items.{get_at, get_contains}

module _ {X : Type 0} where
  -- an index at which something stands is below the length
  pub get_below : (xs : List X) (i : ℕ) (x : X) → slice_get xs i ≡ Some x → i < length xs
  get_below [] i x e = absurd (cc)
  get_below (y ∷ ys) zero x e = omega arith
  get_below (y ∷ ys) (suc i) x e = let r = get_below ys i x e in omega arith

  -- what is written at an index stands there
  get_set_same : (xs : List X) (k : ℕ) (y x : X) → slice_get (set xs k y) k ≡ Some x → y ≡ x
  get_set_same [] k y x e = absurd (cc)
  get_set_same (z ∷ zs) zero y x e = cc
  get_set_same (z ∷ zs) (suc k) y x e = get_set_same zs k y x e

  -- so it does where there is such an index
  pub get_set : (xs : List X) (k : ℕ) (y : X) → k < length xs → slice_get (set xs k y) k ≡ Some y
  get_set [] k y h = absurd (omega arith)
  get_set (z ∷ zs) zero y h = refl
  get_set (z ∷ zs) (suc k) y h = get_set zs k y (omega arith)

  -- and nothing else is changed
  pub get_set_other : (xs : List X) (k i : ℕ) (y : X) → ¬ (i ≡ k) → slice_get (set xs k y) i ≡ slice_get xs i
  get_set_other [] k i y ne = refl
  get_set_other (z ∷ zs) zero zero y ne = absurd (ne refl)
  get_set_other (z ∷ zs) zero (suc i) y ne = refl
  get_set_other (z ∷ zs) (suc k) zero y ne = refl
  get_set_other (z ∷ zs) (suc k) (suc i) y ne = get_set_other zs k i y (λ e. ne (ap suc e))

module _ {T : Type 0} where
  -- two that are there and equal are the same
  pub some_some : (y x : T) → Some y ≡ Some x → y ≡ x
  some_some y x e = cc

  -- of nothing but missing results each is right
  pub none_are_found : (found : ℕ → T → Type 0) (v : View) (results : List (Option T)) → All (λ (o : Option T). o ≡ None) results → AreFound found v results
  none_are_found found v results all i x is =
      let e = All-contains (λ (o : Option T). o ≡ None) results (Some x) all (get_contains results i (Some x) is) in
      absurd (cc)

  -- an item of a known file that was read since has a finding
  pub found_now : (found : ℕ → T → Type 0) (v u : View) (i : ℕ) (x : T) → MayBegin v i → IsLater v u → HasRead u i → found i x → IsFound found u i x
  found_now found v u i x may later read is =
      ((may.0, subst (λ (w : Workload). HasItem w i may.0) (sym later.same) may.1, later.known may.0.file may.2), read, is)

  -- the item of a finding is one of the items
  pub found_below : (found : ℕ → T → Type 0) (w : Workload) (v : View) (i n : ℕ) (x : T) → v.work ≡ w → n ≡ length w.items → IsFound found v i x → i < n
  found_below found w v i n x same wide is = let lt = get_below w.items i is.0.0 (subst (λ (z : Workload). HasItem z i is.0.0) same is.0.1) in omega arith

  -- a finding stays one in a later view
  pub found_later : (found : ℕ → T → Type 0) (v u : View) (i : ℕ) (x : T) → IsLater v u → IsFound found v i x → IsFound found u i x
  found_later found v u i x later h =
      ((h.0.0, subst (λ (w : Workload). HasItem w i h.0.0) (sym later.same) h.0.1, later.known h.0.0.file h.0.2), read_later v u i later h.1, h.2)

  -- so do all results
  pub are_found_later : (found : ℕ → T → Type 0) (v u : View) (results : List (Option T)) → IsLater v u → AreFound found v results → AreFound found u results
  are_found_later found v u results later are i x is = found_later found v u i x later (are i x is)

  -- and all findings of a thread
  pub all_found_later : (found : ℕ → T → Type 0) (v u : View) (fs : List (Finding T)) → IsLater v u → AllFound found v fs → AllFound found u fs
  all_found_later found v u fs later all = All-weaker (λ (f : Finding T). IsFound found v f.item f.found) (λ (f : Finding T). IsFound found u f.item f.found) (λ f h. found_later found v u f.item f.found later h) fs all

  -- with one more finding written down, each result is right
  pub found_set : (found : ℕ → T → Type 0) (v : View) (results : List (Option T)) (k : ℕ) (y : T) → AreFound found v results → IsFound found v k y → AreFound found v (set results k (Some y))
  found_set found v results k y are is i x at =
      dite (ℕ_discrete i k)
      (λ e. let same : y ≡ x = some_some y x (get_set_same results k (Some y) (Some x) (subst (λ j. slice_get (set results k (Some y)) j ≡ Some (Some x)) e at)) in
      subst (λ j. IsFound found v j x) (sym e) (subst (λ (z : T). IsFound found v k z) same is))
      (λ ne. are i x (sym (get_set_other results k i (Some y) ne) ∙ at))

  -- and one fewer is missing
  pub missing_set : (xs : List (Option T)) (i : ℕ) (x : T) → slice_get xs i ≡ Some None → missing (set xs i (Some x)) < missing xs
  missing_set [] i x e = absurd (cc)
  missing_set (None ∷ xs) zero x e = omega arith
  missing_set (Some y ∷ xs) zero x e = absurd (cc)
  missing_set (None ∷ xs) (suc i) x e = let r = missing_set xs i x e in omega arith
  missing_set (Some y ∷ xs) (suc i) x e = missing_set xs i x e

  -- no visit loses a result
  pub visit_fewer : (b : Bool) (results : List (Option T)) (v : View) (results' : List (Option T)) (v' : View) (i : ℕ) → Visits b results v results' v' i → missing results' ≤ missing results
  visit_fewer true results v results' v' i visit = omega arith
  visit_fewer false results v results' v' i visit = let e = ap missing visit.0 in omega arith

  -- one more visit of a pass
  pub sweep_more : (more b : Bool) (first : List (Option T)) (v0 : View) (results : List (Option T)) (v : View) (results' : List (Option T)) (v' : View) (i : ℕ)
      → Sweeps more first v0 results v i → Visits b results v results' v' i → Sweeps (more || b) first v0 results' v' (i + 1)
  sweep_more true true first v0 results v results' v' i swept visit = omega arith
  sweep_more true false first v0 results v results' v' i swept visit = subst (λ (r : List (Option T)). missing r < missing first) (sym visit.0) swept
  sweep_more false true first v0 results v results' v' i swept visit = subst (λ (r : List (Option T)). missing results' < missing r) swept.0 visit
  sweep_more false false first v0 results v results' v' i swept visit = (
    visit.0 ∙ swept.0,
    visit.1 ∙ swept.1,
    below_more (λ j. IsNotDue first v0 j) i swept.2
        (subst (λ (r : List (Option T)). IsNotDue r v0 i) swept.0 (subst (λ (z : View). IsNotDue results z i) swept.1 visit.2)),
  )

  -- a pass that read nothing leaves no item that is due
  pub sweep_left : (b : Bool) (r : List (Option T)) (v : View) (r' : List (Option T)) (v' : View) (n : ℕ) → Sweeps b r v r' v' n → b ≡ false → (i : ℕ) → i < n → IsNotDue r' v' i
  sweep_left true r v r' v' n swept e i lt = absurd (cc)
  sweep_left false r v r' v' n swept e i lt =
      subst (λ (z : List (Option T)). IsNotDue z v' i) (sym swept.0) (subst (λ (z : View). IsNotDue r z i) (sym swept.1) (swept.2 i lt))

  module _ (found : ℕ → T → Type 0) (w : Workload) (v : View) (results : List (Option T)) (same : v.work ≡ w) (wide : length results ≡ length w.items)
      (are : AreFound found v results) (left : (i : ℕ) → i < length w.items → IsNotDue results v i) where
    -- each item of a known file was read, since its result is not due
    read_at : (i : ℕ) (it : Item) (o : Option T) → slice_get results i ≡ Some o → HasItem v.work i it → Contains v.known it.file → HasRead v i
    read_at i it None is has known = let lt = get_below results i None is in absurd (left i (omega arith) is it has known)
    read_at i it (Some x) is has known = (are i x is).1

    -- so all was read, once the roots are known and the root marks listed
    pub all_read : ((f : ℕ) → Contains w.roots f → Contains v.known f) → ((m : Mark) → Contains w.root_marks m → Contains v.marks m) → HasReadAll v
    all_read roots marks = record {
      roots = λ f has. roots f (subst (λ (z : Workload). Contains z.roots f) same has);
      root_marks = λ m has. marks m (subst (λ (z : Workload). Contains z.root_marks m) same has);
      items = λ i it has known.
          let lt = get_below w.items i it (subst (λ (z : Workload). HasItem z i it) same has) in
          let at = get_at results i (omega arith) in
          read_at i it at.0 at.1 has known;
    }

    module _ (e : Ending) (seen : e.view ≡ v) (settled : IsSettled e) where
      -- a claimed file is known
      file_known : (f : ℕ) → is_marked (claimed_in e) f ≡ true → Contains v.known f
      file_known f is = subst (λ (z : View). Contains z.known f) seen ((settled.known f).1 is)

      -- a known file is claimed
      file_claimed : (f : ℕ) → Contains v.known f → is_marked (claimed_in e) f ≡ true
      file_claimed f has = (settled.known f).0 (subst (λ (z : View). Contains z.known f) (sym seen) has)

      -- what the result of an item is, by whether its file is claimed
      result_at : (i : ℕ) (it : Item) (o : Option T) (b : Bool) → is_marked (claimed_in e) it.file ≡ b → slice_get results i ≡ Some o → HasItem w i it
          → MatchBool b ((x : T) × (slice_get results i ≡ Some (Some x)) × found i x) (slice_get results i ≡ Some None)
      result_at i it None true claimed is has =
          let lt = get_below results i None is in
          absurd (left i (omega arith) is it (subst (λ (z : Workload). HasItem z i it) (sym same) has) (file_known it.file claimed))
      result_at i it None false claimed is has = is
      result_at i it (Some x) true claimed is has = (x, is, (are i x is).2)
      result_at i it (Some x) false claimed is has =
          let f = (are i x is).0 in
          let one : f.0 ≡ it = some_item f.0 it (sym (subst (λ (z : Workload). HasItem z i f.0) same f.1) ∙ has) in
          let on = file_claimed it.file (subst (λ (t : Item). Contains v.known t.file) one f.2) in
          absurd (cc)
        where
          -- two items that are there and equal are the same
          some_item : (a b : Item) → Some a ≡ Some b → a ≡ b
          some_item a b e = cc

      -- so each result is as the contract has it
      pub results_are : AreResultsOf w found e results
      results_are = (
        wide,
        λ i it has.
            let lt = get_below w.items i it has in
            let at = get_at results i (omega arith) in
            result_at i it at.0 (is_marked (claimed_in e) it.file) refl at.1 has,
      )

-- what was written over a whole list is what is read back
pub written : {X : Type 0} (ys zs : List X) (n : ℕ) → length ys ≡ n → take n (ys ++ zs) ≡ ys
written ys zs n e = subst (λ k. take k (ys ++ zs) ≡ ys) e (take_front ys zs)
  where
    -- of two lists the first is what is taken from the front
    take_front : {X : Type 0} (ys zs : List X) → take (length ys) (ys ++ zs) ≡ ys
    take_front [] zs = refl
    take_front (y ∷ ys) zs = ap (λ l. y ∷ l) (take_front ys zs)

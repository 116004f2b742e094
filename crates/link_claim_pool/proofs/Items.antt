-- Requests and marks of an item, by their index.
use Rattle.std.proofs.Common.{◌≡◌, ◌+◌, ◌++◌, ℕ, zero, suc, ◌<◌, List, [], ◌∷◌, Contains, None, Some, sym, refl, ap, ◌∙◌, subst, arith, length, get_or, inl, inr, reverse, take}
use Rattle.std.proofs.lemmas.List.{reverse-append, take_all}
use Rattle.std.specs.Prelude.{slice_get}
use Rattle.link_closure.specs.declared.workload.Mark.{Mark}
use Rattle.link_closure.specs.declared.workload.Item.{Item}
use Rattle.link_closure.specs.declared.workload.Workload.{Workload}
use Rattle.link_claim.specs.declared.view.View.{View}
use Rattle.link_closure.specs.Workload.{HasItem, Requests, Marks, IsSound}
use Rattle.link_claim.specs.Views.{MayRequest, MayMark, MayBegin}
use Rattle.link_claim.specs.Later.{IsLater, HasRead}
use Rattle.link_closure.proofs.Joins.{contains_later}
use Rattle.link_claim_pool.specs.Found.{AreAsked}

module _ {X : Type 0} where
  -- something stands at each index below the length
  pub get_at : (xs : List X) (i : ℕ) → i < length xs → (x : X) × (slice_get xs i ≡ Some x)
  get_at [] i h = absurd (omega arith)
  get_at (x ∷ xs) zero h = (x, refl)
  get_at (x ∷ xs) (suc i) h = get_at xs i (omega arith)

  -- what stands at an index is in the list
  pub get_contains : (xs : List X) (k : ℕ) (x : X) → slice_get xs k ≡ Some x → Contains xs x
  get_contains [] k x e = absurd (cc)
  get_contains (y ∷ ys) zero x e = (0, omega arith, (let same : y ≡ x = cc in same))
  get_contains (y ∷ ys) (suc k) x e = contains_later y x ys (get_contains ys k x e)

  -- what an index is said to have stands there
  contains_at : (xs : List X) (k : ℕ) (x : X) → k < length xs → get_or xs k x ≡ x → slice_get xs k ≡ Some x
  contains_at [] k x h e = absurd (omega arith)
  contains_at (y ∷ ys) zero x h e = ap Some e
  contains_at (y ∷ ys) (suc k) x h e = contains_at ys k x (omega arith) e

  -- what is in the list stands at some index
  pub contains_get : (xs : List X) (x : X) → Contains xs x → (k : ℕ) × (k < length xs) × (slice_get xs k ≡ Some x)
  contains_get xs x has = (has.0, has.1, contains_at xs has.0 x has.1 has.2)

-- a list up to an index is that up to the one before, with what stands there behind it
pub take_at : (xs : List ℕ) (k x : ℕ) → slice_get xs k ≡ Some x → take (suc k) xs ≡ take k xs ++ x ∷ []
take_at [] k x is = absurd (cc)
take_at (y ∷ ys) zero x is = ap (λ z. z ∷ []) (let same : y ≡ x = cc in same)
take_at (y ∷ ys) (suc k) x is = ap (λ zs. y ∷ zs) (take_at ys k x is)

-- what was requested up to an index, and then what stands there
pub asked_more : (xs : List ℕ) (k x : ℕ) (v u z : View) → slice_get xs k ≡ Some x → AreAsked (take k xs) v u → AreAsked (x ∷ []) u z → AreAsked (take (k + 1) xs) v z
asked_more xs k x v u z is before next =
    let one : k + 1 ≡ suc k = omega arith in
    let last = ap (λ n. take n xs) one ∙ take_at xs k x is in
    next ∙ (ap (λ fs. x ∷ fs) before ∙ ap (λ (fs : List ℕ). fs ++ v.known) (sym (ap reverse last ∙ reverse-append (take k xs) (x ∷ []))))

-- and once all was
pub asked_all : (xs : List ℕ) (k : ℕ) (v u : View) → k ≡ length xs → AreAsked (take k xs) v u → AreAsked xs v u
asked_all xs k v u is asked = subst (λ fs. AreAsked fs v u) (take_all k xs (omega (arith, is))) asked

module _ (w : Workload) (v : View) (i k : ℕ) (same : v.work ≡ w) (begun : Contains v.known_items i) (lt : i < length w.items) where
  -- a request at an index may be made
  pub may_request : (f : ℕ) → ((it : Item) → HasItem w i it → Some f ≡ slice_get it.requests k) → MayRequest v f
  may_request f is =
      let at = get_at w.items i lt in
      inr (i, begun, subst (λ (z : Workload). Requests z i f) (sym same) (at.0, at.1, get_contains at.0.requests k f (sym (is at.0 at.1))))

  -- a mark at an index is one of the item's
  pub marks_at : (m : Mark) → ((it : Item) → HasItem w i it → Some m ≡ slice_get it.marks k) → Marks w i m
  marks_at m is = let at = get_at w.items i lt in (at.0, at.1, get_contains at.0.marks k m (sym (is at.0 at.1)))

  -- and may be made
  pub may_mark : (m : Mark) → ((it : Item) → HasItem w i it → Some m ≡ slice_get it.marks k) → MayMark v m
  may_mark m is = inr (i, begun, subst (λ (z : Workload). Marks z i m) (sym same) (marks_at m is))

-- at an index below the number of requests one stands
pub request_there : (w : Workload) (i k : ℕ) → i < length w.items → ((it : Item) → HasItem w i it → k < length it.requests) → ¬ ((it : Item) → HasItem w i it → None ≡ slice_get it.requests k)
request_there w i k lt below none =
    let at = get_at w.items i lt in
    let there = get_at at.0.requests k (below at.0 at.1) in
    let e = none at.0 at.1 ∙ there.1 in
    absurd (cc)

-- a root at an index may be asked for
pub may_request_root : (w : Workload) (v : View) (k f : ℕ) → v.work ≡ w → Some f ≡ slice_get w.roots k → MayRequest v f
may_request_root w v k f same is = inl (subst (λ (z : Workload). Contains z.roots f) (sym same) (get_contains w.roots k f (sym is)))

-- a root mark at an index may be made
pub may_mark_root : (w : Workload) (v : View) (k : ℕ) (m : Mark) → v.work ≡ w → Some m ≡ slice_get w.root_marks k → MayMark v m
may_mark_root w v k m same is = inl (subst (λ (z : Workload). Contains z.root_marks m) (sym same) (get_contains w.root_marks k m (sym is)))

-- an item has been read once it is begun, its requests are made and its marks are listed
pub has_read : (w : Workload) (v u z : View) (i : ℕ) → v.work ≡ w → IsLater v u → IsLater u z → Contains v.known_items i
    → ((it : Item) → HasItem w i it → (f : ℕ) → Contains it.requests f → Contains u.known f)
    → ((it : Item) → HasItem w i it → (m : Mark) → Contains it.marks m → Contains z.marks m) → HasRead z i
has_read w v u z i same a b begun requests marks =
    let same' : z.work ≡ w = b.same ∙ a.same ∙ same in
    record {
      begun = b.items i (a.items i begun);
      requests = λ f asked. b.known f (requests asked.0 (subst (λ (x : Workload). HasItem x i asked.0) same' asked.1) f asked.2);
      marks = λ m has. marks has.0 (subst (λ (x : Workload). HasItem x i has.0) same' has.1) m has.2;
    }

-- an item may be begun once its file is known
pub may_begin : (w : Workload) (v : View) (i file : ℕ) → v.work ≡ w → i < length w.items → ((it : Item) → HasItem w i it → file ≡ it.file) → Contains v.known file → MayBegin v i
may_begin w v i file same lt is known =
    let at = get_at w.items i lt in
    (at.0, subst (λ (z : Workload). HasItem z i at.0) (sym same) at.1, subst (Contains v.known) (is at.0 at.1) known)

-- its file is one of the files
pub file_below : (w : Workload) (v : View) (i file : ℕ) → IsSound w → v.work ≡ w → i < length w.items → ((it : Item) → HasItem w i it → file ≡ it.file) → file < v.work.files
file_below w v i file sound same lt is =
    let at = get_at w.items i lt in
    subst (λ (z : Workload). file < z.files) (sym same) (subst (λ f. f < w.files) (sym (is at.0 at.1)) (sound.items i at.0 at.1))

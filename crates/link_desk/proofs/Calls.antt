-- Calls of passes, by their places.
use Rattle.std.proofs.Common.{ℕ, ◌≡◌, ◌+◌, ◌<◌, ◌∙◌, List, [], ◌∷◌, zero, suc, length, slice_get, get_or, refl, Some, inl, inr, arith, sym, ap, subst}
use Rattle.std.proofs.lemmas.Bool.{cases_eq}
use Rattle.std.proofs.lemmas.Option.{get_or_from_slice_get, same_Some, slice_get-get_or, slice_get_within}
use Rattle.link_desk.specs.declared.pass.Kept.{Kept}
use Rattle.link_desk.specs.declared.entry.Entry.{Entry}
use Rattle.link_desk.specs.Passes.{Carried, IsCallAt, IsFirstWrong, IsRight, IsRightAt, IsWrongIn}

-- the calls of the i-th pass
pub at_index : (cs : List Carried) (i j : ℕ) (c : Carried) (y : Kept) → c ≡ get_or cs i c → IsCallAt cs i j y → slice_get c.calls j ≡ Some y
at_index cs i j c y is at =
    let same : at.pass ≡ c = sym (get_or_from_slice_get cs i at.pass c at.stands) ∙ sym is in
    ap (λ (d : Carried). slice_get d.calls j) (sym same) ∙ at.holds

pub call_at : (cs : List Carried) (i j : ℕ) (c : Carried) (y : Kept) → i < length cs → c ≡ get_or cs i c → slice_get c.calls j ≡ Some y → IsCallAt cs i j y
call_at cs i j c y within is at = record { pass = c; stands = slice_get-get_or cs i c within ∙ ap (λ (d : Carried). Some d) (sym is); holds = at }

pub pass_within : (cs : List Carried) (p k : ℕ) (x : Kept) → IsCallAt cs p k x → p < length cs
pass_within cs p k x at = slice_get_within cs p at.pass at.stands

-- what is said of a pass's calls is said of the calls at its index
pub past_of : (history : List Entry) (cs : List Carried) (p k : ℕ) (c : Carried) (calls : List Kept)
    → p < length cs → c ≡ get_or cs p c → calls ≡ c.calls → IsRightAt history cs p k
    → (j : ℕ) (y x : Kept) → j + 1 ≡ k → slice_get calls j ≡ Some y → slice_get calls k ≡ Some x → y.place < x.place
past_of history cs p k c calls within is same right j y x e at to =
    let at' = ap (λ (ks : List Kept). slice_get ks j) (sym same) ∙ at in
    let to' = ap (λ (ks : List Kept). slice_get ks k) (sym same) ∙ to in
    (right x (call_at cs p k c x within is to')).past j y e (call_at cs p j c y within is at')

pub right_of : (history : List Entry) (cs : List Carried) (p k : ℕ) (c : Carried) (calls : List Kept) (call : Kept)
    → c ≡ get_or cs p c → calls ≡ c.calls → call ≡ get_or calls k call
    → slice_get history call.place ≡ Some call.entry
    → ((j : ℕ) (y x : Kept) → j + 1 ≡ k → slice_get calls j ≡ Some y → slice_get calls k ≡ Some x → y.place < x.place)
    → ((q j : ℕ) (y : Kept) → q < p → IsCallAt cs q j y → y.place ≡ call.place → ⊥)
    → IsRightAt history cs p k
right_of history cs p k c calls call is same at found past apart x to =
    let here : slice_get calls k ≡ Some x = ap (λ (ks : List Kept). slice_get ks k) same ∙ at_index cs p k c x is to in
    let one : x ≡ call = sym (get_or_from_slice_get calls k x call here) ∙ sym at in
    let P : Kept → Type 0 = λ z. IsRight history cs p k z in
    subst P (sym one) (record {
      found = found;
      past = λ j y e from. past j y call e (ap (λ (ks : List Kept). slice_get ks j) same ∙ at_index cs p j c y is from) (here ∙ ap (λ (z : Kept). Some z) one);
      apart = apart;
    })

-- a list has an element at each place below its length
pub some_at : {X : Type 0} (xs : List X) (k : ℕ) → k < length xs → (x : X) × (slice_get xs k ≡ Some x)
some_at [] k less = absurd (omega (arith, less))
some_at (x ∷ xs) zero less = (x, refl)
some_at (x ∷ xs) (suc k) less = some_at xs k (omega (arith, less))

pub apart_of : (history : List Entry) (cs : List Carried) (p k : ℕ) (c : Carried) (calls : List Kept) (call : Kept)
    → p < length cs → c ≡ get_or cs p c → calls ≡ c.calls → call ≡ get_or calls k call → k < length calls → IsRightAt history cs p k
    → (q j : ℕ) (y : Kept) → q < p → IsCallAt cs q j y → y.place ≡ call.place → ⊥
apart_of history cs p k c calls call within is same at less right q j y earlier from clash =
    let here : slice_get calls k ≡ Some call = slice_get-get_or calls k call less ∙ ap (λ (z : Kept). Some z) (sym at) in
    let to = call_at cs p k c call within is (ap (λ (ks : List Kept). slice_get ks k) (sym same) ∙ here) in
    (right call to).apart q j y earlier from clash

-- the pass at an index, as it is looked up
pub looked_up : (cs : List Carried) (p : ℕ) (c : Carried) → p < length cs → c ≡ get_or cs p c → slice_get cs p ≡ Some c
looked_up cs p c within is = slice_get-get_or cs p c within ∙ ap (λ (d : Carried). Some d) (sym is)

pub call_alone : (history : List Entry) (cs : List Carried) (p k : ℕ) (x : Kept) → IsCallAt cs p k x → IsRight history cs p k x → IsRightAt history cs p k
call_alone history cs p k x at right y to =
    let pass : at.pass ≡ to.pass = same_Some _ _ (sym at.stands ∙ to.stands) in
    let same : x ≡ y = same_Some _ _ (sym at.holds ∙ (ap (λ (c : Carried). slice_get c.calls k) pass ∙ to.holds)) in
    let P : Kept → Type 0 = λ z. IsRight history cs p k z in
    subst P same right

pub wrong_at : (history : List Entry) (cs : List Carried) (p k : ℕ) (c : Carried) (calls : List Kept)
    → p < length cs → c ≡ get_or cs p c → calls ≡ c.calls → k < length calls
    → (IsRightAt history cs p k → ⊥) → ((j : ℕ) → j < k → IsRightAt history cs p j) → (x : Kept) × IsWrongIn history cs p k x
wrong_at history cs p k c calls within is same less wrong before =
    let x = some_at calls k less in
    let at = call_at cs p k c x.0 within is (ap (λ (ks : List Kept). slice_get ks k) (sym same) ∙ x.1) in
    (x.0, record { stands = at; wrong = λ right. wrong (call_alone history cs p k x.0 at right); before = λ j y l from. before j l y from })

pub first_of_all : (history : List Entry) (cs : List Carried) (p k : ℕ) (x : Kept) → IsWrongIn history cs p k x
    → ((q : ℕ) → q < p → (j : ℕ) (y : Kept) → IsCallAt cs q j y → IsRight history cs q j y) → IsFirstWrong history cs p k x
first_of_all history cs p k x w earlier = record {
  stands = w.stands;
  wrong = w.wrong;
  before = λ q j y or at. elim or [
    | inl l ↦ earlier q l j y at
    | inr e ↦ (let P : ℕ → Type 0 = λ n. IsCallAt cs n j y in let Q : ℕ → Type 0 = λ n. IsRight history cs n j y in
        subst Q (sym e.0) (w.before j y e.1 (subst P e.0 at)))
  ];
}

pub first_same : (history : List Entry) (cs : List Carried) (p k : ℕ) (x y : Kept) → IsFirstWrong history cs p k x → IsCallAt cs p k y → IsFirstWrong history cs p k y
first_same history cs p k x y first to =
    let pass : first.stands.pass ≡ to.pass = same_Some _ _ (sym first.stands.stands ∙ to.stands) in
    let same : x ≡ y = same_Some _ _ (sym first.stands.holds ∙ (ap (λ (c : Carried). slice_get c.calls k) pass ∙ to.holds)) in
    let P : Kept → Type 0 = λ z. IsFirstWrong history cs p k z in
    subst P same first

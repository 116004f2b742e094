-- Where the passes have as many calls as the history, and each is right, each entry of the history is the call of exactly one pass.
use Rattle.std.proofs.Common.{ℕ, zero, suc, ◌≡◌, ◌+◌, ◌<◌, ◌≤◌, ◌∙◌, List, [], ◌∷◌, length, slice_get, Some, inl, inr, arith, refl, sym, ap, subst}
use Rattle.std.proofs.lemmas.Bool.{cases_order}
use Rattle.std.proofs.lemmas.Option.{slice_get_within, same_Some}
use Rattle.std.proofs.lemmas.List.Sums.{sum_by-cons}
use Rattle.link_desk.specs.declared.entry.Entry.{Entry}
use Rattle.link_desk.specs.declared.pass.Kept.{Kept}
use Rattle.link_desk.specs.Passes.{AreCallsOf, AreRight, Carried, IsCallAt, IsPassRight, calls_in}
use Rattle.link_desk.proofs.Counting.{below, below-add, below-full, below-one, below-zero, one_at, one_at-cases}

-- how often a place stands in the calls of a pass, and of all passes
abbrev pub times : ℕ → List Kept → ℕ
times i [] = 0
times i (x ∷ xs) = one_at x.place i + times i xs

abbrev pub times_in : ℕ → List Carried → ℕ
times_in i [] = 0
times_in i (c ∷ cs) = times i c.calls + times_in i cs

-- each place of a list is below n
pub below-times : (n : ℕ) (xs : List Kept) → ((k : ℕ) (x : Kept) → slice_get xs k ≡ Some x → x.place < n) → below n (λ i. times i xs) ≡ length xs
below-times n [] low = below-zero n (λ i. 0) (λ i less. refl)
below-times n (x ∷ xs) low =
    let sums = below-add n (λ i. one_at x.place i) (λ i. times i xs) in
    let one = below-one n x.place (low 0 x refl) in
    let rest = below-times n xs (λ k y at. low (suc k) y at) in
    omega (arith, sums, one, rest)

pub below-times_in : (n : ℕ) (cs : List Carried) → ((p k : ℕ) (x : Kept) → IsCallAt cs p k x → x.place < n) → below n (λ i. times_in i cs) ≡ calls_in cs
below-times_in n [] low = below-zero n (λ i. 0) (λ i less. refl)
below-times_in n (c ∷ cs) low =
    let sums = below-add n (λ i. times i c.calls) (λ i. times_in i cs) in
    let one = below-times n c.calls (λ k x at. low 0 k x (record { pass = c; stands = refl; holds = at })) in
    let rest = below-times_in n cs (λ p k x at. low (suc p) k x (record { pass = at.pass; stands = at.stands; holds = at.holds })) in
    omega (arith, sums, one, rest, sum_by-cons (λ (d : Carried). length d.calls) c cs)

-- a place that is counted stands somewhere
pub find : (i : ℕ) (xs : List Kept) → 0 < times i xs → (k : ℕ) × (x : Kept) × (slice_get xs k ≡ Some x) × (x.place ≡ i)
find i [] some = absurd (omega arith)
find i (x ∷ xs) some = elim (one_at-cases x.place i) [
  | inl e ↦ (0, x, refl, e.0)
  | inr e ↦ (let f = find i xs (omega (arith, some, e.1)) in (suc f.0, f.1, f.2, f.3))
]

pub find_in : (i : ℕ) (cs : List Carried) → 0 < times_in i cs → (p : ℕ) × (k : ℕ) × (x : Kept) × IsCallAt cs p k x × (x.place ≡ i)
find_in i [] some = absurd (omega arith)
find_in i (c ∷ cs) some = elim (cases_order (times i c.calls) 0) [
  | inl e ↦ (let f = find_in i cs (omega (arith, some, e)) in (suc f.0, f.1, f.2, record { pass = f.3.pass; stands = f.3.stands; holds = f.3.holds }, f.4))
  | inr e ↦ (let f = find i c.calls (elim e [ inl l ↦ absurd (omega (arith, l)) | inr l ↦ l ]) in (0, f.0, f.1, record { pass = c; stands = refl; holds = f.2 }, f.3))
]

-- no place stands twice
abbrev pub AreApart : List Kept → Type 0
AreApart xs = (j k : ℕ) (x y : Kept) → slice_get xs j ≡ Some x → slice_get xs k ≡ Some y → x.place ≡ y.place → j ≡ k

abbrev pub AreApartIn : List Carried → Type 0
AreApartIn cs = (p q j k : ℕ) (x y : Kept) → IsCallAt cs p j x → IsCallAt cs q k y → x.place ≡ y.place → (p ≡ q) × (j ≡ k)

pub times-most : (i : ℕ) (xs : List Kept) → AreApart xs → times i xs ≤ 1
times-most i [] apart = omega arith
times-most i (x ∷ xs) apart =
    let rest = times-most i xs (λ j k a b at to same. (let e = apart (suc j) (suc k) a b at to same in omega (arith, e))) in
    elim (one_at-cases x.place i) [
      | inl e ↦ elim (cases_order (times i xs) 0) [
        | inl none ↦ omega (arith, none, e.1)
        | inr some ↦ (let f = find i xs (elim some [ inl l ↦ absurd (omega (arith, l)) | inr l ↦ l ]) in
            let clash = apart 0 (suc f.0) x f.1 refl f.2 (e.0 ∙ sym f.3) in absurd (omega (arith, clash)))
      ]
      | inr e ↦ omega (arith, rest, e.1)
    ]

pub times_in-most : (i : ℕ) (cs : List Carried) → AreApartIn cs → times_in i cs ≤ 1
times_in-most i [] apart = omega arith
times_in-most i (c ∷ cs) apart =
    let here = times-most i c.calls (λ j k a b at to same. (apart 0 0 j k a b (record { pass = c; stands = refl; holds = at }) (record { pass = c; stands = refl; holds = to }) same).1) in
    let rest = times_in-most i cs (λ p q j k a b at to same.
    (let e = apart (suc p) (suc q) j k a b (record { pass = at.pass; stands = at.stands; holds = at.holds }) (record { pass = to.pass; stands = to.stands; holds = to.holds }) same in
    (omega (arith, e.0), e.1))) in
    elim (cases_order (times_in i cs) 0) [
      | inl none ↦ omega (arith, none, here)
      | inr some ↦ elim (cases_order (times i c.calls) 0) [
        | inl none ↦ omega (arith, none, rest)
        | inr some' ↦
            (let f = find_in i cs (elim some [ inl l ↦ absurd (omega (arith, l)) | inr l ↦ l ]) in
            let h = find i c.calls (elim some' [ inl l ↦ absurd (omega (arith, l)) | inr l ↦ l ]) in
            let clash = apart 0 (suc f.0) h.0 f.1 h.1 f.2 (record { pass = c; stands = refl; holds = h.2 }) (record { pass = f.3.pass; stands = f.3.stands; holds = f.3.holds }) (h.3 ∙ sym f.4) in
            absurd (omega (arith, clash.0)))
      ]
    ]

-- a pass has one call at a place of its list
pub same_call : (cs : List Carried) (p k : ℕ) (x y : Kept) → IsCallAt cs p k x → IsCallAt cs p k y → x ≡ y
same_call cs p k x y a b =
    let pass : a.pass ≡ b.pass = same_Some _ _ (sym a.stands ∙ b.stands) in
    same_Some _ _ (sym a.holds ∙ (ap (λ (c : Carried). slice_get c.calls k) pass ∙ b.holds))

-- what stands before an element of a list
pub one_before : (xs : List Kept) (k : ℕ) (y : Kept) → slice_get xs (suc k) ≡ Some y → (z : Kept) × (slice_get xs k ≡ Some z)
one_before [] k y at = absurd (cc)
one_before (x ∷ xs) zero y at = (x, refl)
one_before (x ∷ xs) (suc k) y at = one_before xs k y at

-- each call of a pass stands past those before it
pub ordered_in : (history : List Entry) (cs : List Carried) (p : ℕ) → IsPassRight history cs p → (j k : ℕ) (x y : Kept) → j < k → IsCallAt cs p j x → IsCallAt cs p k y → x.place < y.place
ordered_in history cs p right j zero x y less at to = absurd (omega (arith, less))
ordered_in history cs p right j (suc k) x y less at to =
    let z = one_before to.pass.calls k y to.holds in
    let mid : IsCallAt cs p k z.0 = record { pass = to.pass; stands = to.stands; holds = z.1 } in
    let step = (right (suc k) y to).past k z.0 (omega arith) mid in
    elim (cases_order j k) [
      | inl e ↦ (let P : ℕ → Type 0 = λ n. IsCallAt cs p n x in
          let same : x ≡ z.0 = same_call cs p k x z.0 (subst P e at) mid in
          let place : x.place ≡ z.0.place = ap (λ (w : Kept). w.place) same in omega (arith, place, step))
      | inr e ↦ elim e [
        | inl l ↦ (let rest = ordered_in history cs p right j k x z.0 l at mid in omega (arith, rest, step))
        | inr l ↦ absurd (omega (arith, l, less))
      ]
    ]

pub ordered_calls : (history : List Entry) (cs : List Carried) → AreRight history cs → (p j k : ℕ) (x y : Kept) → j < k → IsCallAt cs p j x → IsCallAt cs p k y → x.place < y.place
ordered_calls history cs right p = ordered_in history cs p (right p)

pub apart_calls : (history : List Entry) (cs : List Carried) → AreRight history cs → AreApartIn cs
apart_calls history cs right p q j k x y at to same = elim (cases_order p q) [
  | inl e ↦ (let P : ℕ → Type 0 = λ n. IsCallAt cs n j x in
      let at' : IsCallAt cs q j x = subst P e at in (
        e,
        elim (cases_order j k) [
          | inl e' ↦ e'
          | inr l ↦ elim l [
            | inl l' ↦ (let less = ordered_calls history cs right q j k x y l' at' to in absurd (omega (arith, less, same)))
            | inr l' ↦ (let less = ordered_calls history cs right q k j y x l' to at' in absurd (omega (arith, less, same)))
          ]
        ],
      ))
  | inr l ↦ elim l [
    | inl l' ↦ absurd ((right q k y to).apart p j x l' at same)
    | inr l' ↦ absurd ((right p j x at).apart q k y l' to (sym same))
  ]
]

-- the passes have as many calls as the history, each of which is right
pub all_called : (history : List Entry) (cs : List Carried) → AreRight history cs → calls_in cs ≡ length history → AreCallsOf history cs
all_called history cs right all =
    let n = length history in
    let apart = apart_calls history cs right in
    let full = below-full n (λ i. times_in i cs) (λ i less. times_in-most i cs apart)
    (below-times_in n cs (λ p k x at. slice_get_within history x.place x.entry (right p k x at).found) ∙ all) in
    record {
      made = λ p k x at. (right p k x at).found;
      once = λ i less.
          (let f = find_in i cs (let one = full i less in omega (arith, one)) in
          (f.0, f.1, f.2, f.3, f.4, λ q j y at same. apart q f.0 j f.1 y f.2 at f.3 (same ∙ sym f.4)));
      ordered = ordered_calls history cs right;
    }

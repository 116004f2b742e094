-- A workload for tests: each file has one item, which requests two files and has one mark. In a chain both are the file
-- before it.
use Rattle.std.specs.Prelude.{◌≡◌, ℕ, if◌then◌else◌, Bool, ◌-◌, ◌+◌, ◌*◌, ◌/◌, ◌%◌, ◌^◌, ◌<◌, ◌≤◌, ◌⊎◌, [], ◌∷◌, map, replicate, None, Some, slice_get, slice_index, Contains}
use Rattle.std.specs.List.{range_with_len}
use Rattle.std.proofs.Common.{zero, suc, ap, sym, refl, ◌∙◌, subst, inl, inr, ⊎_elim, arith}
use Rattle.std.proofs.lemmas.Nat.{mod_below}
use Rattle.std.proofs.lemmas.List.FromFn.{length-range_with_len, get_or-range_with_len}
use Rattle.link_closure.specs.Workload.{HasItem, IsSound}
use Rattle.link_claim.specs.Workload.{FitsU32}
use Rattle.link_closure.specs.declared.workload.Mark.{Mark}
use Rattle.link_closure.specs.declared.workload.Item.{Item}
use Rattle.link_closure.specs.declared.workload.Workload.{Workload}

-- the first file that an item requests, in a chain or not, of so many files
abbrev pub first_request : Bool → ℕ → ℕ → ℕ
first_request chain files item = (if chain then item + (files - 1) else item / 4 * 577 + 13) % files

-- the second one
abbrev pub second_request : Bool → ℕ → ℕ → ℕ
second_request chain files item = (if chain then item + (files - 1) else item / 4 * 331 + 41) % files

-- the item of each number
abbrev pub item_of : Bool → ℕ → ℕ → Item
item_of chain files item = record {
  file = item;
  requests = first_request chain files item ∷ second_request chain files item ∷ [];
  marks = record { symbol = item % 8; bits = 2 } ∷ [];
}

-- so many files, of which so many are roots
abbrev pub scattered : Bool → ℕ → ℕ → Workload
scattered chain files roots = record {
  files = files;
  roots = range_with_len 0 roots;
  root_marks = record { symbol = 3; bits = 1 } ∷ [];
  opening = replicate 8 0;
  items = map (item_of chain files) (range_with_len 0 files);
}

-- ---- what it comes to

module _ {X : Type 0} where
  -- what stands at an index of made items
  get_made : (f : ℕ → X) (a n i : ℕ) (x : X) → slice_get (map f (range_with_len a n)) i ≡ Some x → (i < n) × (f (a + i) ≡ x)
  get_made f a zero i x e = absurd (cc)
  get_made f a (suc n) zero x e = let same : a ≡ a + 0 = omega arith in (omega arith, subst (λ k. f k ≡ x) same (cc))
  get_made f a (suc n) (suc i) x e =
      let r = get_made f (a + 1) n i x e in
      let lt = r.0 in
      let same : a + 1 + i ≡ a + suc i = omega arith in
      (omega arith, subst (λ k. f k ≡ x) same r.1)

  -- what is in a list of one
  only_one : (y x : X) → Contains (y ∷ []) x → y ≡ x
  only_one y x (zero, h, e) = e
  only_one y x (suc k, h, e) = absurd (omega arith)

  -- what is in a list of two
  one_of_two : (y z x : X) → Contains (y ∷ z ∷ []) x → (y ≡ x) ⊎ (z ≡ x)
  one_of_two y z x (zero, h, e) = inl e
  one_of_two y z x (suc zero, h, e) = inr e
  one_of_two y z x (suc (suc k), h, e) = absurd (omega arith)

  -- past its end nothing stands
  pub past_one : (y : X) (k : ℕ) → 0 < k → None ≡ slice_get (y ∷ []) k
  past_one y zero h = absurd (omega arith)
  past_one y (suc k) h = refl

  -- nor past the end of two
  pub past_two : (y z : X) (k : ℕ) → 1 < k → None ≡ slice_get (y ∷ z ∷ []) k
  past_two y z zero h = absurd (omega arith)
  past_two y z (suc zero) h = absurd (omega arith)
  past_two y z (suc (suc k)) h = refl

-- what stands at an index of a range
pub get_range : (a n i : ℕ) → i < n → Some (a + i) ≡ slice_get (range_with_len a n) i
get_range a zero i h = absurd (omega arith)
get_range a (suc n) zero h = let same : a + 0 ≡ a = omega arith in ap Some same
get_range a (suc n) (suc i) h = let same : a + suc i ≡ a + 1 + i = omega arith in ap Some same ∙ get_range (a + 1) n i (omega arith)

-- and nothing past its end
pub past_range : (a n i : ℕ) → n ≤ i → None ≡ slice_get (range_with_len a n) i
past_range a zero i h = refl
past_range a (suc n) zero h = absurd (omega arith)
past_range a (suc n) (suc i) h = past_range (a + 1) n i (omega arith)

-- the item of each number
pub item_is : (ch : Bool) (n r i : ℕ) (it : Item) → HasItem (scattered ch n r) i it → (i < n) × (item_of ch n i ≡ it)
item_is ch n r i it has =
    let at = get_made (item_of ch n) 0 n i it has in
    let same : 0 + i ≡ i = omega arith in
    (at.0, subst (λ k. item_of ch n k ≡ it) same at.1)

-- an item is a third of what is found in it
pub third_of_found : (x i : ℕ) → x ≡ i * 3 + 1 → x / 3 ≡ i
third_of_found x i e = omega arith

-- every opening is empty
zeros : (n k : ℕ) → slice_index (replicate n 0) k ≡ 0
zeros zero k = refl
zeros (suc n) zero = refl
zeros (suc n) (suc k) = zeros n k

-- a request is of one of the files
request_below : (ch : Bool) (n i f : ℕ) → 0 < n → Contains (item_of ch n i).requests f → f < n
request_below ch n i f some has =
    ⊎_elim (λ e. subst (λ x. x < n) e (mod_below (if ch then i + (n - 1) else i / 4 * 577 + 13) n some))
    (λ e. subst (λ x. x < n) e (mod_below (if ch then i + (n - 1) else i / 4 * 331 + 41) n some))
    (one_of_two (first_request ch n i) (second_request ch n i) f has)

-- the roots are the first files
pub root_below : (r f : ℕ) → Contains (range_with_len 0 r) f → f < r
root_below r f has =
    let len = length-range_with_len 0 r in
    let inside = has.1 in
    let lt : has.0 < r = omega arith in
    let at = get_or-range_with_len 0 r has.0 f lt in
    let is = has.2 in
    omega arith

-- and each of the first files is one
pub below_root : (r f : ℕ) → f < r → Contains (range_with_len 0 r) f
below_root r f lt =
    let len = length-range_with_len 0 r in
    let at = get_or-range_with_len 0 r f f lt in
    let same : 0 + f ≡ f = omega arith in
    (f, omega arith, at ∙ same)

-- each file and symbol that is named exists
pub scattered_sound : (ch : Bool) (n r : ℕ) → r ≤ n → IsSound (scattered ch n r)
scattered_sound ch n r most = record {
  roots = λ f has. let lt = root_below r f has in omega arith;
  items = λ i it has. let at = item_is ch n r i it has in subst (λ (t : Item). t.file < n) at.1 at.0;
  requests = λ i f has.
      let at = item_is ch n r i has.0 has.1 in
      let lt = at.0 in
      request_below ch n i f (omega arith) (subst (λ (t : Item). Contains t.requests f) (sym at.1) has.2);
  root_marks = λ m has. subst (λ (k : Mark). k.symbol < 8) (only_one _ m has) (omega arith);
  marks = λ i m has. let at = item_is ch n r i has.0 has.1 in
      subst (λ (k : Mark). k.symbol < 8) (only_one _ m (subst (λ (t : Item). Contains t.marks m) (sym at.1) has.2)) (mod_below i 8 (omega arith));
}

-- all flags are of 32 bits
pub scattered_fit : (ch : Bool) (n r : ℕ) → FitsU32 (scattered ch n r)
scattered_fit ch n r = record {
  symbols = omega arith;
  opening = λ x h. let e = zeros 8 x in omega arith;
  root_marks = λ m has. subst (λ (k : Mark). k.bits < 2 ^ 32) (only_one _ m has) (omega arith);
  marks = λ i m has. let at = item_is ch n r i has.0 has.1 in
      subst (λ (k : Mark). k.bits < 2 ^ 32) (only_one _ m (subst (λ (t : Item). Contains t.marks m) (sym at.1) has.2)) (omega arith);
}

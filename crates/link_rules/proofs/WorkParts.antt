-- The parts into which an object's symbols are cut are all its symbols, in order.
use Rattle.std.proofs.Common.{◌≡◌, ℕ, zero, suc, ◌+◌, ◌*◌, ◌≤◌, List, [], ◌∷◌, ◌++◌, length, refl, sym, ◌∙◌, ap, arith, Some, Contains, slice_get, take, drop}
use Rattle.std.specs.Prelude.{◌↔◌}
use Rattle.std.specs.List.{flat_map, range_with_len}
use Rattle.std.proofs.lemmas.List.{take-append-drop, drop-drop}
use Rattle.std.proofs.lemmas.List.Concat.{flat_map-append}
use Rattle.std.proofs.lemmas.List.Folds.{flat_map-map}
use Rattle.std.proofs.lemmas.List.FromFn.{length-map-range_with_len}
use Rattle.link_closure.specs.declared.workload.Item.{Item}
use Rattle.link_input.specs.Symbols.{Symbol, object_in}
use Rattle.link_rules.specs.World.{Stage}
use Rattle.link_rules.specs.Work.{item_size, item_count, new_requests, new_marks, symbols_with_ids, item_of, object_items}
use Rattle.link_rules.proofs.WorkItems.{held_from, held_in}

module _ {X : Type 0} where
  -- nothing is left behind the end
  drop-past : (n : ℕ) (xs : List X) → length xs ≤ n → drop n xs ≡ []
  drop-past zero [] past = refl
  drop-past zero (x ∷ xs) past = absurd (omega arith)
  drop-past (suc n) [] past = refl
  drop-past (suc n) (x ∷ xs) past = drop-past n xs (omega arith)

  -- the parts from a number on are what is behind those before
  parts_from : (m a c : ℕ) (xs : List X) → length xs ≤ m * (a + c) → flat_map (λ k. take m (drop (m * k) xs)) (range_with_len a c) ≡ drop (m * a) xs
  parts_from m a zero xs short = sym (drop-past (m * a) xs (omega arith))
  parts_from m a (suc c) xs short =
      let next : m * (a + 1) ≡ m * a + m = omega arith in
      ap (λ ys. take m (drop (m * a) xs) ++ ys) (parts_from m (a + 1) c xs (omega arith) ∙ ap (λ n. drop n xs) next ∙ sym (drop-drop m (m * a) xs))
      ∙ take-append-drop m (drop (m * a) xs)

  -- all parts are all
  pub parts_joined : (m c : ℕ) (xs : List X) → length xs ≤ m * c → flat_map (λ k. take m (drop (m * k) xs)) (range_with_len 0 c) ≡ xs
  parts_joined m c xs short =
      let from_zero : m * 0 ≡ 0 = omega arith in
      parts_from m 0 c xs (omega arith) ∙ ap (λ n. drop n xs) from_zero

-- what the joined lists give is what each gives, joined
joined_twice : {X Y Z : Type 0} (g : Y → List Z) (f : X → List Y) (xs : List X) → flat_map g (flat_map f xs) ≡ flat_map (λ x. flat_map g (f x)) xs
joined_twice g f [] = refl
joined_twice g f (x ∷ xs) = flat_map-append g (f x) (flat_map f xs) ∙ ap (λ ys. flat_map g (f x) ++ ys) (joined_twice g f xs)

-- there are enough items for all symbols
enough : (n : ℕ) → n ≤ item_size * item_count n
enough n = omega arith

-- the parts of an object's symbols, joined, are all of them in order
pub symbols_joined : (w : Stage) (f : ℕ)
    → flat_map (λ k. take item_size (drop (item_size * k) (symbols_with_ids w f))) (range_with_len 0 (item_count (length (symbols_with_ids w f)))) ≡ symbols_with_ids w f
symbols_joined w f = parts_joined item_size (item_count (length (symbols_with_ids w f))) (symbols_with_ids w f) (enough (length (symbols_with_ids w f)))

-- the items of an object, joined, request what its symbols do
pub requests_joined : (w : Stage) (f : ℕ) → flat_map (λ (it : Item). it.requests) (object_items w f) ≡ flat_map (new_requests w) (symbols_with_ids w f)
requests_joined w f =
    let part : ℕ → List (ℕ × Symbol) = λ k. take item_size (drop (item_size * k) (symbols_with_ids w f)) in
    let numbers : List ℕ = range_with_len 0 (item_count (length (symbols_with_ids w f))) in
    flat_map-map (λ (it : Item). it.requests) (λ k. item_of w f (part k)) numbers
    ∙ sym (joined_twice (new_requests w) part numbers)
    ∙ ap (λ xs. flat_map (new_requests w) xs) (symbols_joined w f)

-- and mark what they do
pub marks_joined : (w : Stage) (f : ℕ) → flat_map (λ (it : Item). it.marks) (object_items w f) ≡ flat_map (new_marks w) (symbols_with_ids w f)
marks_joined w f =
    let part : ℕ → List (ℕ × Symbol) = λ k. take item_size (drop (item_size * k) (symbols_with_ids w f)) in
    let numbers : List ℕ = range_with_len 0 (item_count (length (symbols_with_ids w f))) in
    flat_map-map (λ (it : Item). it.marks) (λ k. item_of w f (part k)) numbers
    ∙ sym (joined_twice (new_marks w) part numbers)
    ∙ ap (λ xs. flat_map (new_marks w) xs) (symbols_joined w f)

-- an object has an item
pub one_item : (w : Stage) (f : ℕ) → 1 ≤ length (object_items w f)
one_item w f =
    let n : ℕ = length (symbols_with_ids w f) in
    let counted = length-map-range_with_len (λ k. item_of w f (take item_size (drop (item_size * k) (symbols_with_ids w f)))) 0 (item_count (length (symbols_with_ids w f))) in
    omega arith

-- the symbols of an object are those that stand in it, each with its id
pub symbols_held : (w : Stage) (f s : ℕ) (x : Symbol) → Contains (symbols_with_ids w f) (s, x) ↔ ((slice_get w.symbols s ≡ Some x) × (object_in x.origin ≡ Some f))
symbols_held w f s x = (held_from w f (s, x), λ both. held_in w f s x both.0 both.1)

-- What is found with a batch stands behind what was found before, for each name at its place.
use Rattle.std.proofs.Common.{◌≡◌, ℕ, zero, suc, ◌+◌, ◌<◌, ◌≤◌, ◌⊎◌, ◌∙◌, List, [], ◌∷◌, ◌++◌, Option, Some, None, get_or, length, take, refl, sym, ap, inl, inr, arith}
use Rattle.std.specs.List.{cons_option, filter_map, slice_get, slice_set}
use Rattle.std.specs.Option.{option_and_then, option_to_list}
use Rattle.std.proofs.lemmas.Bool.{cases_eq, cases_lt}
use Rattle.std.proofs.lemmas.Grind.{flat_map-append}
use Rattle.std.proofs.lemmas.List.{append-nil, get_or-set_other, get_or-set_same}
use Rattle.std.proofs.lemmas.List.Elements.{filter_map-append}
use Rattle.std.proofs.lemmas.Option.{get_or_from_slice_get, slice_get_within}
use Rattle.link_rules.specs.declared.explanation.FoundRoot.{FoundRoot}
use Rattle.link_rules.specs.FoundRoots.{found_at, found_entries, lasting_names}
use Rattle.link_rules.specs.Loading.{entry_name}
use Rattle.link_rules.specs.World.{Stage}
use Rattle.link_resolve_roots.specs.Found.{AreFound, Found}

module _ {X : Type 0} where
  -- the first elements of a list stand at their places
  taken-below : (n : ℕ) (xs : List X) (i : ℕ) → i < n → slice_get (take n xs) i ≡ slice_get xs i
  taken-below zero xs i lt = absurd (omega arith)
  taken-below (suc n) [] i lt = refl
  taken-below (suc n) (x ∷ xs) zero lt = refl
  taken-below (suc n) (x ∷ xs) (suc i) lt = taken-below n xs i (omega (arith, lt))

  -- and none stands behind them
  taken-past : (n : ℕ) (xs : List X) (i : ℕ) → n ≤ i → slice_get (take n xs) i ≡ None
  taken-past zero xs i past = refl
  taken-past (suc n) [] i past = refl
  taken-past (suc n) (x ∷ xs) zero past = absurd (omega arith)
  taken-past (suc n) (x ∷ xs) (suc i) past = taken-past n xs i (omega (arith, past))

  -- one element more is one at its place alone
  taken-more : (n : ℕ) (xs : List X) (i : ℕ) → (i ≡ n → ⊥) → slice_get (take n xs) i ≡ slice_get (take (n + 1) xs) i
  taken-more n xs i differs = by (cases_lt i n) (cases_lt n i)
    where
      by : (i < n) ⊎ (n ≤ i) → (n < i) ⊎ (i ≤ n) → slice_get (take n xs) i ≡ slice_get (take (n + 1) xs) i
      by (inl below) other = taken-below n xs i below ∙ sym (taken-below (n + 1) xs i (omega (arith, below)))
      by (inr past) (inl above) = taken-past n xs i past ∙ sym (taken-past (n + 1) xs i (omega (arith, above)))
      by (inr past) (inr up) = absurd (differs (omega (arith, past, up)))

module _ {A B : Type 0} (h : A → Option B) (names : List A) where
  -- what is found for one name more stands behind the list at its place
  pub noted-more : (place : ℕ) (name : A) (lists : List (List B)) (first : List B) (i : ℕ)
      → place < length lists → slice_get names place ≡ Some name
      → get_or lists i [] ≡ first ++ option_to_list (option_and_then h (slice_get (take place names) i))
      → get_or (slice_set lists place (get_or lists place [] ++ option_to_list (h name))) i []
      ≡ first ++ option_to_list (option_and_then h (slice_get (take (place + 1) names) i))
  noted-more place name lists first i inside named before = by (cases_eq i place)
    where
      by : (i ≡ place) ⊎ (i ≡ place → ⊥) → get_or (slice_set lists place (get_or lists place [] ++ option_to_list (h name))) i []
          ≡ first ++ option_to_list (option_and_then h (slice_get (take (place + 1) names) i))
      by (inl same) =
          let below : place < place + 1 = omega arith in
          let past : place ≤ i = omega (arith, same) in
          let none : slice_get (take place names) i ≡ None = taken-past place names i past in
          let now : slice_get (take (place + 1) names) i ≡ Some name =
          ap (λ (k : ℕ). slice_get (take (place + 1) names) k) same ∙ taken-below (place + 1) names place below ∙ named in
          let old : get_or lists place [] ≡ first =
          ap (λ (k : ℕ). get_or lists k []) (sym same) ∙ before
          ∙ ap (λ (o : Option A). first ++ option_to_list (option_and_then h o)) none ∙ append-nil first in
          ap (λ (k : ℕ). get_or (slice_set lists place (get_or lists place [] ++ option_to_list (h name))) k []) same
          ∙ get_or-set_same lists place (get_or lists place [] ++ option_to_list (h name)) [] inside
          ∙ ap (λ (l : List B). l ++ option_to_list (h name)) old
          ∙ ap (λ (o : Option A). first ++ option_to_list (option_and_then h o)) (sym now)
      by (inr differs) =
          get_or-set_other lists place i (get_or lists place [] ++ option_to_list (h name)) [] differs ∙ before
          ∙ ap (λ (o : Option A). first ++ option_to_list (option_and_then h o)) (taken-more place names i differs)

-- an empty list more holds nothing
pub room-more : {B : Type 0} (lists : List (List B)) (i : ℕ) → get_or (lists ++ [] ∷ []) i [] ≡ get_or lists i []
room-more [] zero = refl
room-more [] (suc i) = refl
room-more (l ∷ lists) zero = refl
room-more (l ∷ lists) (suc i) = room-more lists i

-- what may be found, in a list
single : {Y : Type 0} (o : Option Y) → cons_option o [] ≡ option_to_list o
single None = refl
single (Some y) = refl

-- what one stage more gives
mapped-push : {X Y : Type 0} (h : X → Option Y) (xs : List X) (x : X) → filter_map h (xs ++ x ∷ []) ≡ filter_map h xs ++ option_to_list (h x)
mapped-push {Y = Y} h xs x = filter_map-append h xs (x ∷ []) ∙ ap (λ (ys : List Y). filter_map h xs ++ ys) (single (h x))

-- what is found for a name that may be there
mapped-one : {X Y : Type 0} (h : X → Option Y) (o : Option X) → filter_map h (option_to_list o) ≡ option_to_list (option_and_then h o)
mapped-one h None = refl
mapped-one h (Some x) = single (h x)

-- with what is found at one stage more, all is found at the stages with that one
pub found-more : (ws : List Stage) (w : Stage) (old new : Found) → AreFound ws old
    → new.entries ≡ old.entries ++ option_to_list (option_and_then (found_at w) (entry_name w))
    → ((i : ℕ) → get_or new.others i [] ≡ get_or old.others i [] ++ option_to_list (option_and_then (found_at w) (slice_get (lasting_names w) i)))
    → AreFound (ws ++ w ∷ []) new
found-more ws w old new are entries others = record {
  entries_are =
      let now : List FoundRoot = filter_map (found_at w) (option_to_list (entry_name w)) in
      entries ∙ ap (λ (l : List FoundRoot). l ++ option_to_list (option_and_then (found_at w) (entry_name w))) are.entries_are
      ∙ ap (λ (l : List FoundRoot). found_entries ws ++ l) (sym (mapped-one (found_at w) (entry_name w)) ∙ sym (append-nil now))
      ∙ sym (flat_map-append (λ (v : Stage). filter_map (found_at v) (option_to_list (entry_name v))) ws (w ∷ []));
  others_are = λ i.
      others i ∙ ap (λ (l : List FoundRoot). l ++ option_to_list (option_and_then (found_at w) (slice_get (lasting_names w) i))) (are.others_are i)
      ∙ sym (mapped-push (λ (v : Stage). option_and_then (found_at v) (slice_get (lasting_names v) i)) ws w);
}

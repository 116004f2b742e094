-- A step of a walk over symbols: what was read, and what the rest will give, stays the same.
use Rattle.std.proofs.Common.{◌≡◌, ℕ, ◌+◌, ◌<◌, suc, List, [], ◌∷◌, ◌++◌, length, drop, get_or, map, sym, ap, ◌∙◌, append_assoc, length-append, arith}
use Rattle.std.specs.Prelude.{Some, slice_get}
use Rattle.std.proofs.Math.Seq.{drop-cons}
use Rattle.std.proofs.lemmas.List.{length-map}
use Rattle.std.proofs.lemmas.Option.{get_or_from_slice_get, slice_get_within}
use Rattle.link_flags.specs.declared.value_flags.ValueFlags.{ValueFlags}
use Rattle.link_db_buckets.specs.declared.definition.Definition.{Definition}
use Rattle.link_input.specs.Symbols.{Symbol}
use Rattle.link_db_ingest.specs.Definitions.{definitions_by, definitions_from}
use Rattle.link_db_ingest.specs.Files.{numbers_of}

-- what is left from a place on is the element there, and what is left behind it
pub rest_is : {X : Type 0} (xs : List X) (i : ℕ) (x : X) → i < length xs → x ≡ get_or xs i x → drop i xs ≡ x ∷ drop (i + 1) xs
rest_is xs i x lt is =
    let next : suc i ≡ i + 1 = omega arith in
    drop-cons xs i x lt ∙ ap (λ y. y ∷ drop (suc i) xs) (sym is) ∙ ap (λ (n : ℕ). x ∷ drop n xs) next

-- the same of the element that is looked up there
pub rest_at : {X : Type 0} (xs : List X) (i : ℕ) (x : X) → slice_get xs i ≡ Some x → drop i xs ≡ x ∷ drop (i + 1) xs
rest_at xs i x is = rest_is xs i x (slice_get_within xs i x is) (sym (get_or_from_slice_get xs i x x is))

-- flags of one symbol more
pub one_more : (before now : List ValueFlags) (n : ℕ) → numbers_of now ≡ numbers_of before ++ n ∷ [] → length now ≡ length before + 1
one_more before now n added =
    let all : length (numbers_of now) ≡ length now = length-map now (λ (f : ValueFlags). f.0) in
    let old : length (numbers_of before) ≡ length before = length-map before (λ (f : ValueFlags). f.0) in
    omega (arith, all, old, ap (λ (l : List ℕ). length l) added, length-append (numbers_of before) (n ∷ []))

module _ {X : Type 0} (symbol : X → Symbol) (xs : List X) (i : ℕ) (x : X) (rest : drop i xs ≡ x ∷ drop (i + 1) xs) where
  -- the definitions of one symbol more
  pub next_definitions : (before all now : List Definition) (first id : ℕ) → id ≡ first + i → now ≡ before ++ definitions_by id (symbol x)
      → before ++ definitions_from (first + i) (map symbol (drop i xs)) ≡ all
      → now ++ definitions_from (first + (i + 1)) (map symbol (drop (i + 1) xs)) ≡ all
  next_definitions before all now first id same added so_far =
      let behind = map symbol (drop (i + 1) xs) in
      let next : first + (i + 1) ≡ first + i + 1 = omega arith in
      ap (λ (ds : List Definition). ds ++ definitions_from (first + (i + 1)) behind) (added ∙ ap (λ (n : ℕ). before ++ definitions_by n (symbol x)) same)
      ∙ ap (λ (n : ℕ). (before ++ definitions_by (first + i) (symbol x)) ++ definitions_from n behind) next
      ∙ append_assoc before (definitions_by (first + i) (symbol x)) (definitions_from (first + i + 1) behind)
      ∙ ap (λ (ys : List X). before ++ definitions_from (first + i) (map symbol ys)) (sym rest)
      ∙ so_far

  -- the flags of one symbol more
  pub next_flags : (flags : Symbol → ℕ) (before all now : List ℕ) → now ≡ before ++ flags (symbol x) ∷ []
      → before ++ map flags (map symbol (drop i xs)) ≡ all
      → now ++ map flags (map symbol (drop (i + 1) xs)) ≡ all
  next_flags flags before all now added so_far =
      let behind = map flags (map symbol (drop (i + 1) xs)) in
      ap (λ (fs : List ℕ). fs ++ behind) added
      ∙ append_assoc before (flags (symbol x) ∷ []) behind
      ∙ ap (λ (ys : List X). before ++ map flags (map symbol ys)) (sym rest)
      ∙ so_far

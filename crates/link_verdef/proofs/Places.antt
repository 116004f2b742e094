-- Where names stand in the strings.
use Rattle.std.proofs.Common.{◌≡◌, ℕ, ◌+◌, ◌<◌, ◌≤◌, List, [], ◌∷◌, ◌++◌, length, take, drop, get_or, ◌^◌, map, zero-add, arith, refl, sym, ◌∙◌, ap}
use Rattle.std.proofs.lemmas.List.{take_more, append_assoc, append-nil, length-append, take-append-drop}
use Rattle.std.proofs.lemmas.List.Concat.{flat_map-append}
use Rattle.std.proofs.lemmas.List.FromFn.{get_or-map-range_with_len, length-map-range_with_len, map-range_with_len_more}
use Rattle.std.specs.List.{flat_map, range_with_len}
use Rattle.std.specs.List.Sorted.{IsStrictlyIncreasing}
use Rattle.link_verdef.specs.declared.item.VersionItem.{VersionItem}
use Rattle.link_verdef.specs.Strings.{string_of, verdef_strings, place_of}

-- the strings of one item more
strings_more : (items : List VersionItem) (i : ℕ) (d : VersionItem) → i < length items
    → verdef_strings (take (i + 1) items) ≡ verdef_strings (take i items) ++ string_of (get_or items i d)
strings_more items i d h =
    ap (λ xs. 0 ∷ xs) (ap (flat_map string_of) (take_more items i d h) ∙ flat_map-append string_of (take i items) (get_or items i d ∷ [])
    ∙ ap (λ xs. flat_map string_of (take i items) ++ xs) (append-nil (string_of (get_or items i d))))

-- the same, as the writer adds a name and a zero byte
pub strings_of_more : (items : List VersionItem) (i : ℕ) (item : VersionItem) (a b c : List ℕ) → i < length items → item ≡ get_or items i item
    → a ≡ verdef_strings (take i items) → b ≡ a ++ item.name → c ≡ b ++ 0 ∷ [] → c ≡ verdef_strings (take (i + 1) items)
strings_of_more items i item a b c h is p q r =
    r ∙ ap (λ xs. xs ++ 0 ∷ []) (q ∙ ap (λ xs. xs ++ item.name) p) ∙ append_assoc (verdef_strings (take i items)) item.name (0 ∷ [])
    ∙ ap (λ x. verdef_strings (take i items) ++ string_of x) is ∙ sym (strings_more items i item h)

-- a name stands behind the one in front of it
place_more : (items : List VersionItem) (i : ℕ) (d : VersionItem) → i < length items → place_of items i < place_of items (i + 1)
place_more items i d h = omega (
  arith,
  ap length (strings_more items i d h),
  length-append (verdef_strings (take i items)) (string_of (get_or items i d)),
  length-append (get_or items i d).name (0 ∷ []),
)

-- no name stands behind the end of the strings
pub place_within : (items : List VersionItem) (i : ℕ) → place_of items i ≤ length (verdef_strings items)
place_within items i =
    let whole : flat_map string_of items ≡ flat_map string_of (take i items) ++ flat_map string_of (drop i items) =
    ap (flat_map string_of) (sym (take-append-drop i items)) ∙ flat_map-append string_of (take i items) (drop i items) in
    omega (arith, ap length whole, length-append (flat_map string_of (take i items)) (flat_map string_of (drop i items)))

-- the places of the names of the items below n
abbrev pub places_below : List VersionItem → ℕ → List ℕ
places_below items n = map (place_of items) (range_with_len 0 n)

pub places_length : (items : List VersionItem) (n : ℕ) (places : List ℕ) → places ≡ places_below items n → length places ≡ n
places_length items n places e = ap length e ∙ length-map-range_with_len (place_of items) 0 n

pub place_at : (items : List VersionItem) (n : ℕ) (places : List ℕ) (k d : ℕ) → places ≡ places_below items n → k < n → get_or places k d ≡ place_of items k
place_at items n places k d e h = rw e (get_or-map-range_with_len (place_of items) 0 n k k d h (zero-add k))

-- each of them fits a word
pub places_short : (items : List VersionItem) (n : ℕ) (places : List ℕ) → places ≡ places_below items n → length (verdef_strings items) < 2 ^ 32
    → (k d : ℕ) → k < length places → get_or places k d < 2 ^ 32
places_short items n places e short k d h =
    let within : k < n = omega (arith, places_length items n places e) in
    rw (place_at items n places k d e within) (omega (arith, place_within items k))

-- one place more
pub places_more : (items : List VersionItem) (n place : ℕ) (a b : List ℕ) → a ≡ places_below items n → place ≡ place_of items n → b ≡ a ++ place ∷ []
    → b ≡ places_below items (n + 1)
places_more items n place a b p q r = rw (map-range_with_len_more (place_of items) 0 n n (zero-add n), r, p, q) refl

-- they rise
pub places_rise : (items : List VersionItem) (n : ℕ) (places : List ℕ) (d : VersionItem) → places ≡ places_below items n → n ≤ length items
    → IsStrictlyIncreasing places
places_rise items n places d e few k h =
    let inside : k + 1 < n = omega (arith, places_length items n places e) in
    rw (place_at items n places k 0 e (omega arith), place_at items n places (k + 1) 0 e inside) (place_more items k d (omega arith))

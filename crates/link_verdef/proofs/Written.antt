-- The records as the writer lays them one after another.
use Rattle.std.proofs.Common.{◌≡◌, ℕ, ◌+◌, ◌<◌, ◌≤◌, List, [], ◌∷◌, ◌++◌, length, drop, get_or, Option, Some, None, true, arith, sym, ◌∙◌, ap, subst}
use Rattle.std.proofs.lemmas.List.{append_assoc, drop_more}
use Rattle.std.proofs.lemmas.Option.{IfSome_then}
use Rattle.std.specs.List.{enumerate_from, flat_map}
use Rattle.std.specs.Option.{IfSome}
use Rattle.link_verdef.specs.declared.item.VersionItem.{VersionItem}
use Rattle.link_verdef.specs.Item.{is_lawful}
use Rattle.link_verdef.specs.Records.{item_bytes, verdaux_bytes, verdauxes_of, verdef_bytes, verdef_of, verdef_records}
use Rattle.link_verdef.specs.Strings.{place_of}
use Rattle.link_verdef.proofs.Lawful.{lawful_parent}
use Rattle.link_verdef.proofs.Places.{places_below, place_at, places_length}

-- two functions that agree at an item and its parent give the same names
names_same : (f g : ℕ → ℕ) (number : ℕ) (parent : Option ℕ) → f number ≡ g number → IfSome parent (λ p. f p ≡ g p)
    → verdauxes_of f number parent ≡ verdauxes_of g number parent
names_same f g number None e h = ap (λ n. record { vda_name = n; vda_next = 0 } ∷ []) e
names_same f g number (Some p) e h =
    ap (λ n. record { vda_name = n; vda_next = 8 } ∷ record { vda_name = f p; vda_next = 0 } ∷ []) e
    ∙ ap (λ n. record { vda_name = g number; vda_next = 8 } ∷ record { vda_name = n; vda_next = 0 } ∷ []) h

-- what is read at a number is behind its parent
parent_below : (items : List VersionItem) (number : ℕ) (item : VersionItem) → is_lawful items ≡ true → number < length items → item ≡ get_or items number item
    → IfSome item.parent (λ p. (1 ≤ p) × (p < number))
parent_below items number item lawful h is =
    subst (λ (x : VersionItem). IfSome x.parent (λ p. (1 ≤ p) × (p < number))) (sym is) (lawful_parent items number item lawful h)

-- a parent has a place
pub parent_within : (items : List VersionItem) (places : List ℕ) (number : ℕ) (item : VersionItem) → is_lawful items ≡ true → places ≡ places_below items (length items)
    → number < length items → item ≡ get_or items number item → IfSome item.parent (λ p. p < length places)
parent_within items places number item lawful e h is =
    IfSome_then item.parent (parent_below items number item lawful h is) (λ p between. omega (arith, between.1, places_length items (length items) places e))

-- the bytes of an item by the list of places
item_bytes_same : (items : List VersionItem) (places : List ℕ) (number : ℕ) (item : VersionItem) → is_lawful items ≡ true → places ≡ places_below items (length items)
    → number < length items → item ≡ get_or items number item
    → item_bytes (length items) (λ k. get_or places k 0) (number, item) ≡ item_bytes (length items) (place_of items) (number, item)
item_bytes_same items places number item lawful e h is =
    let agree : IfSome item.parent (λ p. get_or places p 0 ≡ place_of items p) =
    IfSome_then item.parent (parent_below items number item lawful h is) (λ p between. place_at items (length items) places p 0 e (omega (arith, between.1))) in
    ap (λ names. verdef_bytes (verdef_of (length items) number item) ++ flat_map verdaux_bytes names)
    (names_same (λ k. get_or places k 0) (place_of items) number item.parent (place_at items (length items) places number 0 e h) agree)

-- one item more is written, and one less is left
pub records_more : (items : List VersionItem) (places : List ℕ) (number : ℕ) (item : VersionItem) (old new : List ℕ) → is_lawful items ≡ true
    → places ≡ places_below items (length items) → number < length items → item ≡ get_or items number item
    → old ++ flat_map (item_bytes (length items) (place_of items)) (enumerate_from number (drop number items)) ≡ verdef_records items
    → new ≡ old ++ item_bytes (length items) (λ k. get_or places k 0) (number, item)
    → new ++ flat_map (item_bytes (length items) (place_of items)) (enumerate_from (number + 1) (drop (number + 1) items)) ≡ verdef_records items
records_more items places number item old new lawful e h is before added =
    let F = item_bytes (length items) (place_of items) in
    let rest = flat_map F (enumerate_from (number + 1) (drop (number + 1) items)) in
    let here : drop number items ≡ item ∷ drop (number + 1) items = drop_more items number item h ∙ ap (λ x. x ∷ drop (number + 1) items) (sym is) in
    ap (λ xs. xs ++ rest) (added ∙ ap (λ xs. old ++ xs) (item_bytes_same items places number item lawful e h is))
    ∙ append_assoc old (F (number, item)) rest
    ∙ sym (ap (λ xs. old ++ flat_map F (enumerate_from number xs)) here)
    ∙ before

-- What the reader has read, where the bytes are an image.
use Rattle.std.proofs.Common.{◌≡◌, ℕ, ◌+◌, ◌-◌, ◌<◌, ◌≤◌, ◌^◌, false, List, [], ◌∷◌, ◌++◌, length, drop, take, get_or, Option, Some, None, IfSome, arith, refl, sym, subst, ◌∙◌, ap}
use Rattle.std.proofs.lemmas.List.{append_assoc, append-nil, drop_at, get_or_at, length-append, length_push, take_at}
use Rattle.std.proofs.lemmas.List.Concat.{flat_map-append}
use Rattle.std.proofs.lemmas.Option.{IfSome_then}
use Rattle.std.specs.List.{enumerate_from, flat_map, position}
use Rattle.link_verdef.specs.declared.item.VersionItem.{VersionItem}
use Rattle.link_verdef.specs.Image.{IsImageOf}
use Rattle.link_verdef.specs.Reading.{TellsParent}
use Rattle.link_verdef.specs.Records.{item_bytes}
use Rattle.link_verdef.specs.Strings.{has_zero, place_of, string_of}
use Rattle.link_verdef.proofs.Lawful.{lawful_few, lawful_parent}
use Rattle.link_verdef.proofs.Places.{place_at, place_within, places_below, places_length, places_more, places_rise}
use Rattle.link_verdef.proofs.Zeros.{first_zero, is_zero, none_has_zero}

-- the records from the item of this number on
abbrev pub records_from : List VersionItem → ℕ → List VersionItem → List ℕ
records_from all number back = flat_map (item_bytes (length all) (place_of all)) (enumerate_from number back)

-- Of all items these are read, with their places, and names and records are those of the ones behind them.
pub record HasRead (all items : List VersionItem) (places names rest : List ℕ) : Type 0 where
  pub back : List VersionItem
  pub whole : all ≡ items ++ back
  pub places_are : places ≡ places_below all (length items)
  pub names_are : names ≡ flat_map string_of back
  pub rest_are : rest ≡ records_from all (length items) back

-- at first none is read
pub read_none : (all : List VersionItem) (records strings names : List ℕ) → IsImageOf all records strings → strings ≡ 0 ∷ names → HasRead all [] [] names records
read_none all records strings names image e = record {
  back = all;
  whole = refl;
  places_are = refl;
  names_are = let same : 0 ∷ names ≡ 0 ∷ flat_map string_of all = sym e ∙ image.strings_are in cc same;
  rest_are = image.records_are;
}

-- The item that is read next.
pub record ReadsNext (all items : List VersionItem) (strings places names rest : List ℕ) (len : ℕ) : Type 0 where
  pub item : VersionItem
  pub back : List VersionItem
  pub whole : all ≡ items ++ item ∷ back
  pub name : take len names ≡ item.name
  pub names_behind : drop len names ≡ 0 ∷ flat_map string_of back
  pub rest_are : rest ≡ item_bytes (length all) (place_of all) (length items, item) ++ records_from all (length items + 1) back
  pub short : place_of all (length items) < 2 ^ 32
  pub tells : TellsParent places (place_of all) item.parent
  pub place : length strings - length names ≡ place_of all (length items)

-- the name of the next item goes up to the first zero byte
name_in_front : (all items : List VersionItem) (records strings names : List ℕ) (item : VersionItem) (back : List VersionItem) → IsImageOf all records strings
    → all ≡ items ++ item ∷ back → names ≡ item.name ++ 0 ∷ flat_map string_of back → position is_zero names ≡ Some (length item.name)
name_in_front all items records strings names item back image whole split =
    let inside : length items < length all = omega (arith, ap length whole, length-append items (item ∷ back)) in
    let here : get_or all (length items) item ≡ item = ap (λ xs. get_or xs (length items) item) whole ∙ get_or_at items item back item (length items) refl in
    let zeroless = subst (λ (x : VersionItem). has_zero x ≡ false) here (none_has_zero all (length items) item image.zeroless inside) in
    ap (position is_zero) split ∙ first_zero item.name (flat_map string_of back) zeroless

next_from : (all items : List VersionItem) (records strings places names rest : List ℕ) (len : ℕ) (back : List VersionItem) → IsImageOf all records strings
    → all ≡ items ++ back → places ≡ places_below all (length items) → names ≡ flat_map string_of back → rest ≡ records_from all (length items) back
    → position is_zero names ≡ Some len → ReadsNext all items strings places names rest len
next_from all items records strings places names rest len [] image whole places_are names_are rest_are found =
    let none : None ≡ Some len = subst (λ (xs : List ℕ). position is_zero xs ≡ Some len) names_are found in
    cc none
next_from all items records strings places names rest len (item ∷ back) image whole places_are names_are rest_are found =
    let n = length items in
    let inside : n < length all = omega (arith, ap length whole, length-append items (item ∷ back)) in
    let here : get_or all n item ≡ item = ap (λ xs. get_or xs n item) whole ∙ get_or_at items item back item n refl in
    let split : names ≡ item.name ++ 0 ∷ flat_map string_of back = names_are ∙ append_assoc item.name (0 ∷ []) (flat_map string_of back) in
    let end : Some (length item.name) ≡ Some len = sym (name_in_front all items records strings names item back image whole split) ∙ found in
    let ends : length item.name ≡ len = cc end in
    let parent : IfSome item.parent (λ p. (1 ≤ p) × (p < n)) =
    subst (λ (x : VersionItem). IfSome x.parent (λ p. (1 ≤ p) × (p < n))) here (lawful_parent all n item image.lawful inside) in
    let front : take n all ≡ items = ap (take n) whole ∙ take_at items (item ∷ back) n refl in
    let lengths : length (flat_map string_of all) ≡ length (flat_map string_of items) + length (flat_map string_of (item ∷ back)) =
    ap (λ xs. length (flat_map string_of xs)) whole ∙ ap length (flat_map-append string_of items (item ∷ back))
    ∙ length-append (flat_map string_of items) (flat_map string_of (item ∷ back)) in
    record {
      item = item;
      back = back;
      whole = whole;
      name = ap (take len) split ∙ take_at item.name (0 ∷ flat_map string_of back) len ends;
      names_behind = ap (drop len) split ∙ drop_at item.name (0 ∷ flat_map string_of back) len ends;
      rest_are = rest_are;
      short = omega (arith, place_within all n, ap length image.strings_are, image.short);
      tells = record {
        rising = places_rise all n places item places_are (omega arith);
        among = IfSome_then item.parent parent (λ p between. omega (arith, between.1, places_length all n places places_are));
        few = IfSome_then item.parent parent (λ p between. omega (arith, between.1, lawful_few all image.lawful));
        same = IfSome_then item.parent parent (λ p between. place_at all n places p 0 places_are between.1);
        short = IfSome_then item.parent parent (λ p between. omega (arith, place_within all p, ap length image.strings_are, image.short));
      };
      place = omega (arith, ap length image.strings_are, lengths, ap length names_are, ap (λ xs. length (flat_map string_of xs)) front);
    }

-- where a zero byte is left, there is a next one
pub read_next : (all items : List VersionItem) (records strings places names rest : List ℕ) (len : ℕ) → IsImageOf all records strings
    → HasRead all items places names rest → position is_zero names ≡ Some len → ReadsNext all items strings places names rest len
read_next all items records strings places names rest len image so_far found =
    next_from all items records strings places names rest len so_far.back image so_far.whole so_far.places_are so_far.names_are so_far.rest_are found

-- one more is read
pub read_more : (all items : List VersionItem) (strings places names rest : List ℕ) (len place : ℕ) (new : VersionItem) (new_items : List VersionItem)
    (new_places new_names new_rest : List ℕ) → HasRead all items places names rest → (next : ReadsNext all items strings places names rest len) → new ≡ next.item
    → new_items ≡ items ++ new ∷ [] → new_places ≡ places ++ place ∷ [] → place ≡ place_of all (length items) → new_names ≡ drop 1 (drop len names)
    → new_rest ≡ records_from all (length items + 1) next.back → HasRead all new_items new_places new_names new_rest
read_more all items strings places names rest len place new new_items new_places new_names new_rest so_far next same items_are places_are place_is names_are rest_are =
    let count : length new_items ≡ length items + 1 = ap length items_are ∙ length_push items new in
    record {
      back = next.back;
      whole = next.whole ∙ sym (ap (λ xs. xs ++ next.back) items_are ∙ append_assoc items (new ∷ []) next.back ∙ ap (λ x. items ++ x ∷ next.back) same);
      places_are = places_more all (length items) place places new_places so_far.places_are place_is places_are ∙ ap (places_below all) (sym count);
      names_are = names_are ∙ ap (drop 1) next.names_behind;
      rest_are = rest_are ∙ ap (λ n. records_from all n next.back) (sym count);
    }

all_from : (all items : List VersionItem) (records strings names : List ℕ) (back : List VersionItem) → IsImageOf all records strings → all ≡ items ++ back
    → names ≡ flat_map string_of back → position is_zero names ≡ None → items ≡ all
all_from all items records strings names [] image whole names_are none = sym (append-nil items) ∙ sym whole
all_from all items records strings names (item ∷ back) image whole names_are none =
    let split : names ≡ item.name ++ 0 ∷ flat_map string_of back = names_are ∙ append_assoc item.name (0 ∷ []) (flat_map string_of back) in
    let end : Some (length item.name) ≡ None = sym (name_in_front all items records strings names item back image whole split) ∙ none in
    cc end

-- where no zero byte is left, all are read
pub read_all : (all items : List VersionItem) (records strings places names rest : List ℕ) → IsImageOf all records strings
    → HasRead all items places names rest → position is_zero names ≡ None → items ≡ all
read_all all items records strings places names rest image so_far none =
    all_from all items records strings names so_far.back image so_far.whole so_far.names_are none

-- an item of this name and this parent
pub same_item : (name : List ℕ) (parent : Option ℕ) (item : VersionItem) → name ≡ item.name → parent ≡ item.parent
    → ◌≡◌ {A = VersionItem} (record { name = name; parent = parent }) item
same_item name parent item p q = ap (λ n. record { name = n; parent = parent }) p ∙ ap (λ x. record { name = item.name; parent = x }) q

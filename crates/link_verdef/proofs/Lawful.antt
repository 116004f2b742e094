-- What each item of a lawful list has.
use Rattle.std.proofs.Common.{◌≡◌, ℕ, ◌<◌, ◌≤◌, true, List, length, get_or, Option, Some, None, arith, refl, zero-add}
use Rattle.std.proofs.lemmas.Bool.{and_parts, ltb-true, leb-true, eqb-true}
use Rattle.std.proofs.lemmas.List.FromFn.{get_or-enumerate_from, length-enumerate_from}
use Rattle.std.proofs.lemmas.List.Recursion.{and_at}
use Rattle.std.specs.List.{list_all, enumerate_from}
use Rattle.std.specs.Option.{IfSome}
use Rattle.link_verdef.specs.declared.item.VersionItem.{VersionItem}
use Rattle.link_verdef.specs.Item.{is_lawful, is_lawful_count, is_lawful_item, is_lawful_parent, are_lawful}

few_from_count : (n : ℕ) → is_lawful_count n ≡ true → n ≤ 32767
few_from_count n h = grind (arith, ltb-true, leb-true, eqb-true)

-- there are at most 32,767 items
pub lawful_few : (items : List VersionItem) → is_lawful items ≡ true → length items ≤ 32767
lawful_few items h = few_from_count (length items) (and_parts (is_lawful_count (length items)) (are_lawful items) h).0

parent_between : (number : ℕ) (parent : Option ℕ) → is_lawful_parent number parent ≡ true → IfSome parent (λ p. (1 ≤ p) × (p < number))
parent_between number None h = tt
parent_between number (Some p) h = let parts = and_parts _ _ h in (leb-true 1 p parts.0, ltb-true p number parts.1)

-- the parent of an item stands behind the base and before it
pub lawful_parent : (items : List VersionItem) (i : ℕ) (d : VersionItem) → is_lawful items ≡ true → i < length items
    → IfSome (get_or items i d).parent (λ p. (1 ≤ p) × (p < i))
lawful_parent items i d h within =
    let parts = and_parts (is_lawful_count (length items)) (are_lawful items) h in
    let inside : i < length (enumerate_from 0 items) = rw (length-enumerate_from 0 items) within in
    let here = and_at (list_all is_lawful_item) is_lawful_item refl (λ _ _. refl) (enumerate_from 0 items) i (0, d) inside parts.1 in
    let is : is_lawful_parent i (get_or items i d).parent ≡ true = rw (get_or-enumerate_from 0 items i (0, d) within, zero-add) at here in
    parent_between i (get_or items i d).parent is

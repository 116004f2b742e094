-- The least unknown key of an object that takes its members one after another, in any order.
use Rattle.std.proofs.Common.{◌≡◌, ℕ, List, Bool, true, false, cond, Option, Some, Ordering, Less, Equal, Greater, nat_cmp, refl, sym, ap, ◌∙◌}
use Rattle.std.proofs.lemmas.Cmp.{nat_list_cmp_total}
use Rattle.std.proofs.lemmas.Map.Text.{is_eq-slice_cmp}
use Rattle.std.proofs.lemmas.Slice.Eq.{bytes_eq-Decides}
use Rattle.std.specs.Cmp.Lexicographic.{slice_cmp}
use Rattle.std.specs.List.{list_any}
use Rattle.std.specs.Ordering.{is_eq, match_ordering, ordering_reverse}
use Rattle.std.specs.Prelude.{⊤}
use Rattle.std.specs.Str.{bytes_eq}
use Rattle.serde_json.specs.Data.{Data, Members, no_members, member, put}
use Rattle.link_manifest.specs.Reading.{is_sooner, unknown_key, with_key}

-- the order of keys
abbrev order : List ℕ → List ℕ → Ordering
order = slice_cmp nat_cmp

-- each key comes behind this one
abbrev IsBefore : List ℕ → Members → Type 0
IsBefore k no_members = ⊤
IsBefore k (member l e ms) = (order k l ≡ Less) × IsBefore k ms

-- keys come one behind another
abbrev pub IsSorted : Members → Type 0
IsSorted no_members = ⊤
IsSorted (member l e ms) = IsBefore l ms × IsSorted ms

-- what comes before a key comes before those behind it
before-trans : (k l : List ℕ) (ms : Members) → order k l ≡ Less → IsBefore l ms → IsBefore k ms
before-trans k l no_members less before = tt
before-trans k l (member m e ms) less before = (nat_list_cmp_total.trans k l m less before.0, before-trans k l ms less before.1)

before-put_at : (o : Ordering) (m k l : List ℕ) (d e : Data) (ms : Members) → order m k ≡ Less → IsBefore m (member l e ms) → IsBefore m (put k d ms)
    → IsBefore m (match_ordering o (member k d (member l e ms)) (member l d ms) (member l e (put k d ms)))
before-put_at Less m k l d e ms less before later = (less, before)
before-put_at Equal m k l d e ms less before later = before
before-put_at Greater m k l d e ms less before later = (before.0, later)

before-put : (m k : List ℕ) (d : Data) (ms : Members) → order m k ≡ Less → IsBefore m ms → IsBefore m (put k d ms)
before-put m k d no_members less before = (less, tt)
before-put m k d (member l e ms) less before = before-put_at (order k l) m k l d e ms less before (before-put m k d ms less before.1)

sorted-put_at : (o : Ordering) (k l : List ℕ) (d e : Data) (ms : Members) → order k l ≡ o → IsSorted (member l e ms) → IsSorted (put k d ms)
    → IsSorted (match_ordering o (member k d (member l e ms)) (member l d ms) (member l e (put k d ms)))
sorted-put_at Less k l d e ms is sorted later = ((is, before-trans k l ms is sorted.0), sorted)
sorted-put_at Equal k l d e ms is sorted later = sorted
sorted-put_at Greater k l d e ms is sorted later =
    let less : order l k ≡ Less = nat_list_cmp_total.antisymm l k ∙ ap ordering_reverse is in
    (before-put l k d ms less sorted.0, later)

-- one more member leaves the keys sorted
pub sorted-put : (k : List ℕ) (d : Data) (ms : Members) → IsSorted ms → IsSorted (put k d ms)
sorted-put k d no_members sorted = (tt, tt)
sorted-put k d (member l e ms) sorted = sorted-put_at (order k l) k l d e ms refl sorted (sorted-put k d ms sorted.1)

-- the sooner of two keys
abbrev sooner : List ℕ → Option (List ℕ) → Option (List ℕ)
sooner k least = cond (is_sooner k least) (Some k) least

first-or : (b : Bool) (k l : List ℕ) (least : Option (List ℕ)) → order k l ≡ Less → sooner k least ≡ Some k → sooner k (cond b least (Some l)) ≡ Some k
first-or true k l least less later = later
first-or false k l least less later = rw less

-- what comes before all keys comes before the unknown ones
first-before : (known : List (List ℕ)) (k : List ℕ) (ms : Members) → IsBefore k ms → sooner k (unknown_key known ms) ≡ Some k
first-before known k no_members before = refl
first-before known k (member l e ms) before = first-or (list_any (λ x. bytes_eq x l) known) k l (unknown_key known ms) before.0 (first-before known k ms before.1)

same-or : (b : Bool) (k : List ℕ) (o : Ordering) (least : Option (List ℕ)) → order k k ≡ o → cond b least (Some k) ≡ cond b (cond b least (Some k)) (sooner k (cond b least (Some k)))
same-or true k o least is = refl
same-or false k Less least is = rw is
same-or false k Equal least is = rw is
same-or false k Greater least is = rw is

later-or : (b c : Bool) (k l : List ℕ) (least found : Option (List ℕ)) → order k l ≡ Greater → found ≡ cond c least (sooner k least)
    → cond b found (Some l) ≡ cond c (cond b least (Some l)) (sooner k (cond b least (Some l)))
later-or true c k l least found is e = e
later-or false true k l least found is e = refl
later-or false false k l least found is e = rw is

unknown-put_at : (known : List (List ℕ)) (o : Ordering) (k l : List ℕ) (d e : Data) (ms : Members) → order k l ≡ o → IsSorted (member l e ms)
    → unknown_key known (put k d ms) ≡ with_key known k (unknown_key known ms)
    → unknown_key known (match_ordering o (member k d (member l e ms)) (member l d ms) (member l e (put k d ms))) ≡ with_key known k (unknown_key known (member l e ms))
unknown-put_at known Less k l d e ms is sorted later =
    ap (cond (list_any (λ x. bytes_eq x k) known) (unknown_key known (member l e ms))) (sym (first-before known k (member l e ms) (is, before-trans k l ms is sorted.0)))
unknown-put_at known Equal k l d e ms is sorted later =
    let same : k ≡ l = (bytes_eq-Decides k l).0 (sym (is_eq-slice_cmp k l) ∙ ap is_eq is) in
    rw same (same-or (list_any (λ x. bytes_eq x l) known) l (order l l) (unknown_key known ms) refl)
unknown-put_at known Greater k l d e ms is sorted later =
    later-or (list_any (λ x. bytes_eq x l) known) (list_any (λ x. bytes_eq x k) known) k l (unknown_key known ms) (unknown_key known (put k d ms)) is later

-- the least unknown key after one more member
pub unknown-put : (known : List (List ℕ)) (k : List ℕ) (d : Data) (ms : Members) → IsSorted ms → unknown_key known (put k d ms) ≡ with_key known k (unknown_key known ms)
unknown-put known k d no_members sorted = refl
unknown-put known k d (member l e ms) sorted = unknown-put_at known (order k l) k l d e ms refl sorted (unknown-put known k d ms sorted.1)

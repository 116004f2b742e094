-- Heads that are met one after another.
use Rattle.std.proofs.Common.{◌≡◌, ◌∙◌, ◌%◌, ◌<◌, ℕ, zero, suc, Bool, true, false, cond, List, [], ◌∷◌, Option, Some, None, refl, sym, ap, find, length, arith}
use Rattle.std.specs.Prelude.{All, slice_get}
use Rattle.std.specs.Option.{option_and_then, option_map, option_map_or}
use Rattle.std.proofs.lemmas.List.{length-map, get_or-map}
use Rattle.std.proofs.lemmas.Option.{same_Some, slice_get_within, get_or_from_slice_get}
use Rattle.link_db_buckets.specs.declared.bucket.Bucket.{Bucket}
use Rattle.link_db_buckets.specs.declared.buckets.Buckets.{Buckets}
use Rattle.link_db_buckets.specs.declared.head.Head.{Head}
use Rattle.link_db_buckets.specs.declared.label.Label.{Label}
use Rattle.link_db_buckets.specs.Bucket.{definitions_in, hashes_in, heads_in, label_in, overridden_in}
use Rattle.link_db_buckets.specs.Buckets.{AreKeyed, buckets_in, definitions_at, label_at, overridden_at}
use Rattle.link_db_buckets.specs.Heads.{HaveKeys, hashes_of, head_of, ids_of, is_head, is_used}
use Rattle.link_db_buckets.specs.Keys.{Key, leads_to, hash_of}
use Rattle.link_db_buckets.proofs.Keys.{key_itself, key_there, leads_from}
use Rattle.link_db_buckets.proofs.Search.{labelled_head}
use Rattle.link_db_buckets.proofs.Rounds.{asked_here}

-- the only one that passes is found
found_alone : {A : Type 0} (p : A → Bool) (xs : List A) (i : ℕ) (x : A) → slice_get xs i ≡ Some x → p x ≡ true → ((k : ℕ) (y : A) → slice_get xs k ≡ Some y → p y ≡ true → k ≡ i) → find p xs ≡ Some x
found_alone p [] i x is px alone = absurd cc
found_alone {A} p (y ∷ xs) zero x is px alone = let py : p y ≡ true = ap p (same_Some y x is) ∙ px in rw py is
found_alone {A} p (y ∷ xs) (suc i) x is px alone = by (p y) refl (found_alone p xs i x is px (λ k z at pz. let e = alone (suc k) z at pz in omega arith))
  where
    by : (b : Bool) → p y ≡ b → find p xs ≡ Some x → cond b (Some y) (find p xs) ≡ Some x
    by true py rest = let e = alone 0 y refl py in absurd (omega arith)
    by false py rest = rest

-- a head in use is the one of its key
pub head_alone : (names : Label → Option Key) (heads : List Head) (at : ℕ) (h : Head) → HaveKeys names heads → slice_get heads at ≡ Some h → is_used h ≡ true
    → (key : Key) × (names h.label ≡ Some key) × (h.hash ≡ hash_of key) × (head_of names heads key ≡ Some h)
head_alone names heads at h have is_h used =
    let there = key_there names h.label h.hash (have.numbered at h is_h used) in
    let key = there.0 in
    let leads : leads_to names h.label key ≡ true = leads_from names h.label key key there.1 ∙ key_itself key in
    let passes : is_head names key h ≡ true = rw (used, leads) refl in (
      key,
      there.1,
      there.2,
      found_alone (is_head names key) heads at h is_h passes
          (λ k g is head. sym (have.apart at k h g is_h is used (labelled_head names h.label key g there.1 ∙ head))),
    )

-- a head's bucket is that of its hash number
pub settled_head : (bs : Buckets) (place : ℕ) (b : Bucket) (at : ℕ) (h : Head) → All (λ hash. hash % length (buckets_in bs) ≡ place) (hashes_in b) → slice_get (heads_in b) at ≡ Some h → h.hash % length (buckets_in bs) ≡ place
settled_head bs place b at h settled is_h =
    let within = slice_get_within (heads_in b) at h is_h in
    let longer : at < length (hashes_of (heads_in b)) = omega (arith, length-map (heads_in b) (λ (g : Head). g.hash)) in
    ap (λ n. n % length (buckets_in bs)) (sym (get_or-map (λ (g : Head). g.hash) (heads_in b) at h 0 within ∙ ap (λ (g : Head). g.hash) (get_or_from_slice_get (heads_in b) at h h is_h)))
    ∙ settled at 0 longer

-- a head in use is what the buckets say of its key
pub head_is_name : (names : Label → Option Key) (bs : Buckets) (place : ℕ) (b : Bucket) (at : ℕ) (h : Head) → AreKeyed names bs → slice_get (buckets_in bs) place ≡ Some b → slice_get (heads_in b) at ≡ Some h → is_used h ≡ true
    → (key : Key) × (names h.label ≡ Some key) × (label_at names bs key ≡ Some h.label) × (definitions_at names bs key ≡ ids_of h) × (overridden_at names bs key ≡ h.overridden)
head_is_name names bs place b at h keyed is_b is_h used =
    let alone = head_alone names (heads_in b) at h (keyed.keyed place b is_b) is_h used in
    let key = alone.0 in
    let hash = settled_head bs place b at h (keyed.settled place b is_b) is_h in (
      key,
      alone.1,
      asked_here (label_in names) None (buckets_in bs) h.hash place b key (sym hash) is_b (sym alone.2) ∙ ap (option_map (λ (g : Head). g.label)) alone.3,
      asked_here (definitions_in names) [] (buckets_in bs) h.hash place b key (sym hash) is_b (sym alone.2) ∙ ap (λ (o : Option Head). option_map_or ids_of o []) alone.3,
      asked_here (overridden_in names) None (buckets_in bs) h.hash place b key (sym hash) is_b (sym alone.2) ∙ ap (option_and_then (λ (g : Head). g.overridden)) alone.3,
    )

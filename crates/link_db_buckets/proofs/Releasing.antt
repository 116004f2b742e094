-- What is found where each head keeps its first definition alone.
use Rattle.std.proofs.Common.{◌≡◌, ◌∙◌, ◌+◌, ◌%◌, ◌&&◌, ◌++◌, ◌<◌, ℕ, zero, suc, Bool, true, false, cond, List, [], ◌∷◌, length, map, take, drop, set, get_or, Option, Some, None, refl, sym, ap, subst}
use Rattle.std.specs.Prelude.{All, slice_get}
use Rattle.std.specs.Option.{is_some, option_and_then, option_map, option_map_or, option_or}
use Rattle.std.proofs.lemmas.List.Edits.{map_over_more}
use Rattle.std.proofs.lemmas.List.{get_or-map, length-map, map-set, take_at}
use Rattle.std.proofs.lemmas.Option.{same_Some}
use Rattle.link_db_buckets.specs.declared.bucket.Bucket.{Bucket}
use Rattle.link_db_buckets.specs.declared.head.Head.{Head}
use Rattle.link_db_buckets.specs.declared.label.Label.{Label}
use Rattle.link_db_buckets.specs.declared.buckets.Buckets.{Buckets}
use Rattle.link_db_buckets.specs.Bucket.{hashes_in, heads_in}
use Rattle.link_db_buckets.specs.Buckets.{AreKeyed, buckets_in}
use Rattle.link_db_buckets.specs.Heads.{HaveKeys, first_alone, hashes_of, head_of, ids_of, is_head, is_labelled, is_used}
use Rattle.link_db_buckets.specs.Keys.{Key, have_one_key, number_of}

-- the definitions that are left
pub ids_alone : (h : Head) → ids_of (first_alone h) ≡ take 1 (ids_of h)
ids_alone h = by h.definitions refl
  where
    by : (o : Option (List ℕ)) → h.definitions ≡ o → ids_of (first_alone h) ≡ take 1 (ids_of h)
    by None e = rw e refl
    by (Some ids) e = rw e refl

-- the first of a list is the first of the list with its first alone
first_stays : (ids : List ℕ) → slice_get (take 1 ids) 0 ≡ slice_get ids 0
first_stays [] = refl
first_stays (x ∷ ids) = refl

-- a head stays in use
pub used_alone : (h : Head) → is_used (first_alone h) ≡ is_used h
used_alone h = ap (λ (ids : List ℕ). is_some (option_or h.overridden (slice_get ids 0))) (ids_alone h) ∙ ap (λ (o : Option ℕ). is_some (option_or h.overridden o)) (first_stays (ids_of h))

-- a key's head is that which it was
pub head_alone_of : (names : Label → Option Key) (heads : List Head) (key : Key) → head_of names (map first_alone heads) key ≡ option_map first_alone (head_of names heads key)
head_alone_of names [] key = refl
head_alone_of names (h ∷ heads) key =
    let used = used_alone h in
    rw (used, head_alone_of names heads key) (by (is_head names key h))
  where
    by : (b : Bool) → cond b (Some (first_alone h)) (option_map first_alone (head_of names heads key)) ≡ option_map first_alone (cond b (Some h) (head_of names heads key))
    by true = refl
    by false = refl

-- hash numbers stay
pub hashes_alone : (heads : List Head) → hashes_of (map first_alone heads) ≡ hashes_of heads
hashes_alone [] = refl
hashes_alone (h ∷ heads) = ap (λ (l : List ℕ). h.hash ∷ l) (hashes_alone heads)

-- what stands at a place of a list that was made of another
made_of : {A B : Type 0} (f : A → B) (xs : List A) (k : ℕ) (y : B) → slice_get (map f xs) k ≡ Some y → (x : A) × ((slice_get xs k ≡ Some x) × (y ≡ f x))
made_of f [] k y e = absurd cc
made_of f (x ∷ xs) zero y e = (x, (refl, sym (same_Some (f x) y e)))
made_of f (x ∷ xs) (suc k) y e = made_of f xs k y e

-- heads keep their keys
pub keys_alone : (names : Label → Option Key) (heads : List Head) → HaveKeys names heads → HaveKeys names (map first_alone heads)
keys_alone names heads have = record {
  numbered = λ k h is used.
      let was = made_of first_alone heads k h is in
      let before : is_used was.0 ≡ true = sym (used_alone was.0) ∙ ap is_used (sym was.1.1) ∙ used in
      subst (λ (x : Head). number_of names x.label ≡ Some x.hash) (sym was.1.1) (have.numbered k was.0 was.1.0 before);
  apart = λ a b g h at_a at_b used one.
      let was_g = made_of first_alone heads a g at_a in
      let was_h = made_of first_alone heads b h at_b in
      let before : is_used was_g.0 ≡ true = sym (used_alone was_g.0) ∙ ap is_used (sym was_g.1.1) ∙ used in
      let led : is_labelled names was_g.0.label (first_alone was_h.0) ≡ true = subst (λ (x : Head). is_labelled names x.label (first_alone was_h.0) ≡ true) was_g.1.1 (subst (λ (x : Head). is_labelled names g.label x ≡ true) was_h.1.1 one) in
      let lead : is_labelled names was_g.0.label was_h.0 ≡ true = ap (λ (b : Bool). b && have_one_key names was_h.0.label was_g.0.label) (sym (used_alone was_h.0)) ∙ led in
      have.apart a b was_g.0 was_h.0 was_g.1.0 was_h.1.0 before lead;
}

-- ---- what is read of a bucket

-- each key keeps its first definition alone
pub definitions_alone : (names : Label → Option Key) (heads : List Head) (key : Key) → option_map_or ids_of (head_of names (map first_alone heads) key) [] ≡ take 1 (option_map_or ids_of (head_of names heads key) [])
definitions_alone names heads key = ap (λ (o : Option Head). option_map_or ids_of o []) (head_alone_of names heads key) ∙ by (head_of names heads key)
  where
    by : (o : Option Head) → option_map_or ids_of (option_map first_alone o) [] ≡ take 1 (option_map_or ids_of o [])
    by None = refl
    by (Some h) = ids_alone h

-- each key is overridden as it was
pub overridden_alone : (names : Label → Option Key) (heads : List Head) (key : Key) → option_and_then (λ h. h.overridden) (head_of names (map first_alone heads) key) ≡ option_and_then (λ h. h.overridden) (head_of names heads key)
overridden_alone names heads key = ap (option_and_then (λ (h : Head). h.overridden)) (head_alone_of names heads key) ∙ by (head_of names heads key)
  where
    by : (o : Option Head) → option_and_then (λ h. h.overridden) (option_map first_alone o) ≡ option_and_then (λ h. h.overridden) o
    by None = refl
    by (Some h) = refl

-- each key has the label that it had
pub label_alone : (names : Label → Option Key) (heads : List Head) (key : Key) → option_map (λ h. h.label) (head_of names (map first_alone heads) key) ≡ option_map (λ h. h.label) (head_of names heads key)
label_alone names heads key = ap (option_map (λ (h : Head). h.label)) (head_alone_of names heads key) ∙ by (head_of names heads key)
  where
    by : (o : Option Head) → option_map (λ h. h.label) (option_map first_alone o) ≡ option_map (λ h. h.label) o
    by None = refl
    by (Some h) = refl

-- ---- what buckets say

-- the heads of each bucket, after one more of them keeps first definitions alone
pub alone_more : (old bs : List Bucket) (i : ℕ) (b c : Bucket) → i < length (map heads_in old) → map heads_in bs ≡ map (map first_alone) (take i (map heads_in old)) ++ drop i (map heads_in old) → b ≡ get_or bs i b → i < length bs → heads_in c ≡ map first_alone (heads_in b)
    → map heads_in (set bs i c) ≡ map (map first_alone) (take (i + 1) (map heads_in old)) ++ drop (i + 1) (map heads_in old)
alone_more old bs i b c within so_far is inside change =
    map-set heads_in bs i c ∙ ap (set (map heads_in bs) i) change
    ∙ map_over_more (map first_alone) (map heads_in old) (map heads_in bs) i (heads_in b) within so_far (ap heads_in is ∙ sym (get_or-map heads_in bs i b (heads_in b) inside))

-- what is read of the bucket at a place
alone_at : {X : Type 0} (read : List Head → X) (none : X) (f : X → X) (old new : List Bucket) → map heads_in new ≡ map (map first_alone) (map heads_in old) → ((heads : List Head) → read (map first_alone heads) ≡ f (read heads)) → none ≡ f none
    → (i : ℕ) → option_map_or (λ b. read (heads_in b)) (slice_get new i) none ≡ f (option_map_or (λ b. read (heads_in b)) (slice_get old i) none)
alone_at read none f [] [] same each at_none i = at_none
alone_at read none f [] (c ∷ new) same each at_none i = absurd cc
alone_at read none f (b ∷ old) [] same each at_none i = absurd cc
alone_at read none f (b ∷ old) (c ∷ new) same each at_none zero = let first : heads_in c ≡ map first_alone (heads_in b) = cc in ap read first ∙ each (heads_in b)
alone_at read none f (b ∷ old) (c ∷ new) same each at_none (suc i) = let rest : map heads_in new ≡ map (map first_alone) (map heads_in old) = cc in alone_at read none f old new rest each at_none i

-- there are as many buckets
pub alone_count : (old new : List Bucket) → map heads_in new ≡ map (map first_alone) (map heads_in old) → length new ≡ length old
alone_count old new same = sym (length-map new heads_in) ∙ ap length same ∙ length-map (map heads_in old) (map first_alone) ∙ length-map old heads_in

-- what is asked of all buckets
pub asked_alone : {X : Type 0} (read : List Head → X) (none : X) (f : X → X) (old new : List Bucket) → map heads_in new ≡ map (map first_alone) (map heads_in old) → ((heads : List Head) → read (map first_alone heads) ≡ f (read heads)) → none ≡ f none
    → (n : ℕ) → option_map_or (λ b. read (heads_in b)) (slice_get new (n % length new)) none ≡ f (option_map_or (λ b. read (heads_in b)) (slice_get old (n % length old)) none)
asked_alone read none f old new same each at_none n = rw (alone_count old new same) (alone_at read none f old new same each at_none (n % length old))

-- a bucket that is there, and that from which it was made
pub bucket_before : (old new : List Bucket) (k : ℕ) (c : Bucket) → map heads_in new ≡ map (map first_alone) (map heads_in old) → slice_get new k ≡ Some c → (b : Bucket) × ((slice_get old k ≡ Some b) × (heads_in c ≡ map first_alone (heads_in b)))
bucket_before [] [] k c same is = absurd cc
bucket_before [] (d ∷ new) k c same is = absurd cc
bucket_before (b ∷ old) [] k c same is = absurd cc
bucket_before (b ∷ old) (d ∷ new) zero c same is = let e : heads_in d ≡ map first_alone (heads_in b) = cc in (b, (refl, ap heads_in (sym (same_Some d c is)) ∙ e))
bucket_before (b ∷ old) (d ∷ new) (suc k) c same is = let rest : map heads_in new ≡ map (map first_alone) (map heads_in old) = cc in bucket_before old new k c rest is

-- buckets have their keys
pub buckets_alone : (names : Label → Option Key) (old new : Buckets) → map heads_in (buckets_in new) ≡ map (map first_alone) (map heads_in (buckets_in old)) → AreKeyed names old → AreKeyed names new
buckets_alone names old new same keyed = record {
  keyed = λ k c is.
      let was = bucket_before (buckets_in old) (buckets_in new) k c same is in
      subst (HaveKeys names) (sym was.1.1) (keys_alone names (heads_in was.0) (keyed.keyed k was.0 was.1.0));
  settled = λ k c is.
      let was = bucket_before (buckets_in old) (buckets_in new) k c same is in
      let count = alone_count (buckets_in old) (buckets_in new) same in
      let hashes : hashes_in c ≡ hashes_in was.0 = ap hashes_of was.1.1 ∙ hashes_alone (heads_in was.0) in
      subst (λ (n : ℕ). All (λ hash. hash % n ≡ k) (hashes_in c)) (sym count) (subst (λ (l : List ℕ). All (λ hash. hash % length (buckets_in old) ≡ k) l) (sym hashes) (keyed.settled k was.0 was.1.0));
}

-- ---- a list that was lent

-- a whole list was written
pub all_written : {X : Type 0} (len : ℕ) (xs ys items : List X) → len ≡ length items → ys ≡ items → length xs ≡ length ys → take len (xs ++ drop (length xs) items) ≡ xs
all_written len xs ys items count lent same = take_at xs (drop (length xs) items) len (same ∙ ap length lent ∙ sym count)

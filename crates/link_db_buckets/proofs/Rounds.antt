-- What buckets say, where one of them changes.
use Rattle.std.proofs.Common.{◌≡◌, ◌∙◌, ◌%◌, ◌++◌, ⊎_elim, ℕ, zero, suc, Bool, true, false, List, [], ◌∷◌, length, Some, refl, sym, ap, subst, set, if◌then◌else◌, length-set, cond, Option, None, ◌⊎◌, inl, inr}
use Rattle.std.specs.Prelude.{slice_get, All}
use Rattle.std.specs.Option.{is_some, option_map_or, option_or}
use Rattle.std.proofs.lemmas.Bool.{cases_eq}
use Rattle.std.proofs.lemmas.List.Elements.{All-push}
use Rattle.std.proofs.lemmas.Option.{same_Some}
use Rattle.link_db_buckets.specs.declared.bucket.Bucket.{Bucket}
use Rattle.link_db_buckets.specs.Bucket.{definitions_in, heads_in, label_in, mapped_in, overridden_in, IsKeyed, hashes_in}
use Rattle.link_db_buckets.specs.Buckets.{asked_of}
use Rattle.link_db_buckets.specs.declared.label.Label.{Label}
use Rattle.link_db_buckets.specs.Keys.{Key, hash_of}
use Rattle.link_db_buckets.proofs.Changes.{labels_stay, labelled_in, get-set_cases}

-- an item that was set
get-set_same : {A : Type 0} (xs : List A) (i : ℕ) (x y : A) → slice_get xs i ≡ Some x → slice_get (set xs i y) i ≡ Some y
get-set_same [] i x y h = absurd cc
get-set_same (z ∷ zs) zero x y h = refl
get-set_same (z ∷ zs) (suc i) x y h = get-set_same zs i x y h

-- another item
get-set_other : {A : Type 0} (xs : List A) (i j : ℕ) (y : A) → (j ≡ i → ⊥) → slice_get (set xs i y) j ≡ slice_get xs j
get-set_other [] i j y ne = refl
get-set_other (z ∷ zs) zero zero y ne = absurd (ne refl)
get-set_other (z ∷ zs) zero (suc j) y ne = refl
get-set_other (z ∷ zs) (suc i) zero y ne = refl
get-set_other (z ∷ zs) (suc i) (suc j) y ne = get-set_other zs i j y (λ e. ne (ap suc e))

-- what a changed bucket says reaches the buckets, where the keys that change have its hash number
pub asked_of-set : {X : Type 0} (read : Bucket → Key → X) (none : X) (bs : List Bucket) (hash i : ℕ) (b c : Bucket) (test : Key → Bool) (f : X → X) → i ≡ hash % length bs → slice_get bs i ≡ Some b → ((asked : Key) → test asked ≡ true → hash_of asked ≡ hash)
    → ((asked : Key) → read c asked ≡ (if test asked then f (read b asked) else read b asked))
    → (asked : Key) → asked_of read none (set bs i c) asked ≡ (if test asked then f (asked_of read none bs asked) else asked_of read none bs asked)
asked_of-set {X} read none bs hash i b c test f at is only change asked =
    let j = hash_of asked % length bs in
    let len : hash_of asked % length (set bs i c) ≡ j = ap (λ n. hash_of asked % n) (length-set bs i c) in
    ⊎_elim
    (λ same.
    let new : slice_get (set bs i c) j ≡ Some c = rw same (get-set_same bs i b c is) in
    let before : slice_get bs j ≡ Some b = rw same is in
    rw (len, new, before) (change asked))
    (λ apart.
    let other : slice_get (set bs i c) j ≡ slice_get bs j = get-set_other bs i j c apart in
    let no : test asked ≡ false = fails (test asked) (λ t. apart (ap (λ n. n % length bs) (only asked t) ∙ sym at)) in
    rw (len, other, no) refl)
    (cases_eq j i)
  where
    fails : (t : Bool) → (t ≡ true → ⊥) → t ≡ false
    fails true never = absurd (never refl)
    fails false never = refl

-- what a changed bucket leaves, the buckets leave
pub asked_of-same : {X : Type 0} (read : Bucket → Key → X) (none : X) (bs : List Bucket) (i : ℕ) (b c : Bucket) → slice_get bs i ≡ Some b → ((asked : Key) → read c asked ≡ read b asked) → (asked : Key) → asked_of read none (set bs i c) asked ≡ asked_of read none bs asked
asked_of-same {X} read none bs i b c is same asked =
    let j = hash_of asked % length bs in
    let len : hash_of asked % length (set bs i c) ≡ j = ap (λ n. hash_of asked % n) (length-set bs i c) in
    ⊎_elim
    (λ e.
    let new : slice_get (set bs i c) j ≡ Some c = rw e (get-set_same bs i b c is) in
    let before : slice_get bs j ≡ Some b = rw e is in
    rw (len, new, before) (same asked))
    (λ apart.
    let other : slice_get (set bs i c) j ≡ slice_get bs j = get-set_other bs i j c apart in
    rw (len, other) refl)
    (cases_eq j i)

-- what the bucket of a key says is what the buckets say
pub asked_here : {X : Type 0} (read : Bucket → Key → X) (none : X) (bs : List Bucket) (hash i : ℕ) (b : Bucket) (asked : Key) → i ≡ hash % length bs → slice_get bs i ≡ Some b → hash_of asked ≡ hash → asked_of read none bs asked ≡ read b asked
asked_here read none bs hash i b asked at is there =
    let found : slice_get bs (hash_of asked % length bs) ≡ Some b = ap (λ n. slice_get bs (n % length bs)) there ∙ ap (slice_get bs) (sym at) ∙ is in
    rw found refl

-- ---- labels

-- labels in a changed bucket that stay where a key is still mapped reach the buckets so
pub label_at-set : (names : Label → Option Key) (bs : List Bucket) (i : ℕ) (b c : Bucket) → slice_get bs i ≡ Some b → ((asked : Key) → label_in names c asked ≡ (if is_some (mapped_in names c asked) then label_in names b asked else None))
    → (asked : Key) → asked_of (label_in names) None (set bs i c) asked
    ≡ (if is_some (option_or (asked_of (overridden_in names) None (set bs i c) asked) (slice_get (asked_of (definitions_in names) [] (set bs i c) asked) 0)) then asked_of (label_in names) None bs asked else None)
label_at-set names bs i b c is left asked =
    let j = hash_of asked % length bs in
    let len : hash_of asked % length (set bs i c) ≡ j = ap (λ n. hash_of asked % n) (length-set bs i c) in
    ⊎_elim
    (λ same.
    let new : slice_get (set bs i c) j ≡ Some c = rw same (get-set_same bs i b c is) in
    let before : slice_get bs j ≡ Some b = rw same is in
    rw (len, new, before) (left asked))
    (λ apart.
    let other : slice_get (set bs i c) j ≡ slice_get bs j = get-set_other bs i j c apart in
    rw (len, other) (stays (slice_get bs j)))
    (cases_eq j i)
  where
    stays : (o : Option Bucket) → option_map_or (λ x. label_in names x asked) o None
        ≡ cond (is_some (option_or (option_map_or (λ x. overridden_in names x asked) o None) (slice_get (option_map_or (λ x. definitions_in names x asked) o []) 0))) (option_map_or (λ x. label_in names x asked) o None) None
    stays None = refl
    stays (Some x) = labels_stay names (heads_in x) asked

-- a key has a label exactly where it is mapped to something
pub labelled_at : (names : Label → Option Key) (bs : List Bucket) (asked : Key)
    → is_some (asked_of (label_in names) None bs asked) ≡ is_some (option_or (asked_of (overridden_in names) None bs asked) (slice_get (asked_of (definitions_in names) [] bs asked) 0))
labelled_at names bs asked = by (slice_get bs (hash_of asked % length bs))
  where
    by : (o : Option Bucket) → is_some (option_map_or (λ x. label_in names x asked) o None) ≡ is_some (option_or (option_map_or (λ x. overridden_in names x asked) o None) (slice_get (option_map_or (λ x. definitions_in names x asked) o []) 0))
    by None = refl
    by (Some x) = labelled_in names (heads_in x) asked

-- ---- new buckets

-- buckets that say nothing, and one more that says nothing
pub asked_of-push : {X : Type 0} (read : Bucket → Key → X) (none : X) (bs : List Bucket) (b : Bucket) (key : Key) → ((k : ℕ) → option_map_or (λ x. read x key) (slice_get bs k) none ≡ none) → read b key ≡ none
    → (k : ℕ) → option_map_or (λ x. read x key) (slice_get (bs ++ b ∷ []) k) none ≡ none
asked_of-push read none [] b key all here zero = here
asked_of-push read none [] b key all here (suc k) = refl
asked_of-push read none (x ∷ bs) b key all here zero = all zero
asked_of-push read none (x ∷ bs) b key all here (suc k) = asked_of-push read none bs b key (λ j. all (suc j)) here k

-- what holds of each item, and of one more
pub each-push : {A : Type 0} (P : A → Type 0) (xs : List A) (y : A) → ((k : ℕ) (x : A) → slice_get xs k ≡ Some x → P x) → P y → (k : ℕ) (x : A) → slice_get (xs ++ y ∷ []) k ≡ Some x → P x
each-push P [] y all here zero x is = subst P (same_Some y x is) here
each-push P [] y all here (suc k) x is = absurd cc
each-push P (z ∷ xs) y all here zero x is = all zero x is
each-push P (z ∷ xs) y all here (suc k) x is = each-push P xs y (λ j. all (suc j)) here k x is

-- ---- keys

-- buckets have their keys, where one of them changes and has its keys
pub keyed-set : (names : Label → Option Key) (bs : List Bucket) (i : ℕ) (c : Bucket) → ((k : ℕ) (b : Bucket) → slice_get bs k ≡ Some b → IsKeyed names b) → IsKeyed names c → (k : ℕ) (b : Bucket) → slice_get (set bs i c) k ≡ Some b → IsKeyed names b
keyed-set names bs i c all here k b at = elim (get-set_cases bs i k c b at) [ inl w ↦ subst (λ (x : Bucket). IsKeyed names x) (sym w.1) here | inr w ↦ all k b w ]

-- hash numbers stand in their buckets, where one of them has its own or one more that belongs there
pub settled-set : (bs : List Bucket) (hash i : ℕ) (b c : Bucket) → i ≡ hash % length bs → slice_get bs i ≡ Some b → (hashes_in c ≡ hashes_in b) ⊎ (hashes_in c ≡ hashes_in b ++ hash ∷ [])
    → ((k : ℕ) (x : Bucket) → slice_get bs k ≡ Some x → All (λ n. n % length bs ≡ k) (hashes_in x)) → (k : ℕ) (x : Bucket) → slice_get (set bs i c) k ≡ Some x → All (λ n. n % length (set bs i c) ≡ k) (hashes_in x)
settled-set bs hash i b c at is change all k x there =
    rw (length-set bs i c) (elim (get-set_cases bs i k c x there) [
      | inl w ↦ subst (λ (y : Bucket). All (λ n. n % length bs ≡ k) (hashes_in y)) (sym w.1) (subst (λ (j : ℕ). All (λ n. n % length bs ≡ j) (hashes_in c)) (sym w.0) settled)
      | inr w ↦ all k x w
    ])
  where
    settled : All (λ n. n % length bs ≡ i) (hashes_in c)
    settled = elim change [
      | inl e ↦ subst (λ (l : List ℕ). All (λ n. n % length bs ≡ i) l) (sym e) (all i b is)
      | inr e ↦ subst (λ (l : List ℕ). All (λ n. n % length bs ≡ i) l) (sym e) (All-push (λ n. n % length bs ≡ i) (hashes_in b) hash (all i b is) (sym at))
    ]

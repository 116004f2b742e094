-- Keys whose hash number no head has.
use Rattle.std.proofs.Common.{◌≡◌, ◌∙◌, ◌%◌, ℕ, false, true, length, List, [], Option, None, Some, refl, sym, ap}
use Rattle.std.specs.Prelude.{slice_get}
use Rattle.std.proofs.lemmas.Bool.{eq-eqb, eqb-true}
use Rattle.std.proofs.lemmas.Option.{slice_get_within}
use Rattle.link_db_buckets.specs.declared.bucket.Bucket.{Bucket}
use Rattle.link_db_buckets.specs.declared.buckets.Buckets.{Buckets}
use Rattle.link_db_buckets.specs.declared.head.Head.{Head}
use Rattle.link_db_buckets.specs.declared.label.Label.{Label}
use Rattle.link_db_buckets.specs.Bucket.{definitions_in, heads_in, mapped_in, overridden_in}
use Rattle.link_db_buckets.specs.Buckets.{buckets_in, definitions_at, mapped_at, overridden_at}
use Rattle.link_db_buckets.specs.Heads.{HaveKeys, has_hash, hashes_of, head_of, is_head}
use Rattle.link_db_buckets.specs.Keys.{Key, hash_of}
use Rattle.link_db_buckets.specs.Slots.{may_hold}
use Rattle.link_db_buckets.specs.Walks.{HaveWalks}
use Rattle.link_db_buckets.proofs.Changes.{none_found}
use Rattle.link_db_buckets.proofs.Rounds.{asked_here}
use Rattle.link_db_buckets.proofs.Search.{AreLeft, IsOnly, fails, hash_at, left_none, named_only, no_place}

-- only heads with a hash number have it
pub hashed_only : (heads : List Head) (n : ℕ) → IsOnly (has_hash n) heads n
hashed_only heads n k h is has = eqb-true h.hash n has

-- no head leads to a key whose hash number none has
never_head : (names : Label → Option Key) (heads : List Head) (n : ℕ) (key : Key) → ((k : ℕ) (h : Head) → slice_get heads k ≡ Some h → has_hash n h ≡ false) → HaveKeys names heads → hash_of key ≡ n → (k : ℕ) (h : Head) → slice_get heads k ≡ Some h → is_head names key h ≡ false
never_head names heads n key never have hash k h is = fails (is_head names key h) (λ one.
    let has : has_hash n h ≡ true = eq-eqb h.hash n (named_only names heads key n have (sym hash) k h is one) in
    let no : has_hash n h ≡ false = never k h is in
    cc)

-- a key whose hash number no head has is mapped to nothing
unmapped_keys : (names : Label → Option Key) (b : Bucket) (n : ℕ) (key : Key) → ((k : ℕ) (h : Head) → slice_get (heads_in b) k ≡ Some h → has_hash n h ≡ false) → HaveKeys names (heads_in b) → hash_of key ≡ n → mapped_in names b key ≡ None
unmapped_keys names b n key without have hash =
    let never : (k : ℕ) (h : Head) → slice_get (heads_in b) k ≡ Some h → is_head names key h ≡ false = never_head names (heads_in b) n key without have hash in
    let absent : head_of names (heads_in b) key ≡ None = none_found (is_head names key) (heads_in b) None (no_place (is_head names key) (heads_in b) 0 never) refl in
    rw absent refl

-- a key whose hash number the filter tells didn't come is mapped to nothing
pub untold_unmapped : (names : Label → Option Key) (b : Bucket) (n : ℕ) (key : Key) → may_hold b.places.filter n ≡ false → HaveWalks b.places (hashes_of (heads_in b)) → HaveKeys names (heads_in b) → hash_of key ≡ n → mapped_in names b key ≡ None
untold_unmapped names b n key untold walks have hash =
    let heads = heads_in b in
    let without : (k : ℕ) (h : Head) → slice_get heads k ≡ Some h → has_hash n h ≡ false = λ k h is. fails (has_hash n h) (λ one.
    let number : slice_get (hashes_of heads) k ≡ Some n = hash_at heads k h is ∙ ap Some (hashed_only heads n k h is one) in
    let told : may_hold b.places.filter n ≡ true = walks.told k n (slice_get_within (hashes_of heads) k n number) number in
    let no : true ≡ false = sym told ∙ untold in
    cc) in
    unmapped_keys names b n key without have hash

-- where a walk has passed all heads with a hash number, no key with this number is mapped to anything
pub walk_unmapped : (names : Label → Option Key) (b : Bucket) (n : ℕ) (key : Key) → AreLeft (has_hash n) (heads_in b) [] → HaveKeys names (heads_in b) → hash_of key ≡ n → mapped_in names b key ≡ None
walk_unmapped names b n key left have hash = unmapped_keys names b n key (left_none (has_hash n) (heads_in b) left) have hash

-- what the bucket of a key maps to nothing, the buckets map to nothing
pub unmapped_here : (names : Label → Option Key) (bs : Buckets) (hash i : ℕ) (b : Bucket) (key : Key) → i ≡ hash % length (buckets_in bs) → slice_get (buckets_in bs) i ≡ Some b → hash_of key ≡ hash → mapped_in names b key ≡ None → mapped_at names bs key ≡ None
unmapped_here names bs hash i b key at is there none =
    let overridden : overridden_at names bs key ≡ overridden_in names b key = asked_here (overridden_in names) None (buckets_in bs) hash i b key at is there in
    let definitions : definitions_at names bs key ≡ definitions_in names b key = asked_here (definitions_in names) [] (buckets_in bs) hash i b key at is there in
    rw (overridden, definitions) none

-- What is found among the heads of all buckets.
use Rattle.std.proofs.Common.{◌≡◌, ◌∙◌, ◌%◌, ℕ, zero, suc, Bool, true, false, cond, List, [], ◌∷◌, length, Option, Some, None, refl, sym, ap, find, arith}
use Rattle.std.specs.Prelude.{slice_get}
use Rattle.std.specs.List.{flat_map}
use Rattle.std.specs.Option.{option_and_then, option_map, option_map_or, option_or}
use Rattle.std.proofs.lemmas.List.Folds.{find-append}
use Rattle.link_db_buckets.specs.declared.bucket.Bucket.{Bucket}
use Rattle.link_db_buckets.specs.declared.buckets.Buckets.{Buckets}
use Rattle.link_db_buckets.specs.declared.head.Head.{Head}
use Rattle.link_db_buckets.specs.declared.label.Label.{Label}
use Rattle.link_db_buckets.specs.Bucket.{heads_in}
use Rattle.link_db_buckets.specs.Buckets.{AreKeyed, all_heads, buckets_in, definitions_at, label_at, overridden_at}
use Rattle.link_db_buckets.specs.Heads.{head_of, ids_of, is_head}
use Rattle.link_db_buckets.specs.Keys.{Key, hash_of}
use Rattle.link_db_buckets.proofs.Changes.{find_passes, option_or-none}
use Rattle.link_db_buckets.proofs.Search.{named_only}
use Rattle.link_db_buckets.proofs.Walking.{settled_head}

-- what is found stands somewhere
pub found_somewhere : {A : Type 0} (p : A → Bool) (xs : List A) (x : A) → find p xs ≡ Some x → (at : ℕ) × (slice_get xs at ≡ Some x)
found_somewhere p [] x e = absurd cc
found_somewhere {A} p (y ∷ xs) x e = by (p y) e (found_somewhere p xs x)
  where
    by : (b : Bool) → cond b (Some y) (find p xs) ≡ Some x → (find p xs ≡ Some x → (at : ℕ) × (slice_get xs at ≡ Some x)) → (at : ℕ) × (slice_get (y ∷ xs) at ≡ Some x)
    by true is rest = (0, is)
    by false is rest = let r = rest is in (suc r.0, r.1)

-- nothing is found in lists of which none has it
found_nowhere : {A B : Type 0} (p : A → Bool) (f : B → List A) (bs : List B) → ((k : ℕ) (b : B) → slice_get bs k ≡ Some b → find p (f b) ≡ None) → find p (flat_map f bs) ≡ None
found_nowhere p f [] never = refl
found_nowhere p f (b ∷ bs) never =
    find-append p (f b) (flat_map f bs) ∙ ap (λ o. option_or o (find p (flat_map f bs))) (never 0 b refl) ∙ found_nowhere p f bs (λ k c is. never (suc k) c is)

-- what is found in lists of which only one may have it is what is found in that one
found_in_one : {A B : Type 0} (p : A → Bool) (f : B → List A) (bs : List B) (j : ℕ) → ((k : ℕ) (b : B) → slice_get bs k ≡ Some b → (k ≡ j → ⊥) → find p (f b) ≡ None)
    → find p (flat_map f bs) ≡ option_and_then (λ b. find p (f b)) (slice_get bs j)
found_in_one p f [] j others = refl
found_in_one p f (b ∷ bs) zero others =
    find-append p (f b) (flat_map f bs)
    ∙ ap (option_or (find p (f b))) (found_nowhere p f bs (λ k c is. others (suc k) c is (λ e. omega arith)))
    ∙ option_or-none (find p (f b))
found_in_one p f (b ∷ bs) (suc j) others =
    find-append p (f b) (flat_map f bs)
    ∙ ap (λ o. option_or o (find p (flat_map f bs))) (others 0 b refl (λ e. omega arith))
    ∙ found_in_one p f bs j (λ k c is apart. others (suc k) c is (λ e. apart (omega arith)))

-- other buckets than its own have no head of a key
other_bucket : (names : Label → Option Key) (bs : Buckets) (key : Key) → AreKeyed names bs → (k : ℕ) (b : Bucket) → slice_get (buckets_in bs) k ≡ Some b → (k ≡ hash_of key % length (buckets_in bs) → ⊥) → head_of names (heads_in b) key ≡ None
other_bucket names bs key keyed k b is apart = by (head_of names (heads_in b) key) refl
  where
    by : (o : Option Head) → head_of names (heads_in b) key ≡ o → head_of names (heads_in b) key ≡ None
    by None e = e
    by (Some h) e =
        let here = found_somewhere (is_head names key) (heads_in b) h e in
        let hash : h.hash ≡ hash_of key = named_only names (heads_in b) key (hash_of key) (keyed.keyed k b is) refl here.0 h here.1 (find_passes (is_head names key) (heads_in b) h e) in
        absurd (apart (sym (settled_head bs k b here.0 h (keyed.settled k b is) here.1) ∙ ap (λ n. n % length (buckets_in bs)) hash))

-- the head of a key among all heads is that of its bucket
scanned : (names : Label → Option Key) (bs : Buckets) (key : Key) → AreKeyed names bs → head_of names (all_heads bs) key ≡ option_and_then (λ b. head_of names (heads_in b) key) (slice_get (buckets_in bs) (hash_of key % length (buckets_in bs)))
scanned names bs key keyed = found_in_one (is_head names key) heads_in (buckets_in bs) (hash_of key % length (buckets_in bs)) (other_bucket names bs key keyed)

-- what is read of the head of a bucket is what the bucket says
read_through : {X : Type 0} (read : Option Head → X) (none : X) (find_head : Bucket → Option Head) (o : Option Bucket) → read None ≡ none → option_map_or (λ b. read (find_head b)) o none ≡ read (option_and_then find_head o)
read_through read none find_head None e = sym e
read_through read none find_head (Some b) e = refl

-- the definitions of a key are those of its head among all
pub definitions_scanned : (names : Label → Option Key) (bs : Buckets) (asked : Key) → AreKeyed names bs → definitions_at names bs asked ≡ option_map_or ids_of (head_of names (all_heads bs) asked) []
definitions_scanned names bs asked keyed =
    let read : Option Head → List ℕ = λ o. option_map_or ids_of o [] in
    read_through read [] (λ b. head_of names (heads_in b) asked) (slice_get (buckets_in bs) (hash_of asked % length (buckets_in bs))) refl ∙ ap read (sym (scanned names bs asked keyed))

-- what it is overridden with is that of its head among all
pub overridden_scanned : (names : Label → Option Key) (bs : Buckets) (asked : Key) → AreKeyed names bs → overridden_at names bs asked ≡ option_and_then (λ h. h.overridden) (head_of names (all_heads bs) asked)
overridden_scanned names bs asked keyed =
    let read : Option Head → Option ℕ = option_and_then (λ h. h.overridden) in
    read_through read None (λ b. head_of names (heads_in b) asked) (slice_get (buckets_in bs) (hash_of asked % length (buckets_in bs))) refl ∙ ap read (sym (scanned names bs asked keyed))

-- its label is that of its head among all
pub label_scanned : (names : Label → Option Key) (bs : Buckets) (asked : Key) → AreKeyed names bs → label_at names bs asked ≡ option_map (λ h. h.label) (head_of names (all_heads bs) asked)
label_scanned names bs asked keyed =
    let read : Option Head → Option Label = option_map (λ h. h.label) in
    read_through read None (λ b. head_of names (heads_in b) asked) (slice_get (buckets_in bs) (hash_of asked % length (buckets_in bs))) refl ∙ ap read (sym (scanned names bs asked keyed))

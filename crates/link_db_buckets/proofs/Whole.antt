-- What buckets say, where all of them are one run.
use Rattle.std.proofs.Common.{◌≡◌, ◌∙◌, ◌+◌, ◌%◌, ◌<◌, ◌++◌, ℕ, zero, suc, List, [], ◌∷◌, length, Option, Some, None, refl, sym, ap, subst, arith, mod-lt, if◌then◌else◌}
use Rattle.std.specs.Prelude.{All, slice_get}
use Rattle.std.specs.Option.{is_some, option_or}
use Rattle.link_db_buckets.specs.declared.bucket.Bucket.{Bucket}
use Rattle.link_db_buckets.specs.declared.buckets.Buckets.{Buckets}
use Rattle.link_db_buckets.specs.declared.definition.Definition.{Definition}
use Rattle.link_db_buckets.specs.declared.label.Label.{Label}
use Rattle.link_db_buckets.specs.Bucket.{definitions_in, hashes_in, label_in, overridden_in}
use Rattle.link_db_buckets.specs.Buckets.{AreKeyed, asked_of, buckets_in, first_label, ids_with}
use Rattle.link_db_buckets.specs.Heads.{without_last}
use Rattle.link_db_buckets.specs.Keys.{Key, hash_of}
use Rattle.link_db_buckets.specs.Runs.{AreGrown, AreOwn, AreTaken}
use Rattle.link_db_buckets.proofs.Running.{beside}

-- all buckets are a run
pub whole_own : (names : Label → Option Key) (bs : Buckets) (run : List Bucket) (count : ℕ) → run ≡ buckets_in bs → count ≡ length (buckets_in bs) → AreKeyed names bs → AreOwn names count 0 run
whole_own names bs run count same all keyed k b is =
    let there : slice_get (buckets_in bs) k ≡ Some b = ap (λ (l : List Bucket). slice_get l k) (sym same) ∙ is in
    let place : k ≡ 0 + k = omega arith in
    record {
      keyed = keyed.keyed k b there;
      settled = subst (λ (n : ℕ). All (λ hash. hash % n ≡ 0 + k) (hashes_in b)) (sym all) (subst (λ (n : ℕ). All (λ hash. hash % length (buckets_in bs) ≡ n) (hashes_in b)) place (keyed.settled k b there));
    }

-- a run that is all buckets is keyed
pub whole_keyed : (names : Label → Option Key) (bs : Buckets) (count : ℕ) → count ≡ length (buckets_in bs) → AreOwn names count 0 (buckets_in bs) → AreKeyed names bs
whole_keyed names bs count all own = record {
  keyed = λ k b is. (own k b is).keyed;
  settled = λ k b is.
      let place : 0 + k ≡ k = omega arith in
      subst (λ (n : ℕ). All (λ hash. hash % n ≡ k) (hashes_in b)) all (subst (λ (n : ℕ). All (λ hash. hash % count ≡ n) (hashes_in b)) place (own k b is).settled);
}

-- what is within a list stands there
stands : {A : Type 0} (xs : List A) (k : ℕ) → k < length xs → (x : A) × (slice_get xs k ≡ Some x)
stands [] k within = absurd (omega arith)
stands (x ∷ xs) zero within = (x, refl)
stands (x ∷ xs) (suc k) within = stands xs k (omega arith)

-- what the bucket of a key says after a change is what the buckets say
pub asked_changed : {X : Type 0} (read : Bucket → Key → X) (none : X) (olds news : List Bucket) (asked : Key) (R : X → X → Type 0) → length news ≡ length olds → hash_of asked % length olds < length olds
    → ((b c : Bucket) → slice_get olds (hash_of asked % length olds) ≡ Some b → slice_get news (hash_of asked % length olds) ≡ Some c → R (read b asked) (read c asked))
    → R (asked_of read none olds asked) (asked_of read none news asked)
asked_changed read none olds news asked R same within change =
    let k = hash_of asked % length olds in
    let b = stands olds k within in
    let c = beside olds news k b.0 same b.1 in
    let here : slice_get news (hash_of asked % length news) ≡ Some c.0 = ap (λ (n : ℕ). slice_get news (hash_of asked % n)) same ∙ c.1 in
    rw (b.1, here) (change b.0 c.0 b.1 c.1)

-- a run that grew, as all buckets
pub whole_grown : (names : Label → Option Key) (count : ℕ) (xs : List Definition) (olds run news run' : List Bucket) → count ≡ length olds → run ≡ olds → news ≡ run' → AreGrown names count 0 xs run run' → AreGrown names (length olds) 0 xs olds news
whole_grown names count xs olds run news run' all same new grown =
    subst (λ (n : ℕ). AreGrown names n 0 xs olds news) all (subst (λ (l : List Bucket). AreGrown names count 0 xs l news) same (subst (λ (l : List Bucket). AreGrown names count 0 xs run l) (sym new) grown))

-- a run from which definitions were taken, as all buckets
pub whole_taken : (names : Label → Option Key) (count : ℕ) (xs : List Definition) (olds run news run' : List Bucket) → count ≡ length olds → run ≡ olds → news ≡ run' → AreTaken names count 0 xs run run' → AreTaken names (length olds) 0 xs olds news
whole_taken names count xs olds run news run' all same new taken =
    subst (λ (n : ℕ). AreTaken names n 0 xs olds news) all (subst (λ (l : List Bucket). AreTaken names count 0 xs l news) same (subst (λ (l : List Bucket). AreTaken names count 0 xs run l) (sym new) taken))

-- a key's place among all buckets
at_zero : (n : ℕ) → n ≡ 0 + n
at_zero n = omega arith

-- each key has its definitions, and those that were added
pub grown_definitions : (names : Label → Option Key) (xs : List Definition) (olds news : List Bucket) → 0 < length olds → AreGrown names (length olds) 0 xs olds news
    → (asked : Key) → asked_of (definitions_in names) [] news asked ≡ asked_of (definitions_in names) [] olds asked ++ ids_with names xs asked
grown_definitions names xs olds news some grown asked =
    let k = hash_of asked % length olds in
    asked_changed (definitions_in names) [] olds news asked (λ (x y : List ℕ). y ≡ x ++ ids_with names xs asked) grown.len (mod-lt (hash_of asked) some) (λ b c is there. (grown.each k b c is there).definitions asked (at_zero k))

-- what overrides it stays
pub grown_overridden : (names : Label → Option Key) (xs : List Definition) (olds news : List Bucket) → 0 < length olds → AreGrown names (length olds) 0 xs olds news
    → (asked : Key) → asked_of (overridden_in names) None news asked ≡ asked_of (overridden_in names) None olds asked
grown_overridden names xs olds news some grown asked =
    let k = hash_of asked % length olds in
    asked_changed (overridden_in names) None olds news asked (λ (x y : Option ℕ). y ≡ x) grown.len (mod-lt (hash_of asked) some) (λ b c is there. (grown.each k b c is there).overridden asked)

-- it has its label, or the first of those that were added
pub grown_labels : (names : Label → Option Key) (xs : List Definition) (olds news : List Bucket) → 0 < length olds → AreGrown names (length olds) 0 xs olds news
    → (asked : Key) → asked_of (label_in names) None news asked ≡ option_or (asked_of (label_in names) None olds asked) (first_label names xs asked)
grown_labels names xs olds news some grown asked =
    let k = hash_of asked % length olds in
    asked_changed (label_in names) None olds news asked (λ (x y : Option Label). y ≡ option_or x (first_label names xs asked)) grown.len (mod-lt (hash_of asked) some) (λ b c is there. (grown.each k b c is there).labels asked (at_zero k))

-- as many of a key's definitions are gone as were named
pub taken_definitions : (names : Label → Option Key) (xs : List Definition) (olds news : List Bucket) → 0 < length olds → AreTaken names (length olds) 0 xs olds news
    → (asked : Key) → asked_of (definitions_in names) [] news asked ≡ without_last (length (ids_with names xs asked)) (asked_of (definitions_in names) [] olds asked)
taken_definitions names xs olds news some taken asked =
    let k = hash_of asked % length olds in
    asked_changed (definitions_in names) [] olds news asked (λ (x y : List ℕ). y ≡ without_last (length (ids_with names xs asked)) x) taken.len (mod-lt (hash_of asked) some) (λ b c is there. (taken.each k b c is there).definitions asked (at_zero k))

-- what overrides it stays
pub taken_overridden : (names : Label → Option Key) (xs : List Definition) (olds news : List Bucket) → 0 < length olds → AreTaken names (length olds) 0 xs olds news
    → (asked : Key) → asked_of (overridden_in names) None news asked ≡ asked_of (overridden_in names) None olds asked
taken_overridden names xs olds news some taken asked =
    let k = hash_of asked % length olds in
    asked_changed (overridden_in names) None olds news asked (λ (x y : Option ℕ). y ≡ x) taken.len (mod-lt (hash_of asked) some) (λ b c is there. (taken.each k b c is there).overridden asked)

-- its label stays as long as it is mapped to something
pub taken_labels : (names : Label → Option Key) (xs : List Definition) (olds news : List Bucket) → 0 < length olds → AreTaken names (length olds) 0 xs olds news
    → (asked : Key) → asked_of (label_in names) None news asked
    ≡ (if is_some (option_or (asked_of (overridden_in names) None news asked) (slice_get (asked_of (definitions_in names) [] news asked) 0)) then asked_of (label_in names) None olds asked else None)
taken_labels names xs olds news some taken asked =
    let k = hash_of asked % length olds in
    let b = stands olds k (mod-lt (hash_of asked) some) in
    let c = beside olds news k b.0 taken.len b.1 in
    let here : slice_get news (hash_of asked % length news) ≡ Some c.0 = ap (λ (n : ℕ). slice_get news (hash_of asked % n)) taken.len ∙ c.1 in
    rw (b.1, here) ((taken.each k b.0 c.0 b.1 c.1).labels asked (at_zero k))

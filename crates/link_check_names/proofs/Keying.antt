-- Keys of names, as a tree compares them.
use Rattle.std.proofs.Common.{◌≡◌, ◌==◌, ◌&&◌, ◌∙◌, ℕ, Bool, true, false, cond, List, [], ◌∷◌, Option, Some, None, option_map, Ordering, refl, sym, ap, Bor}
use Rattle.std.specs.Option.{option_cmp}
use Rattle.std.specs.Ordering.{is_eq, eq_by_cmp, nat_cmp, ordering_then}
use Rattle.std.specs.Cmp.{both_tied, unsigned_ties}
use Rattle.std.specs.Cmp.Lexicographic.{slice_cmp}
use Rattle.std.specs.Str.{bytes_eq}
use Rattle.std.specs.Map.{lookup}
use Rattle.std.specs.BTreeMap as tree
use Rattle.std.proofs.lemmas.Bool.{eq-eqb, eqb-true}
use Rattle.std.proofs.lemmas.Map.Text.{is_eq-slice_cmp}
use Rattle.std.proofs.lemmas.Slice.Eq.{bytes_eq-Decides}
use Rattle.link_names.specs.NameHash.{fnv_1a}
use Rattle.link_rules.specs.Places.{same_version}
use Rattle.link_check_names.specs.Keys.{Key, KeyRef, has_key, key_for, key_of, same_key}

-- a version that is lent, as its bytes
abbrev pub seen : Option (Bor (List ℕ)) → Option (List ℕ)
seen version = option_map (λ (v : Bor (List ℕ)). v.now) version

-- the order of versions
abbrev version_cmp : Option (Bor (List ℕ)) → Option (Bor (List ℕ)) → Ordering
version_cmp v w = option_cmp (λ (x y : Bor (List ℕ)). slice_cmp nat_cmp x.now y.now) v w

-- the order of numbers and names
abbrev name_cmp : KeyRef → KeyRef → Ordering
name_cmp x y = ordering_then (nat_cmp x.0 y.0) (slice_cmp nat_cmp x.1.now y.1.now)

-- the order of the tree
abbrev pub key_cmp : KeyRef → KeyRef → Ordering
key_cmp x y = ordering_then (name_cmp x y) (version_cmp x.2 y.2)

-- two versions tie where they are the same
version_test : (v w : Option (Bor (List ℕ))) → same_version (seen v) (seen w) ≡ is_eq (version_cmp v w)
version_test None None = refl
version_test None (Some w) = refl
version_test (Some v) None = refl
version_test (Some v) (Some w) = sym (is_eq-slice_cmp v.now w.now)

-- two keys tie where number, name and version are the same
tied : (x y : KeyRef) → has_key (key_of x) y ≡ is_eq (key_cmp x y)
tied x y =
    both_tied (x.0 == y.0 && bytes_eq x.1.now y.1.now) (same_version (seen x.2) (seen y.2)) (name_cmp x y) (version_cmp x.2 y.2)
    (both_tied (x.0 == y.0) (bytes_eq x.1.now y.1.now) (nat_cmp x.0 y.0) (slice_cmp nat_cmp x.1.now y.1.now) (unsigned_ties x.0 y.0) (sym (is_eq-slice_cmp x.1.now y.1.now)))
    (version_test x.2 y.2)

-- ---- the same key

-- what both tests pass, each does
both : (a b : Bool) → (a && b) ≡ true → (a ≡ true) × (b ≡ true)
both true b e = (refl, e)
both false b e = absurd cc

-- versions that pass for the same are one
version-is : (v w : Option (List ℕ)) → same_version v w ≡ true → v ≡ w
version-is None None e = refl
version-is None (Some w) e = absurd cc
version-is (Some v) None e = absurd cc
version-is (Some v) (Some w) e = ap (λ (x : List ℕ). Some x) ((bytes_eq-Decides v w).0 e)

-- keys that pass for the same are one
pub key-is : (x y : Key) → same_key x y ≡ true → x ≡ y
key-is x y e =
    let parts = both (x.0 == y.0 && bytes_eq x.1 y.1) (same_version x.2 y.2) e in
    let names = both (x.0 == y.0) (bytes_eq x.1 y.1) parts.0 in
    let number : x ≡ (y.0, x.1, x.2) = ap (λ (n : ℕ). (n, x.1, x.2)) (eqb-true x.0 y.0 names.0) in
    let name : (y.0, x.1, x.2) ≡ (y.0, y.1, x.2) = ap (λ (n : List ℕ). (y.0, n, x.2)) ((bytes_eq-Decides x.1 y.1).0 names.1) in
    let version : (y.0, y.1, x.2) ≡ y = ap (λ (v : Option (List ℕ)). (y.0, y.1, v)) (version-is x.2 y.2 parts.1) in
    number ∙ (name ∙ version)

-- a test for a key is a test that the tree keeps
pub same_test : (key : Key) (x y : KeyRef) → has_key key x ≡ true → has_key key y ≡ eq_by_cmp key_cmp x y
same_test key x y e = ap (λ (k : Key). has_key k y) (key-is key (key_of x) e) ∙ tied x y

-- a key that is not asked for is none that ties with it
pub other_test : (asked : Key) (key k : KeyRef) → has_key asked key ≡ false → is_eq (key_cmp key k) ≡ true → has_key asked k ≡ false
other_test asked key k n e = ap (λ (q : Key). same_key asked q) (sym (key-is (key_of key) (key_of k) (tied key k ∙ e))) ∙ n

-- ---- look-ups

-- tests that answer alike find the same
lookup_same : {V : Type 0} (p q : KeyRef → Bool) (entries : List (KeyRef × V)) → ((k : KeyRef) → p k ≡ q k) → lookup p entries ≡ lookup q entries
lookup_same p q [] same = refl
lookup_same {V} p q (e ∷ entries) same = ap (λ b. cond b (Some e.1) (lookup p entries)) (same e.0) ∙ ap (λ (o : Option V). cond (q e.0) (Some e.1) o) (lookup_same p q entries same)

-- what the tree finds of a key is what its bytes find
pub by_key : {V : Type 0} (key : KeyRef) (entries : List (KeyRef × V)) → lookup (tree.is_at (key_cmp key)) entries ≡ lookup (has_key (key_of key)) entries
by_key key entries = lookup_same (tree.is_at (key_cmp key)) (has_key (key_of key)) entries (λ k. sym (tied key k))

-- ---- keys of names

-- two answers of one question, asked either way round, are one
turned : (x y : List ℕ) (b c : Bool) → bytes_eq x y ≡ b → bytes_eq y x ≡ c → b ≡ c
turned x y true true e f = refl
turned x y true false e f = sym ((bytes_eq-Decides y x).1 (sym ((bytes_eq-Decides x y).0 e))) ∙ f
turned x y false true e f = sym e ∙ (bytes_eq-Decides x y).1 (sym ((bytes_eq-Decides y x).0 f))
turned x y false false e f = refl

-- the same bytes either way round
bytes-turned : (x y : List ℕ) → bytes_eq x y ≡ bytes_eq y x
bytes-turned x y = turned x y (bytes_eq x y) (bytes_eq y x) refl refl

-- the same version either way round
version-turned : (v w : Option (List ℕ)) → same_version v w ≡ same_version w v
version-turned None None = refl
version-turned None (Some w) = refl
version-turned (Some v) None = refl
version-turned (Some v) (Some w) = bytes-turned v w

-- nothing passes two tests where the second fails
nowhere : (b : Bool) → (b && false) ≡ false
nowhere true = refl
nowhere false = refl

-- where two names are the same, so are their numbers
number-follows : (x y : List ℕ) (same : Bool) → bytes_eq x y ≡ same → (fnv_1a x == fnv_1a y && same) ≡ same
number-follows x y true e = ap (λ b. b && true) (eq-eqb (fnv_1a x) (fnv_1a y) (ap fnv_1a ((bytes_eq-Decides x y).0 e)))
number-follows x y false e = nowhere (fnv_1a x == fnv_1a y)

-- the keys of two names are the same where the names are, and their versions
pub names-same : (asked : List ℕ) (asked_version : Option (List ℕ)) (name : List ℕ) (version : Option (List ℕ))
    → same_key (key_for asked asked_version) (key_for name version) ≡ (bytes_eq name asked && same_version version asked_version)
names-same asked asked_version name version =
    ap (λ b. b && same_version asked_version version) (number-follows asked name (bytes_eq asked name) refl)
    ∙ (ap (λ b. b && same_version asked_version version) (bytes-turned asked name) ∙ ap (λ b. bytes_eq name asked && b) (version-turned asked_version version))

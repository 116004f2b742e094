-- There are at most two new symbols for each custom section.
use Rattle.std.proofs.Common.{◌≡◌, ◌+◌, ◌*◌, ◌<◌, ◌≤◌, ◌++◌, ◌&&◌, ◌||◌, ℕ, List, [], ◌∷◌, Bool, true, false, Option, Some, None, cond, codes, filter, is_none, length, map, option_map, slice_get, slice_index, refl, subst, arith, suc, eqb, reverse}
use Rattle.std.specs.List.{cons_option}
use Rattle.std.specs.List.Sorted.{IsStrictlyIncreasing}
use Rattle.std.specs.Str.{bytes_eq}
use Rattle.std.proofs.lemmas.Bool.Decides.{Decides-eqb}
use Rattle.std.proofs.lemmas.List.{length-map, length-reverse}
use Rattle.std.proofs.lemmas.Slice.Eq.{bytes_eq-Decides}
use Rattle.link_input.specs.Symbols.{Symbol}
use Rattle.link_rules.specs.Places.{Bytes, is_number}
use Rattle.link_rules.specs.Undefined.{Numbered}
use Rattle.link_resolve_undefined.specs.declared.name_ids.NameIds.{NameIds}
use Rattle.link_resolve_undefined.specs.Boundaries.{is_mark_of, makers_by, makes_new}
use Rattle.link_resolve_undefined.specs.NameIds.{id_in}
use Rattle.link_resolve_undefined.specs.Records.{numbered_at}

-- ids from one on, in rising order
abbrev Rises : ℕ → List ℕ → Type 0
Rises low [] = Unit {0}
Rises low (x ∷ xs) = (low ≤ x) × Rises (x + 1) xs

rises-lower : (low lower : ℕ) (xs : List ℕ) → lower ≤ low → Rises low xs → Rises lower xs
rises-lower low lower [] le rises = tt
rises-lower low lower (x ∷ xs) le rises = (omega (arith, rises.0), rises.1)

rises-behind : (x : ℕ) (xs : List ℕ) → IsStrictlyIncreasing (x ∷ xs) → Rises (x + 1) xs
rises-behind x [] rising = tt
rises-behind x (y ∷ ys) rising =
    let first : x < y = rising 0 (omega arith) in
    (omega (arith, first), rises-behind y ys (λ k below. let e : suc k + 1 ≡ suc (k + 1) = omega arith in subst (λ n. slice_index (y ∷ ys) k < slice_index (x ∷ y ∷ ys) n) e (rising (suc k) (omega (arith, below)))))

rises-from : (xs : List ℕ) → IsStrictlyIncreasing xs → Rises 0 xs
rises-from [] rising = tt
rises-from (x ∷ xs) rising = (omega arith, rises-behind x xs rising)

rises-if : (low s : ℕ) (us : List Numbered) (o : Option Symbol) → low ≤ s → Rises (s + 1) (map (λ (u : Numbered). u.0) us) → Rises low (map (λ (u : Numbered). u.0) (cons_option (option_map (λ x. (s, x)) o) us))
rises-if low s us None le rises = rises-lower (s + 1) low (map (λ (u : Numbered). u.0) us) (omega (arith, le)) rises
rises-if low s us (Some x) le rises = (le, rises)

rises-records : (symbols : List Symbol) (low : ℕ) (ids : List ℕ) → Rises low ids → Rises low (map (λ (u : Numbered). u.0) (numbered_at symbols ids))
rises-records symbols low [] rises = tt
rises-records symbols low (s ∷ ids) rises = rises-if low s (numbered_at symbols ids) (slice_get symbols s) rises.0 (rises-records symbols (s + 1) ids rises.1)

-- what passes one test passes another
fewer-if : (u : Numbered) (ps qs : List Numbered) (a b : Bool) → (a ≡ true → b ≡ true) → length ps ≤ length qs → length (cond a (u ∷ ps) ps) ≤ length (cond b (u ∷ qs) qs)
fewer-if u ps qs true b so le = rw (so refl) (omega (arith, le))
fewer-if u ps qs false true so le = omega (arith, le)
fewer-if u ps qs false false so le = le

fewer : (p q : Numbered → Bool) → ((u : Numbered) → p u ≡ true → q u ≡ true) → (us : List Numbered) → length (filter p us) ≤ length (filter q us)
fewer p q so [] = omega arith
fewer p q so (u ∷ us) = fewer-if u (filter p us) (filter q us) (p u) (q u) (so u) (fewer p q so us)

-- what passes a test passes one of two others
split-if : (u : Numbered) (ps qs rs : List Numbered) (a b c : Bool) → a ≡ b || c → length ps ≤ length qs + length rs
    → length (cond a (u ∷ ps) ps) ≤ length (cond b (u ∷ qs) qs) + length (cond c (u ∷ rs) rs)
split-if u ps qs rs a true true is le = rw is (omega (arith, le))
split-if u ps qs rs a true false is le = rw is (omega (arith, le))
split-if u ps qs rs a false true is le = rw is (omega (arith, le))
split-if u ps qs rs a false false is le = rw is le

split : (p q r : Numbered → Bool) → ((u : Numbered) → p u ≡ q u || r u) → (us : List Numbered) → length (filter p us) ≤ length (filter q us) + length (filter r us)
split p q r is [] = omega arith
split p q r is (u ∷ us) = split-if u (filter p us) (filter q us) (filter r us) (p u) (q u) (r u) (is u) (split p q r is us)

none-if : (t low : ℕ) (u : Numbered) (us : List Numbered) (b : Bool) → eqb t u.0 ≡ b → t < low → low ≤ u.0 → length us ≡ 0 → length (cond b (u ∷ us) us) ≡ 0
none-if t low u us true is below le none = let e : t ≡ u.0 = (Decides-eqb t u.0).0 is in absurd (omega (arith, below, le))
none-if t low u us false is below le none = none

none-below : (t low : ℕ) (us : List Numbered) → t < low → Rises low (map (λ (u : Numbered). u.0) us) → length (filter (λ (u : Numbered). eqb t u.0) us) ≡ 0
none-below t low [] below rises = refl
none-below t low (u ∷ us) below rises =
    none-if t low u (filter (λ (v : Numbered). eqb t v.0) us) (eqb t u.0) refl below rises.0 (none-below t (u.0 + 1) us (omega (arith, below, rises.0)) rises.1)

one-if : (t : ℕ) (u : Numbered) (us : List Numbered) (b : Bool) → eqb t u.0 ≡ b → (t ≡ u.0 → length us ≡ 0) → length us ≤ 1 → length (cond b (u ∷ us) us) ≤ 1
one-if t u us true is none le = omega (arith, none ((Decides-eqb t u.0).0 is))
one-if t u us false is none le = le

one-of : (t low : ℕ) (us : List Numbered) → Rises low (map (λ (u : Numbered). u.0) us) → length (filter (λ (u : Numbered). eqb t u.0) us) ≤ 1
one-of t low [] rises = omega arith
one-of t low (u ∷ us) rises =
    one-if t u (filter (λ (v : Numbered). eqb t v.0) us) (eqb t u.0) refl (λ (e : t ≡ u.0). none-below t (u.0 + 1) us (omega (arith, e)) rises.1) (one-of t (u.0 + 1) us rises.1)

-- at most one has the id that is noted
one-noted : (o : Option ℕ) (low : ℕ) (us : List Numbered) → Rises low (map (λ (u : Numbered). u.0) us) → length (filter (λ (u : Numbered). is_number o u.0) us) ≤ 1
one-noted None low [] rises = omega arith
one-noted None low (u ∷ us) rises = one-noted None (u.0 + 1) us rises.1
one-noted (Some t) low us rises = one-of t low us rises

both : (a b : Bool) → a && b ≡ true → (a ≡ true) × (b ≡ true)
both true b h = (refl, h)
both false b h = absurd (cc)

none-is : (v : Option Bytes) → is_none v ≡ true → v ≡ None
none-is None h = refl
none-is (Some w) h = absurd (cc)

-- it is the last that asks for this name
abbrev is_last_of : NameIds → Bytes → Numbered → Bool
is_last_of last c u = is_none u.1.version && bytes_eq u.1.name c && is_number (id_in last u.1.name u.1.version) u.0

last-is : (last : NameIds) (c : Bytes) (u : Numbered) → is_last_of last c u ≡ true → is_number (id_in last c None) u.0 ≡ true
last-is last c u h =
    let outer = both (is_none u.1.version && bytes_eq u.1.name c) (is_number (id_in last u.1.name u.1.version) u.0) h in
    let inner = both (is_none u.1.version) (bytes_eq u.1.name c) outer.0 in
    let named : is_number (id_in last c u.1.version) u.0 ≡ true = subst (λ (n : Bytes). is_number (id_in last n u.1.version) u.0 ≡ true) ((bytes_eq-Decides u.1.name c).0 inner.1) outer.1 in
    subst (λ (v : Option Bytes). is_number (id_in last c v) u.0 ≡ true) (none-is u.1.version inner.0) named

one-last : (last : NameIds) (c : Bytes) (us : List Numbered) → Rises 0 (map (λ (u : Numbered). u.0) us) → length (filter (is_last_of last c) us) ≤ 1
one-last last c us rises =
    let some = fewer (is_last_of last c) (λ (u : Numbered). is_number (id_in last c None) u.0) (last-is last c) us in
    omega (arith, some, one-noted (id_in last c None) 0 us rises)

parted : (n a m d : Bool) → n && (a || m) && d ≡ (n && a && d) || (n && m && d)
parted false a m d = refl
parted true true m true = refl
parted true true true false = refl
parted true true false false = refl
parted true false m d = refl

never : (n d : Bool) → n && false && d ≡ false
never true d = refl
never false d = refl

none-pass : (p : Numbered → Bool) → ((u : Numbered) → p u ≡ false) → (us : List Numbered) → length (filter p us) ≡ 0
none-pass p fails [] = refl
none-pass p fails (u ∷ us) = rw (fails u) (none-pass p fails us)

few-made : (last : NameIds) (us : List Numbered) → Rises 0 (map (λ (u : Numbered). u.0) us) → (sections : List Bytes)
    → length (filter (λ (u : Numbered). makes_new sections last u.1.name u.1.version u.0) us) ≤ 2 * length sections
few-made last us rises [] =
    let none = none-pass (λ (u : Numbered). makes_new [] last u.1.name u.1.version u.0) (λ u. never (is_none u.1.version) (is_number (id_in last u.1.name u.1.version) u.0)) us in omega (arith, none)
few-made last us rises (s ∷ ss) =
    let start = codes "__start_" ++ s in
    let stop = codes "__stop_" ++ s in
    let marks = λ (u : Numbered). is_none u.1.version && (bytes_eq u.1.name start || bytes_eq u.1.name stop) && is_number (id_in last u.1.name u.1.version) u.0 in
    let all = split (λ (u : Numbered). makes_new (s ∷ ss) last u.1.name u.1.version u.0) marks (λ (u : Numbered). makes_new ss last u.1.name u.1.version u.0)
    (λ u. parted (is_none u.1.version) (bytes_eq u.1.name start || bytes_eq u.1.name stop) (is_mark_of ss u.1.name) (is_number (id_in last u.1.name u.1.version) u.0)) us in
    let two = split marks (is_last_of last start) (is_last_of last stop)
    (λ u. parted (is_none u.1.version) (bytes_eq u.1.name start) (bytes_eq u.1.name stop) (is_number (id_in last u.1.name u.1.version) u.0)) us in
    omega (arith, all, two, one-last last start us rises, one-last last stop us rises, few-made last us rises ss)

-- there are at most two new symbols for each section
pub few-makers : (symbols : List Symbol) (left : List ℕ) (last : NameIds) (sections : List Bytes) → IsStrictlyIncreasing left
    → length (map (λ (u : Numbered). u.0) (makers_by sections last (numbered_at symbols left))) ≤ 2 * length sections
few-makers symbols left last sections rising =
    let records = numbered_at symbols left in
    let made = filter (λ (u : Numbered). makes_new sections last u.1.name u.1.version u.0) records in
    let few = few-made last records (rises-records symbols 0 left (rises-from left rising)) sections in
    omega (arith, few, length-map (reverse made) (λ (u : Numbered). u.0), length-reverse made)

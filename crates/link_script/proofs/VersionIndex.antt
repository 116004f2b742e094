-- The index over versions: where one more is noted, and what is found by it.
use Rattle.std.proofs.Common.{◌≡◌, ℕ, zero, suc, ◌+◌, ◌<◌, ◌≤◌, Bool, true, false, cond, ◌||◌, if◌then◌else◌, List, [], ◌∷◌, ◌++◌, length, Option, Some, None, refl, sym, ap, ◌∙◌, arith}
use Rattle.std.specs.Prelude.{filter, position, slice_get, is_some, min}
use Rattle.std.specs.List.{range_with_len, position_from}
use Rattle.std.specs.Option.{option_or, option_and_then}
use Rattle.std.specs.Str.{bytes_eq}
use Rattle.std.proofs.lemmas.Iterator.Adapters.{position_from-zero}
use Rattle.std.proofs.lemmas.List.{length_push}
use Rattle.std.proofs.lemmas.Option.{same_Some}
use Rattle.std.proofs.lemmas.Slice.Eq.{bytes_eq-Decides}
use Rattle.std.proofs.lemmas.Bool.Decides.{same_from_decides, Decides-like}
use Rattle.link_script.specs.declared.rules.Version.{Version}
use Rattle.link_script.specs.declared.rules.Class.{Class}
use Rattle.link_script.specs.declared.rules.Class.TheVariants.{Exact}
use Rattle.link_script_syntax.specs.declared.body.Side.TheVariants.{Global, Local}
use Rattle.link_script.specs.declared.version_index.VersionIndex.{VersionIndex}
use Rattle.link_script.specs.Filter.{rules_of}
use Rattle.link_script.specs.Lookup.{Asked, name_of}
use Rattle.link_names.specs.Names.{value_in}
use Rattle.link_script.specs.Rules.{exact_fits, plain_fits, cxx_fits, version_has, side_in}
use Rattle.link_script.specs.VersionOf.{is_named, last_named}
use Rattle.link_script.specs.VersionIndex.{lists, first_listing, first_exact, earlier, has_at, numbers_with, IsIndexOf}

-- ---- the first item that passes a test

pub position_as : {X : Type 0} (p : X → Bool) (xs : List X) → position p xs ≡ position_from p 0 xs
position_as p xs = position_from-zero p xs

or_on : (b : Bool) (i : ℕ) (o next : Option ℕ) → cond b (Some i) (option_or o next) ≡ option_or (cond b (Some i) o) next
or_on true i o next = refl
or_on false i o next = refl

only_first : (b : Bool) (i n : ℕ) → i ≡ n → cond b (Some i) None ≡ (if b then Some n else None)
only_first b i n e = ap (λ (k : ℕ). cond b (Some k) None) e

first_more_from : {X : Type 0} (p : X → Bool) (i n : ℕ) (xs : List X) (y : X) → i + length xs ≡ n → position_from p i (xs ++ y ∷ []) ≡ option_or (position_from p i xs) (if p y then Some n else None)
first_more_from p i n [] y e = only_first (p y) i n (omega arith)
first_more_from p i n (x ∷ xs) y e =
    ap (λ (o : Option ℕ). cond (p x) (Some i) o) (first_more_from p (i + 1) n xs y (omega arith)) ∙ or_on (p x) i (position_from p (i + 1) xs) (if p y then Some n else None)

-- after one more item
first_more : {X : Type 0} (p : X → Bool) (n : ℕ) (xs : List X) (y : X) → length xs ≡ n → position p (xs ++ y ∷ []) ≡ option_or (position p xs) (if p y then Some n else None)
first_more p n xs y e =
    position_as p (xs ++ y ∷ []) ∙ first_more_from p 0 n xs y (omega arith) ∙ ap (λ (o : Option ℕ). option_or o (if p y then Some n else None)) (sym (position_as p xs))

-- one more item is noted
pub noted_first : {X : Type 0} (p : X → Bool) (n : ℕ) (xs : List X) (y : X) (old new : Option ℕ) → length xs ≡ n → old ≡ position p xs → new ≡ option_or old (if p y then Some n else None) → new ≡ position p (xs ++ y ∷ [])
noted_first p n xs y old new e was is = is ∙ ap (λ (o : Option ℕ). option_or o (if p y then Some n else None)) was ∙ sym (first_more p n xs y e)

-- ---- items by number, where one more stands behind them

pub in_front : {X : Type 0} (xs : List X) (y : X) (k : ℕ) → k < length xs → slice_get (xs ++ y ∷ []) k ≡ slice_get xs k
in_front [] y k lt = absurd (omega arith)
in_front (x ∷ xs) y zero lt = refl
in_front (x ∷ xs) y (suc k) lt = in_front xs y k (omega arith)

pub at_end : {X : Type 0} (xs : List X) (y : X) → slice_get (xs ++ y ∷ []) (length xs) ≡ Some y
at_end [] y = refl
at_end (x ∷ xs) y = at_end xs y

-- ---- the last version of a name

same_way : (xs ys : List ℕ) → bytes_eq xs ys ≡ bytes_eq ys xs
same_way xs ys = same_from_decides (bytes_eq xs ys) (bytes_eq ys xs) (bytes_eq-Decides xs ys) (Decides-like (bytes_eq ys xs) sym sym (bytes_eq-Decides ys xs))

named_in_front : (versions : List Version) (v : Version) (name : List ℕ) (n : ℕ) → n ≤ length versions → last_named (versions ++ v ∷ []) name n ≡ last_named versions name n
named_in_front versions v name zero le = refl
named_in_front versions v name (suc n) le =
    ap (λ (o : Option Version). if is_named o name then Some n else last_named (versions ++ v ∷ []) name n) (in_front versions v n (omega arith))
    ∙ ap (λ (o : Option ℕ). if is_named (slice_get versions n) name then Some n else o) (named_in_front versions v name n (omega arith))

one_more : {X : Type 0} (xs : List X) (y : X) → length (xs ++ y ∷ []) ≡ suc (length xs)
one_more xs y = omega (arith, length_push xs y)

named_more : (versions : List Version) (v : Version) (name : List ℕ) → last_named (versions ++ v ∷ []) name (suc (length versions)) ≡ (if bytes_eq v.name name then Some (length versions) else last_named versions name (length versions))
named_more versions v name =
    ap (λ (o : Option Version). if is_named o name then Some (length versions) else last_named (versions ++ v ∷ []) name (length versions)) (at_end versions v)
    ∙ ap (λ (o : Option ℕ). if bytes_eq v.name name then Some (length versions) else o) (named_in_front versions v name (length versions) (omega arith))

-- the name of one more version is noted
pub noted_name : (versions : List Version) (v : Version) (name : List ℕ) (n : ℕ) (old new : Option ℕ) → length versions ≡ n
    → old ≡ last_named versions name (length versions) → new ≡ (if bytes_eq name v.name then Some n else old) → new ≡ last_named (versions ++ v ∷ []) name (length (versions ++ v ∷ []))
noted_name versions v name n old new e was is =
    is
    ∙ ap (λ (b : Bool). if b then Some n else old) (same_way name v.name)
    ∙ ap (λ (o : Option ℕ). if bytes_eq v.name name then Some n else o) was
    ∙ ap (λ (k : ℕ). if bytes_eq v.name name then Some k else last_named versions name (length versions)) (sym e)
    ∙ sym (named_more versions v name)
    ∙ ap (last_named (versions ++ v ∷ []) name) (sym (one_more versions v))

named_on : (b : Bool) (n k : ℕ) (o : Option ℕ) → (Some k ≡ o → k < n) → Some k ≡ (if b then Some n else o) → k < suc n
named_on true n k o so e = let same = same_Some k n e in omega arith
named_on false n k o so e = let lt = so e in omega arith

-- the number of a version is below theirs
pub named_within : (versions : List Version) (name : List ℕ) (n k : ℕ) → Some k ≡ last_named versions name n → k < n
named_within versions name zero k e = absurd cc
named_within versions name (suc n) k e = named_on (is_named (slice_get versions n) name) n k (last_named versions name n) (named_within versions name n k) e

-- ---- the versions with a pattern of a class

numbers_same : (p q : ℕ → Bool) (a n : ℕ) → ((k : ℕ) → k < a + n → p k ≡ q k) → filter p (range_with_len a n) ≡ filter q (range_with_len a n)
numbers_same p q a zero same = refl
numbers_same p q a (suc n) same =
    ap (λ (b : Bool). cond b (a ∷ filter p (range_with_len (a + 1) n)) (filter p (range_with_len (a + 1) n))) (same a (omega arith))
    ∙ ap (λ (ns : List ℕ). cond (q a) (a ∷ ns) ns) (numbers_same p q (a + 1) n (λ k lt. same k (omega arith)))

with_front : (b : Bool) (a : ℕ) (front back : List ℕ) → cond b (a ∷ front ++ back) (front ++ back) ≡ cond b (a ∷ front) front ++ back
with_front true a front back = refl
with_front false a front back = refl

numbers_more_from : (p : ℕ → Bool) (a n j : ℕ) → a + n ≡ j → filter p (range_with_len a (suc n)) ≡ filter p (range_with_len a n) ++ (if p j then j ∷ [] else [])
numbers_more_from p a zero j e = let same : a ≡ j = omega arith in ap (λ (k : ℕ). cond (p k) (k ∷ []) []) same
numbers_more_from p a (suc n) j e =
    ap (λ (ns : List ℕ). cond (p a) (a ∷ ns) ns) (numbers_more_from p (a + 1) n j (omega arith))
    ∙ with_front (p a) a (filter p (range_with_len (a + 1) n)) (if p j then j ∷ [] else [])

pub numbers_more : (p : ℕ → Bool) (n : ℕ) → filter p (range_with_len 0 (suc n)) ≡ filter p (range_with_len 0 n) ++ (if p n then n ∷ [] else [])
numbers_more p n = numbers_more_from p 0 n n (omega arith)

with_more : (versions : List Version) (v : Version) (class : Class) → filter (λ (i : ℕ). has_at class (slice_get (versions ++ v ∷ []) i)) (range_with_len 0 (suc (length versions)))
    ≡ numbers_with versions class ++ (if version_has class v then length versions ∷ [] else [])
with_more versions v class =
    numbers_more (λ (i : ℕ). has_at class (slice_get (versions ++ v ∷ []) i)) (length versions)
    ∙ ap (λ (o : Option Version). filter (λ (i : ℕ). has_at class (slice_get (versions ++ v ∷ []) i)) (range_with_len 0 (length versions)) ++ (if has_at class o then length versions ∷ [] else [])) (at_end versions v)
    ∙ ap (λ (ns : List ℕ). ns ++ (if version_has class v then length versions ∷ [] else []))
    (numbers_same (λ (i : ℕ). has_at class (slice_get (versions ++ v ∷ []) i)) (λ (i : ℕ). has_at class (slice_get versions i)) 0 (length versions) (λ k lt. ap (has_at class) (in_front versions v k (omega arith))))

-- the number of one more version is noted
pub noted_number : (versions : List Version) (v : Version) (class : Class) (n : ℕ) (old new : List ℕ) → length versions ≡ n
    → old ≡ numbers_with versions class → new ≡ old ++ (if version_has class v then n ∷ [] else []) → new ≡ numbers_with (versions ++ v ∷ []) class
noted_number versions v class n old new e was is =
    is
    ∙ ap (λ (ns : List ℕ). ns ++ (if version_has class v then n ∷ [] else [])) was
    ∙ ap (λ (k : ℕ). numbers_with versions class ++ (if version_has class v then k ∷ [] else [])) (sym e)
    ∙ sym (with_more versions v class)
    ∙ ap (λ (k : ℕ). filter (λ (i : ℕ). has_at class (slice_get (versions ++ v ∷ []) i)) (range_with_len 0 k)) (sym (one_more versions v))

-- ---- the first exact match, by the names that are listed

earlier_on : (b d : Bool) (i : ℕ) (m n o : Option ℕ) → ((k : ℕ) → m ≡ Some k → i ≤ k) → ((k : ℕ) → n ≡ Some k → i ≤ k) → earlier m n ≡ o → earlier (cond b (Some i) m) (cond d (Some i) n) ≡ cond (b || d) (Some i) o
earlier_on true true i m n o after behind e = let same : min i i ≡ i = omega arith in ap (λ (k : ℕ). Some k) same
earlier_on true false i m None o after behind e = refl
earlier_on true false i m (Some n) o after behind e = let le = behind n refl in let same : min i n ≡ i = omega arith in ap (λ (k : ℕ). Some k) same
earlier_on false true i None n o after behind e = refl
earlier_on false true i (Some m) n o after behind e = let le = after m refl in let same : min m i ≡ i = omega arith in ap (λ (k : ℕ). Some k) same
earlier_on false false i m n o after behind e = e

after_on : (b : Bool) (i k : ℕ) (o : Option ℕ) → (o ≡ Some k → i + 1 ≤ k) → cond b (Some i) o ≡ Some k → i ≤ k
after_on true i k o more e = let same = same_Some i k e in omega arith
after_on false i k o more e = let le = more e in omega arith

pub at_or_after : {X : Type 0} (p : X → Bool) (i k : ℕ) (xs : List X) → position_from p i xs ≡ Some k → i ≤ k
at_or_after p i k [] e = absurd cc
at_or_after p i k (x ∷ xs) e = after_on (p x) i k (position_from p (i + 1) xs) (at_or_after p (i + 1) k xs) e

-- what passes the one test or the other
earlier_from : {X : Type 0} (p q : X → Bool) (i : ℕ) (xs : List X) → earlier (position_from p i xs) (position_from q i xs) ≡ position_from (λ x. p x || q x) i xs
earlier_from p q i [] = refl
earlier_from p q i (x ∷ xs) =
    earlier_on (p x) (q x) i (position_from p (i + 1) xs) (position_from q (i + 1) xs) (position_from (λ y. p y || q y) (i + 1) xs)
    (λ k e. let le = at_or_after p (i + 1) k xs e in omega arith) (λ k e. let le = at_or_after q (i + 1) k xs e in omega arith) (earlier_from p q (i + 1) xs)

first_same : {X : Type 0} (p q : X → Bool) (i : ℕ) (xs : List X) → ((x : X) → p x ≡ q x) → position_from p i xs ≡ position_from q i xs
first_same p q i [] same = refl
first_same p q i (x ∷ xs) same =
    ap (λ (b : Bool). cond b (Some i) (position_from p (i + 1) xs)) (same x) ∙ ap (λ (o : Option ℕ). cond (q x) (Some i) o) (first_same p q (i + 1) xs same)

some_of_four : (b0 b1 b2 b3 : Bool) → is_some (if b0 then Some Global else (if b1 then Some Local else (if b2 then Some Global else (if b3 then Some Local else None)))) ≡ ((b0 || b1) || (b2 || b3))
some_of_four true b1 b2 b3 = refl
some_of_four false true b2 b3 = refl
some_of_four false false true b3 = refl
some_of_four false false false true = refl
some_of_four false false false false = refl

-- the version lists the name that it sees, if there is one
abbrev fits_exactly : Bool → Option (List ℕ) → Version → Bool
fits_exactly cxx name v = exact_fits (rules_of v Global cxx).exact name || exact_fits (rules_of v Local cxx).exact name

none_passes : {X : Type 0} (i : ℕ) (xs : List X) → None ≡ position_from (λ (x : X). false) i xs
none_passes i [] = refl
none_passes i (x ∷ xs) = none_passes (i + 1) xs

number_first : (versions : List Version) (cxx : Bool) (numbers : List (List ℕ × ℕ)) (name : Option (List ℕ)) → ((asked : List ℕ) → value_in numbers asked ≡ first_listing versions cxx asked)
    → option_and_then (value_in numbers) name ≡ position_from (fits_exactly cxx name) 0 versions
number_first versions cxx numbers None is = none_passes 0 versions
number_first versions cxx numbers (Some asked) is = is asked ∙ position_as (lists cxx asked) versions

fits_either : (a : Asked) (v : Version) → (fits_exactly false (name_of a false) v || fits_exactly true (name_of a true) v) ≡ is_some (side_in Exact v a)
fits_either a v = sym (some_of_four (plain_fits v.version_body.globals Exact a) (plain_fits v.version_body.locals Exact a) (cxx_fits v.version_body.globals Exact a) (cxx_fits v.version_body.locals Exact a))

-- the first version of a plain name or of a name of C++
pub exact_first : (versions : List Version) (index : VersionIndex) (a : Asked) → IsIndexOf versions index
    → earlier (option_and_then (value_in index.plain) (name_of a false)) (option_and_then (value_in index.cxx) (name_of a true)) ≡ first_exact versions a
exact_first versions index a is =
    ap (λ (o : Option ℕ). earlier o (option_and_then (value_in index.cxx) (name_of a true))) (number_first versions false index.plain (name_of a false) is.plain)
    ∙ ap (earlier (position_from (fits_exactly false (name_of a false)) 0 versions)) (number_first versions true index.cxx (name_of a true) is.cxx)
    ∙ earlier_from (fits_exactly false (name_of a false)) (fits_exactly true (name_of a true)) 0 versions
    ∙ first_same (λ (v : Version). fits_exactly false (name_of a false) v || fits_exactly true (name_of a true) v) (λ (v : Version). is_some (side_in Exact v a)) 0 versions (fits_either a)
    ∙ sym (position_as (λ (v : Version). is_some (side_in Exact v a)) versions)

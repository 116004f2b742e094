-- A glob that fits a name is found under the key of one of the name's fronts or ends.
use Rattle.std.proofs.Common.{◌⊎◌, inl, inr, ◌≡◌, ◌≤◌, ◌<◌, ◌-◌, ℕ, zero, suc, take, arith, Bool, true, false, ◌&&◌, ◌||◌, if◌then◌else◌, nat_lt, List, [], ◌∷◌, reverse, Option, Some, None, slice_get, refl, sym, ap, ◌∙◌}
use Rattle.std.proofs.lemmas.Bool.{eqb-true, eq-eqb}
use Rattle.link_glob.specs.Glob.{GlobToken, literal, one, any, class, GlobMatches, does_match}
use Rattle.link_glob.specs.GlobList.{last_of, later, fits_name, fits_at}
use Rattle.link_glob.specs.GlobKey.{key_with, front_key, back_key, run_key, run_length, key_of, front_length, back_length, IsFiledWithin, has_front_key, is_under_some, last_under, last_under_some, is_under}
use Rattle.link_glob.proofs.LastOf.{same, either}
use Rattle.link_glob.proofs.Test.{means}
use Rattle.link_glob.proofs.Turned.{turned}

or_right : (a b : Bool) → b ≡ true → (a || b) ≡ true
or_right true b e = refl
or_right false b e = e

-- the first key
at_front : (key : ℕ) (name : List ℕ) (glob : List GlobToken) → key_of glob ≡ key → has_front_key key name (Some glob) ≡ true
at_front key [] glob e = eq-eqb (key_of glob) key e
at_front key (c ∷ name) glob e = rw (eq-eqb (key_of glob) key e) refl

-- the characters that a glob begins with are a front of the name that it fits
pub begins : (glob tokens : List GlobToken) (key bound : ℕ) (name : List ℕ) → GlobMatches tokens name → key_of glob ≡ run_key key tokens → run_length tokens ≤ bound
    → has_front_key key (take bound name) (Some glob) ≡ true
begins glob [] key bound name g e l = at_front key (take bound name) glob e
begins glob (any ∷ tokens) key bound name g e l = at_front key (take bound name) glob e
begins glob (one ∷ tokens) key bound name g e l = at_front key (take bound name) glob e
begins glob (class n ranges ∷ tokens) key bound name g e l = at_front key (take bound name) glob e
begins glob (literal d ∷ tokens) key bound [] g e l = absurd g
begins glob (literal d ∷ tokens) key zero (c ∷ name) g e l = absurd (omega (arith, l))
begins glob (literal d ∷ tokens) key (suc bound) (c ∷ name) g e l =
    let k : c ≡ d = eqb-true c d g.0 in
    or_right _ _ (begins glob tokens (key_with key c) bound name g.1 (e ∙ ap (λ x. run_key (key_with key x) tokens) (sym k)) (omega (arith, l)))

found_on : (front back : ℕ) (glob : List GlobToken) (name : List ℕ) (b : Bool) → key_of glob ≡ (if b then run_key back_key (reverse glob) else run_key front_key glob)
    → (if b then 0 else run_length glob) ≤ front → (if b then run_length (reverse glob) else 0) ≤ back → GlobMatches glob name
    → (has_front_key front_key (take front name) (Some glob) || has_front_key back_key (take back (reverse name)) (Some glob)) ≡ true
found_on front back glob name true e f l g = or_right _ _ (begins glob (reverse glob) back_key back (reverse name) (turned glob name g) e l)
found_on front back glob name false e f l g = rw (begins glob glob front_key front name g e f) refl

key_is : (glob : List GlobToken) → key_of glob ≡ (if nat_lt (run_length glob) (run_length (reverse glob)) then run_key back_key (reverse glob) else run_key front_key glob)
unfolding key_of
key_is glob = refl

front_is : (glob : List GlobToken) (bound : ℕ) → front_length glob ≤ bound → (if nat_lt (run_length glob) (run_length (reverse glob)) then 0 else run_length glob) ≤ bound
unfolding front_length
front_is glob bound l = l

back_is : (glob : List GlobToken) (bound : ℕ) → back_length glob ≤ bound → (if nat_lt (run_length glob) (run_length (reverse glob)) then run_length (reverse glob) else 0) ≤ bound
unfolding back_length
back_is glob bound l = l

fits : (glob : List GlobToken) (name : List ℕ) → does_match glob name ≡ true → GlobMatches glob name
unfolding does_match
fits glob name e = means glob name e

both_on : (a b f : Bool) → (f ≡ true → (a || b) ≡ true) → ((a && f) || (b && f)) ≡ f
both_on true b true h = refl
both_on false b true h = rw (h refl) refl
both_on true true false h = refl
both_on true false false h = refl
both_on false true false h = refl
both_on false false false h = refl

both_at : (front back : ℕ) (name : List ℕ) (glob : Option (List GlobToken)) → IsFiledWithin front back glob
    → ((has_front_key front_key (take front name) glob && fits_name name glob) || (has_front_key back_key (take back (reverse name)) glob && fits_name name glob)) ≡ fits_name name glob
both_at front back name None w = both_on (has_front_key front_key (take front name) None) (has_front_key back_key (take back (reverse name)) None) false (λ e. absurd cc)
both_at front back name (Some glob) w = both_on (has_front_key front_key (take front name) (Some glob)) (has_front_key back_key (take back (reverse name)) (Some glob)) (does_match glob name)
    (λ e. found_on front back glob name (nat_lt (run_length glob) (run_length (reverse glob))) (key_is glob) (front_is glob front w.0) (back_is glob back w.1) (fits glob name e))

-- the last glob that fits has the key of a front or of an end, which is no longer than those that globs are filed by
pub found : (front back : ℕ) (globs : List (List GlobToken)) (name : List ℕ) (n : ℕ) → ((k : ℕ) → k < n → IsFiledWithin front back (slice_get globs k))
    → later (last_under_some globs front_key (take front name) name n) (last_under_some globs back_key (take back (reverse name)) name n) ≡ last_of (fits_at globs name) n
found front back globs name n w =
    either (λ k. is_under_some globs front_key (take front name) k && fits_at globs name k) (λ k. is_under_some globs back_key (take back (reverse name)) k && fits_at globs name k) n
    ∙ same _ _ n (λ k l. both_at front back name (slice_get globs k) (w k l))

some_on : (a b f : Bool) → ((a && f) || (b && f)) ≡ ((a || b) && f)
some_on true true true = refl
some_on true true false = refl
some_on true false true = refl
some_on true false false = refl
some_on false b f = refl

-- one front more is one key more
front_once : (globs : List (List GlobToken)) (key c : ℕ) (text name : List ℕ) (n : ℕ)
    → later (last_under globs key name n) (last_under_some globs (key_with key c) text name n) ≡ last_under_some globs key (c ∷ text) name n
front_once globs key c text name n =
    either (λ k. is_under globs key k && fits_at globs name k) (λ k. is_under_some globs (key_with key c) text k && fits_at globs name k) n
    ∙ same _ _ n (λ k l. some_on (is_under globs key k) (is_under_some globs (key_with key c) text k) (fits_at globs name k))

-- so it is where some characters are left
pub front_more : (globs : List (List GlobToken)) (key c left : ℕ) (text name : List ℕ) (n : ℕ) → 0 < left
    → later (last_under globs key name n) (last_under_some globs (key_with key c) (take (left - 1) text) name n) ≡ last_under_some globs key (take left (c ∷ text)) name n
front_more globs key c zero text name n l = absurd (omega (arith, l))
front_more globs key c (suc left) text name n l = let k : suc left - 1 ≡ left = omega arith in rw k (front_once globs key c (take left text) name n)

none_of : (left : ℕ) → take {A = ℕ} left [] ≡ []
none_of zero = refl
none_of (suc left) = refl

-- where no character is left, the key is the last one that is asked
pub front_ends : (globs : List (List GlobToken)) (key left : ℕ) (text name : List ℕ) (n : ℕ) → text ≡ [] ⊎ left ≡ 0
    → last_under globs key name n ≡ last_under_some globs key (take left text) name n
front_ends globs key left text name n (inl e) = let k = none_of left in rw (e, k) refl
front_ends globs key left text name n (inr e) = rw e refl

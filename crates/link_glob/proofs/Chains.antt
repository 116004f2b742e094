-- Going back from one glob with a key to the one before it.
use Rattle.std.proofs.Common.{◌≡◌, max, subst, ◌<◌, ◌≤◌, ◌==◌, ◌&&◌, le_of_lt, ℕ, zero, suc, Bool, true, false, cond, if◌then◌else◌, nat_eq, List, [], ◌∷◌, ◌++◌, ◌+◌, length, Option, Some, None, slice_get, ◌⊎◌, inl, inr, ⊎_elim, eq-or-lt_of_le, le_of_suc-le-suc, refl, sym, ap, ◌∙◌, arith}
use Rattle.std.specs.HashMap.{get}
use Rattle.std.proofs.lemmas.Bool.{eqb-true}
use Rattle.std.proofs.lemmas.List.{length-append}
use Rattle.std.proofs.lemmas.Option.{slice_get_within}
use Rattle.link_glob.specs.declared.glob_index.GlobIndex.{GlobIndex}
use Rattle.link_glob.specs.Glob.{GlobToken}
use Rattle.link_glob.specs.GlobList.{last_of, fits_at}
use Rattle.link_glob.specs.GlobKey.{IsFiledWithin, IsIndexOf, IsWholeIndexOf, filed, back_length, front_length, key_of, has_key, is_under, last_under}
use Rattle.link_glob.proofs.LastOf.{same, below, passes, chained, none}

-- one more than a number, where there is one
abbrev pub after : Option ℕ → ℕ
after None = zero
after (Some n) = suc n

-- what stands in the front of a list stays there
pub in_front : {A : Type 0} (xs ys : List A) (n : ℕ) → n < length xs → slice_get (xs ++ ys) n ≡ slice_get xs n
in_front [] ys n l = absurd (omega (arith, l))
in_front (x ∷ xs) ys zero l = refl
in_front (x ∷ xs) ys (suc n) l = in_front xs ys n (omega (arith, l))

-- what is added stands behind it
pub at_end : {A : Type 0} (xs : List A) (y : A) → slice_get (xs ++ y ∷ []) (length xs) ≡ Some y
at_end [] y = refl
at_end (x ∷ xs) y = at_end xs y

-- a glob more, which isn't in the index, changes nothing
pub pushed : (globs : List (List GlobToken)) (glob : List GlobToken) (index : GlobIndex) → IsIndexOf globs index → IsIndexOf (globs ++ glob ∷ []) index
pushed globs glob index is = record {
  few = omega (arith, is.few, length-append globs (glob ∷ []));
  last = λ key. is.last key ∙ same (is_under globs key) (is_under (globs ++ glob ∷ []) key) (length index.earlier.items) (λ k l. alike key k (omega (arith, l, is.few)));
  earlier = λ key n l u.
      is.earlier key n l (alike key n (omega (arith, l, is.few)) ∙ u)
      ∙ ap (λ (o : Option ℕ). Some o) (same (is_under globs key) (is_under (globs ++ glob ∷ []) key) n (λ k m. alike key k (omega (arith, l, m, is.few))));
  within = λ n l. subst (IsFiledWithin index.longest_front index.longest_back) (sym (in_front globs (glob ∷ []) n (omega (arith, l, is.few)))) (is.within n l);
}
  where
    alike : (key k : ℕ) → k < length globs → is_under globs key k ≡ is_under (globs ++ glob ∷ []) key k
    alike key k l = ap (has_key key) (sym (in_front globs (glob ∷ []) k l))

-- the key of the glob at a place, if it has it
key_at : (glob : Option (List GlobToken)) (p : List GlobToken) (key : ℕ) → glob ≡ Some p → has_key key glob ≡ true → key_of p ≡ key
key_at None p key e u = absurd cc
key_at (Some g) p key e u = let k : g ≡ p = cc in ap key_of (sym k) ∙ eqb-true (key_of g) key u

last_or : (p : ℕ → Bool) (n : ℕ) (b : Bool) (found : Option ℕ) → p n ≡ b → found ≡ cond b (Some n) (last_of p n) → found ≡ last_of p (suc n)
last_or p n b found is e = rw is e

-- the next glob with its key, and the one before it
pub added : (globs : List (List GlobToken)) (old new : GlobIndex) (glob : List GlobToken) (before : Option ℕ)
    → IsIndexOf globs old → slice_get globs (length old.earlier.items) ≡ Some glob
    → ((key : ℕ) → get nat_eq new.last key ≡ cond (nat_eq (key_of glob) key) (Some (length old.earlier.items)) (get nat_eq old.last key))
    → new.earlier.items ≡ old.earlier.items ++ before ∷ [] → before ≡ get nat_eq old.last (key_of glob)
    → new.longest_front ≡ max old.longest_front (front_length glob) → new.longest_back ≡ max old.longest_back (back_length glob) → IsIndexOf globs new
added globs old new glob before is there last items was front back = record {
  few = omega (arith, slice_get_within globs filed glob there, longer);
  last = λ key. rw longer (last_or (is_under globs key) filed (key_of glob == key) (get nat_eq new.last key) (ap (has_key key) there) (last key ∙ ap (λ (o : Option ℕ). cond (key_of glob == key) (Some filed) o) (is.last key)));
  earlier = λ key n l u. rw items (at_place key n (split n (omega (arith, l, longer))) u);
  within = λ n l. filed_at n (split n (omega (arith, l, longer)));
}
  where
    filed : ℕ
    filed = length old.earlier.items

    longer : length new.earlier.items ≡ suc (length old.earlier.items)
    longer = omega (arith, ap length items, length-append old.earlier.items (before ∷ []))

    split : (n : ℕ) → n < suc (length old.earlier.items) → (n < length old.earlier.items) ⊎ (n ≡ length old.earlier.items)
    split n l = ⊎_elim (λ e. inr e) (λ m. inl m) (eq-or-lt_of_le (le_of_suc-le-suc l))

    at_place : (key n : ℕ) → (n < length old.earlier.items) ⊎ (n ≡ length old.earlier.items) → is_under globs key n ≡ true
        → slice_get (old.earlier.items ++ before ∷ []) n ≡ Some (last_of (is_under globs key) n)
    at_place key n (inl l) u = in_front old.earlier.items (before ∷ []) n l ∙ is.earlier key n l u
    at_place key n (inr e) u = rw e (at_end old.earlier.items before ∙ ap (λ (o : Option ℕ). Some o) (was ∙ is.last (key_of glob) ∙ ap (λ k. last_of (is_under globs k) (length old.earlier.items)) (key_at (slice_get globs n) glob key (rw e there) u)))

    wider : (o : Option (List GlobToken)) → IsFiledWithin old.longest_front old.longest_back o → IsFiledWithin new.longest_front new.longest_back o
    wider None w = tt
    wider (Some g) w = (omega (arith, w.0, front), omega (arith, w.1, back))

    filed_at : (n : ℕ) → (n < length old.earlier.items) ⊎ (n ≡ length old.earlier.items) → IsFiledWithin new.longest_front new.longest_back (slice_get globs n)
    filed_at n (inl l) = wider (slice_get globs n) (is.within n l)
    filed_at n (inr e) = rw (e, there) (omega (arith, front), omega (arith, back))

-- the next glob behind all
pub grown : (globs : List (List GlobToken)) (old new : GlobIndex) (glob : List GlobToken)
    → ((globs : List (List GlobToken)) → IsIndexOf globs old → slice_get globs (filed old) ≡ Some glob → IsIndexOf globs new) → filed new ≡ filed old + 1
    → IsWholeIndexOf globs old → IsWholeIndexOf (globs ++ glob ∷ []) new
grown globs old new glob kept more is = record {
  found = kept (globs ++ glob ∷ []) (pushed globs glob old is.found) (ap (slice_get (globs ++ glob ∷ [])) is.all ∙ at_end globs glob);
  all = omega (arith, more, is.all, length-append globs (glob ∷ []));
}

-- on the way back through the globs with a key, the place is that of the last one before some number, and what is found
-- before that number is what is found in all
abbrev pub Walks : List (List GlobToken) → ℕ → List ℕ → ℕ → Option ℕ → Type 0
Walks globs key name total place = (n : ℕ) × (n ≤ total) × (place ≡ last_of (is_under globs key) n) × (last_under globs key name n ≡ last_under globs key name total)

-- what is known of the place on the way
pub record IsOnWay (globs : List (List GlobToken)) (key : ℕ) (name : List ℕ) (total at : ℕ) : Type 0 where
  pub within : at < total
  pub under : is_under globs key at ≡ true
  pub left : last_under globs key name (suc at) ≡ last_under globs key name total

pub on_way : (globs : List (List GlobToken)) (key : ℕ) (name : List ℕ) (total at : ℕ) (place : Option ℕ) → Walks globs key name total place → place ≡ Some at → IsOnWay globs key name total at
on_way globs key name total at place w e =
    let there : last_of (is_under globs key) w.0 ≡ Some at = sym w.2 ∙ e in
    record {
      within = omega (arith, w.1, below (is_under globs key) w.0 at there);
      under = passes (is_under globs key) w.0 at there;
      left = sym (chained (is_under globs key) (fits_at globs name) w.0 at there) ∙ w.3;
    }

-- at the end nothing is found
pub ended : (globs : List (List GlobToken)) (key : ℕ) (name : List ℕ) (total : ℕ) (place : Option ℕ) → Walks globs key name total place → place ≡ None → None ≡ last_under globs key name total
ended globs key name total place w e = sym (none (is_under globs key) (fits_at globs name) w.0 (sym w.2 ∙ e)) ∙ w.3

-- a glob that fits is what is found
pub taken : (globs : List (List GlobToken)) (key : ℕ) (name : List ℕ) (total at : ℕ) → IsOnWay globs key name total at → fits_at globs name at ≡ true → Some at ≡ last_under globs key name total
taken globs key name total at w fits = step (is_under globs key at) (fits_at globs name at) w.under fits ∙ w.left
  where
    step : (a b : Bool) → a ≡ true → b ≡ true → Some at ≡ (if a && b then Some at else last_under globs key name at)
    step a b e f = rw (e, f) refl

-- past one that doesn't fit the way goes on
pub passed : (globs : List (List GlobToken)) (key : ℕ) (name : List ℕ) (total at : ℕ) → IsOnWay globs key name total at → fits_at globs name at ≡ false → Walks globs key name total (last_of (is_under globs key) at)
passed globs key name total at w no_fit = (at, le_of_lt w.within, refl, step (is_under globs key at) (fits_at globs name at) w.under no_fit ∙ w.left)
  where
    step : (a b : Bool) → a ≡ true → b ≡ false → last_under globs key name at ≡ (if a && b then Some at else last_under globs key name at)
    step a b e f = rw (e, f) refl

pub same_Some : {A : Type 0} {x y : A} → ◌≡◌ {A = Option A} (Some x) (Some y) → x ≡ y
same_Some e = cc

-- the place before it is smaller
pub smaller : (p : ℕ → Bool) (at : ℕ) (next place : Option ℕ) → next ≡ last_of p at → place ≡ Some at → after next < after place
smaller p at None place e is = rw is (omega arith)
smaller p at (Some m) place e is = rw is (omega (arith, below p at m (sym e)))

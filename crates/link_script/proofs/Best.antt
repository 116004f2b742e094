-- The strongest match is the best of all.
use Rattle.std.proofs.Common.{◌≡◌, ℕ, zero, suc, ◌+◌, ◌<◌, ◌≤◌, Bool, true, false, cond, List, [], ◌∷◌, length, Option, Some, None, refl, sym, ap, subst, ◌∙◌, ◌⊎◌, inl, inr, arith}
use Rattle.std.specs.Prelude.{slice_get, ◌||◌, ◌↔◌, IsTrue}
use Rattle.std.specs.Str.{chars}
use Rattle.std.proofs.lemmas.Option.{same_Some, slice_get_within}
use Rattle.std.proofs.lemmas.Bool.{cases_lt}
use Rattle.link_glob.specs.Glob.{GlobToken, does_match}
use Rattle.link_script_syntax.specs.declared.body.Side.{Side}
use Rattle.link_script_syntax.specs.declared.body.Side.TheVariants.{Global, Local}
use Rattle.link_script_syntax.specs.declared.named.RawVersion.{RawVersion}
use Rattle.link_script.specs.declared.rules.BasicMatchRules.{BasicMatchRules}
use Rattle.link_script.specs.declared.rules.Version.{Version}
use Rattle.link_script.specs.declared.rules.Class.{Class}
use Rattle.link_script.specs.declared.rules.Class.TheVariants.{Exact, Nonstar, Star, Every}
use Rattle.link_script.specs.Lookup.{Asked, name_of, text_of}
use Rattle.link_script.specs.Rules.{has_glob, exact_fits, rules_fit, side_in, placed, side_at, first_in, last_in, or_next, best_match}
use Rattle.link_script.specs.Filter.{Filter, name, nonstar, star, every, class_of, HasFilter, rules_of, IsVersion, AreVersions}
use Rattle.link_script.specs.Rank.{Fits, HasFit, Place, filters_of, filters_in, IsMatch, strength, side_order, exact_order, NotAfter, Precedes, IsBest}

or_parts : (a b : Bool) → (a || b) ≡ true → (a ≡ true) ⊎ (b ≡ true)
or_parts true b e = inl refl
or_parts false b e = inr e

or_left : (a b : Bool) → a ≡ true → (a || b) ≡ true
or_left true b p = refl
or_left false b p = absurd cc

or_right : (a b : Bool) → b ≡ true → (a || b) ≡ true
or_right true b p = refl
or_right false b p = p

-- ---- the tests of one list

glob_found : (globs : List (List GlobToken)) (text : List ℕ) → has_glob globs text ≡ true → (k : ℕ) × (p : List GlobToken) × (slice_get globs k ≡ Some p) × (does_match p text ≡ true)
glob_found [] text e = absurd cc
glob_found (g ∷ globs) text e =
    elim (or_parts (does_match g text) (has_glob globs text) e) [
      | inl h ↦ (0, g, refl, h)
      | inr h ↦ let f = glob_found globs text h in (suc f.0, f.1, f.2, f.3)
    ]

glob_is : (globs : List (List GlobToken)) (text : List ℕ) (k : ℕ) (p : List GlobToken) → slice_get globs k ≡ Some p → does_match p text ≡ true → has_glob globs text ≡ true
glob_is [] text k p at m = absurd cc
glob_is (g ∷ globs) text zero p at m = or_left (does_match g text) (has_glob globs text) (let same = same_Some g p at in rw same m)
glob_is (g ∷ globs) text (suc k) p at m = or_right (does_match g text) (has_glob globs text) (glob_is globs text k p at m)

-- ---- the tests of one language's matchers

exact_found : (r : BasicMatchRules) (seen text : Option (List ℕ)) → exact_fits r.exact seen ≡ true → (f : Filter) × (class_of f ≡ Exact) × HasFilter r f × Fits seen text f
exact_found r None text e = absurd cc
exact_found r (Some n) text e = (name n, refl, e, refl)

pub fit_found : (r : BasicMatchRules) (class : Class) (seen text : Option (List ℕ)) → rules_fit r class seen text ≡ true → (f : Filter) × (class_of f ≡ class) × HasFilter r f × Fits seen text f
fit_found r Exact seen text e = exact_found r seen text e
fit_found r Nonstar seen None e = absurd cc
fit_found r Nonstar seen (Some t) e = let f = glob_found r.nonstar_globs.items (chars t) e in (nonstar f.1, refl, (f.0, f.2), (t, refl, f.3))
fit_found r Star seen None e = absurd cc
fit_found r Star seen (Some t) e = let f = glob_found r.star_globs.items (chars t) e in (star f.1, refl, (f.0, f.2), (t, refl, f.3))
fit_found r Every seen text e = (every, refl, e, tt)

pub fit_is : (r : BasicMatchRules) (f : Filter) (seen text : Option (List ℕ)) → HasFilter r f → Fits seen text f → rules_fit r (class_of f) seen text ≡ true
fit_is r (name n) seen text h fits = rw fits h
fit_is r (nonstar p) seen text h fits = rw fits.1 (glob_is r.nonstar_globs.items (chars fits.0) h.0 p h.1 fits.2)
fit_is r (star p) seen text h fits = rw fits.1 (glob_is r.star_globs.items (chars fits.0) h.0 p h.1 fits.2)
fit_is r every seen text h fits = h

-- ---- one version

-- whether a section's matchers of one language have one of this class that fits
abbrev group : Version → Asked → Class → Side → Bool → Bool
group v a class side cxx = rules_fit (rules_of v side cxx) class (name_of a cxx) (text_of a cxx)

-- how a section and language compare with another in one version
abbrev InVersion : Class → Side → Bool → Side → Bool → Type 0
InVersion Exact s c t d = exact_order s c ≤ exact_order t d
InVersion class s c t d = side_order s ≤ side_order t

from_one : (g : Side → Bool → Bool) → g Global false ≡ false → (t : Side) (d : Bool) → g t d ≡ true → 1 ≤ exact_order t d
from_one g e0 Global false h = absurd cc
from_one g e0 Global true h = omega arith
from_one g e0 Local false h = omega arith
from_one g e0 Local true h = omega arith

from_two : (g : Side → Bool → Bool) → g Global false ≡ false → g Local false ≡ false → (t : Side) (d : Bool) → g t d ≡ true → 2 ≤ exact_order t d
from_two g e0 e1 Global false h = absurd cc
from_two g e0 e1 Global true h = omega arith
from_two g e0 e1 Local false h = absurd cc
from_two g e0 e1 Local true h = omega arith

from_three : (g : Side → Bool → Bool) → g Global false ≡ false → g Local false ≡ false → g Global true ≡ false → (t : Side) (d : Bool) → g t d ≡ true → 3 ≤ exact_order t d
from_three g e0 e1 e2 Global false h = absurd cc
from_three g e0 e1 e2 Global true h = absurd cc
from_three g e0 e1 e2 Local false h = absurd cc
from_three g e0 e1 e2 Local true h = omega arith

-- the four groups, for exact names
exact_pick : (g : Side → Bool → Bool) (b0 b1 b2 b3 : Bool) (s : Side) → g Global false ≡ b0 → g Local false ≡ b1 → g Global true ≡ b2 → g Local true ≡ b3
    → cond b0 (Some Global) (cond b1 (Some Local) (cond b2 (Some Global) (cond b3 (Some Local) None))) ≡ Some s
    → (cxx : Bool) × (g s cxx ≡ true) × ((t : Side) (d : Bool) → g t d ≡ true → exact_order s cxx ≤ exact_order t d)
exact_pick g true b1 b2 b3 Global e0 e1 e2 e3 e = (false, e0, λ t d h. omega arith)
exact_pick g true b1 b2 b3 Local e0 e1 e2 e3 e = absurd cc
exact_pick g false true b2 b3 Local e0 e1 e2 e3 e = (false, e1, λ t d h. from_one g e0 t d h)
exact_pick g false true b2 b3 Global e0 e1 e2 e3 e = absurd cc
exact_pick g false false true b3 Global e0 e1 e2 e3 e = (true, e2, λ t d h. from_two g e0 e1 t d h)
exact_pick g false false true b3 Local e0 e1 e2 e3 e = absurd cc
exact_pick g false false false true Local e0 e1 e2 e3 e = (true, e3, λ t d h. from_three g e0 e1 e2 t d h)
exact_pick g false false false true Global e0 e1 e2 e3 e = absurd cc
exact_pick g false false false false s e0 e1 e2 e3 e = absurd cc

none_of_four : (g : Side → Bool → Bool) → g Global false ≡ false → g Local false ≡ false → g Global true ≡ false → g Local true ≡ false → (t : Side) (d : Bool) → g t d ≡ true → ⊥
none_of_four g e0 e1 e2 e3 Global false h = cc
none_of_four g e0 e1 e2 e3 Global true h = cc
none_of_four g e0 e1 e2 e3 Local false h = cc
none_of_four g e0 e1 e2 e3 Local true h = cc

exact_none : (g : Side → Bool → Bool) (b0 b1 b2 b3 : Bool) → g Global false ≡ b0 → g Local false ≡ b1 → g Global true ≡ b2 → g Local true ≡ b3
    → cond b0 (Some Global) (cond b1 (Some Local) (cond b2 (Some Global) (cond b3 (Some Local) None))) ≡ None → (t : Side) (d : Bool) → g t d ≡ true → ⊥
exact_none g true b1 b2 b3 e0 e1 e2 e3 e = absurd cc
exact_none g false true b2 b3 e0 e1 e2 e3 e = absurd cc
exact_none g false false true b3 e0 e1 e2 e3 e = absurd cc
exact_none g false false false true e0 e1 e2 e3 e = absurd cc
exact_none g false false false false e0 e1 e2 e3 e = none_of_four g e0 e1 e2 e3

or_false : (a b : Bool) → (a || b) ≡ false → (a ≡ false) × (b ≡ false)
or_false true b e = absurd cc
or_false false b e = (refl, e)

local_after : (g : Side → Bool → Bool) → (g Global false || g Global true) ≡ false → (t : Side) (d : Bool) → g t d ≡ true → 1 ≤ side_order t
local_after g e Local d h = omega arith
local_after g e Global false h = absurd (let k : g Global false ≡ false = (or_false (g Global false) (g Global true) e).0 in cc)
local_after g e Global true h = absurd (let k : g Global true ≡ false = (or_false (g Global false) (g Global true) e).1 in cc)

either : (g : Side → Bool → Bool) (s : Side) → (g s false || g s true) ≡ true → (cxx : Bool) × (g s cxx ≡ true)
either g s e = elim (or_parts (g s false) (g s true) e) [ inl h ↦ (false, h) | inr h ↦ (true, h) ]

other_pick : (g : Side → Bool → Bool) (b d : Bool) (s : Side) → (g Global false || g Global true) ≡ b → (g Local false || g Local true) ≡ d → cond b (Some Global) (cond d (Some Local) None) ≡ Some s
    → (cxx : Bool) × (g s cxx ≡ true) × ((t : Side) (x : Bool) → g t x ≡ true → side_order s ≤ side_order t)
other_pick g true d Global e0 e1 e = let k = either g Global e0 in (k.0, k.1, λ t x h. omega arith)
other_pick g true d Local e0 e1 e = absurd cc
other_pick g false true Local e0 e1 e = let k = either g Local e1 in (k.0, k.1, λ t x h. local_after g e0 t x h)
other_pick g false true Global e0 e1 e = absurd cc
other_pick g false false s e0 e1 e = absurd cc

other_none : (g : Side → Bool → Bool) (b d : Bool) → (g Global false || g Global true) ≡ b → (g Local false || g Local true) ≡ d → cond b (Some Global) (cond d (Some Local) None) ≡ None → (t : Side) (x : Bool) → g t x ≡ true → ⊥
other_none g true d e0 e1 e = absurd cc
other_none g false true e0 e1 e = absurd cc
other_none g false false e0 e1 e = none_of_four g (or_false _ _ e0).0 (or_false _ _ e1).0 (or_false _ _ e0).1 (or_false _ _ e1).1

side_found : (class : Class) (v : Version) (a : Asked) (s : Side) → side_in class v a ≡ Some s → (cxx : Bool) × (group v a class s cxx ≡ true) × ((t : Side) (d : Bool) → group v a class t d ≡ true → InVersion class s cxx t d)
side_found Exact v a s e = exact_pick (group v a Exact) _ _ _ _ s refl refl refl refl e
side_found Nonstar v a s e = other_pick (group v a Nonstar) _ _ s refl refl e
side_found Star v a s e = other_pick (group v a Star) _ _ s refl refl e
side_found Every v a s e = other_pick (group v a Every) _ _ s refl refl e

side_none : (class : Class) (v : Version) (a : Asked) → side_in class v a ≡ None → (t : Side) (d : Bool) → group v a class t d ≡ true → ⊥
side_none Exact v a e = exact_none (group v a Exact) _ _ _ _ refl refl refl refl e
side_none Nonstar v a e = other_none (group v a Nonstar) _ _ refl refl e
side_none Star v a e = other_none (group v a Star) _ _ refl refl e
side_none Every v a e = other_none (group v a Every) _ _ refl refl e

-- ---- all versions

pair_same : (v w : ℕ) (s t : Side) → ◌≡◌ {A = Option (ℕ × Side)} (Some (v, s)) (Some (w, t)) → (v ≡ w) × (s ≡ t)
pair_same v w s t e = let k = same_Some {A = ℕ × Side} (v, s) (w, t) e in (ap (λ (p : ℕ × Side). p.0) k, ap (λ (p : ℕ × Side). p.1) k)

-- what a pass over the versions found: at version v, and nothing at those that it looked at before
abbrev Found : Class → Asked → List Version → ℕ → Side → (ℕ → Type 0) → Type 0
Found class a versions v s before = (w : Version) × (slice_get versions v ≡ Some w) × (side_in class w a ≡ Some s) × ((j : ℕ) (u : Version) → before j → slice_get versions j ≡ Some u → side_in class u a ≡ None)

none_at : (class : Class) (a : Asked) (x u : Version) → side_in class x a ≡ None → Some x ≡ Some u → side_in class u a ≡ None
none_at class a x u e same = subst (λ (w : Version). side_in class w a ≡ None) (same_Some x u same) e

abbrev FirstFound : Class → Asked → ℕ → List Version → ℕ → Side → Type 0
FirstFound class a n versions v s = (k : ℕ) × (v ≡ n + k) × Found class a versions k s (λ j. j < k)

shift_before : (class : Class) (a : Asked) (x : Version) (versions : List Version) (k : ℕ) → side_in class x a ≡ None → ((j : ℕ) (u : Version) → j < k → slice_get versions j ≡ Some u → side_in class u a ≡ None)
    → (j : ℕ) (u : Version) → j < suc k → slice_get (x ∷ versions) j ≡ Some u → side_in class u a ≡ None
shift_before class a x versions k e so zero u lt at = none_at class a x u e at
shift_before class a x versions k e so (suc j) u lt at = so j u (omega arith) at

first_on : (class : Class) (a : Asked) (n : ℕ) (x : Version) (versions : List Version) (v : ℕ) (s : Side) (o : Option Side) → side_in class x a ≡ o
    → (first_in class a (suc n) versions ≡ Some (v, s) → FirstFound class a (suc n) versions v s)
    → placed n o (first_in class a (suc n) versions) ≡ Some (v, s) → FirstFound class a n (x ∷ versions) v s
first_on class a n x versions v s None is so e =
    let f = so e in
    (suc f.0, omega (arith, f.1), (f.2.0, f.2.1, f.2.2, shift_before class a x versions f.0 is f.2.3))
first_on class a n x versions v s (Some t) is so e =
    let k = pair_same n v t s e in
    (0, omega (arith, k.0), (x, refl, is ∙ ap (λ (y : Side). Some y) k.1, λ j u lt at. absurd (omega arith)))

first_found : (class : Class) (a : Asked) (n : ℕ) (versions : List Version) (v : ℕ) (s : Side) → first_in class a n versions ≡ Some (v, s) → FirstFound class a n versions v s
first_found class a n [] v s e = absurd cc
first_found class a n (x ∷ versions) v s e = first_on class a n x versions v s (side_in class x a) refl (first_found class a (suc n) versions v s) e

first_none_on : (class : Class) (a : Asked) (n : ℕ) (x : Version) (versions : List Version) (o : Option Side) → side_in class x a ≡ o
    → (first_in class a (suc n) versions ≡ None → (j : ℕ) (u : Version) → slice_get versions j ≡ Some u → side_in class u a ≡ None)
    → placed n o (first_in class a (suc n) versions) ≡ None → (j : ℕ) (u : Version) → slice_get (x ∷ versions) j ≡ Some u → side_in class u a ≡ None
first_none_on class a n x versions None is so e zero u at = none_at class a x u is at
first_none_on class a n x versions None is so e (suc j) u at = so e j u at
first_none_on class a n x versions (Some t) is so e j u at = absurd cc

first_none : (class : Class) (a : Asked) (n : ℕ) (versions : List Version) → first_in class a n versions ≡ None → (j : ℕ) (u : Version) → slice_get versions j ≡ Some u → side_in class u a ≡ None
first_none class a n [] e j u at = absurd cc
first_none class a n (x ∷ versions) e j u at = first_none_on class a n x versions (side_in class x a) refl (first_none class a (suc n) versions) e j u at

abbrev LastFound : Class → Asked → List Version → ℕ → ℕ → Side → Type 0
LastFound class a versions n v s = (v < n) × Found class a versions v s (λ j. (v < j) × (j < n))

side_at_some : (class : Class) (a : Asked) (o : Option Version) (s : Side) → side_at class a o ≡ Some s → (w : Version) × (o ≡ Some w) × (side_in class w a ≡ Some s)
side_at_some class a None s e = absurd cc
side_at_some class a (Some w) s e = (w, refl, e)

side_at_none : (class : Class) (a : Asked) (o : Option Version) (u : Version) → side_at class a o ≡ None → o ≡ Some u → side_in class u a ≡ None
side_at_none class a None u e at = absurd cc
side_at_none class a (Some w) u e at = none_at class a w u e at

last_before : (class : Class) (a : Asked) (versions : List Version) (n v j : ℕ) (u : Version) → side_at class a (slice_get versions n) ≡ None → ((j : ℕ) (u : Version) → (v < j) × (j < n) → slice_get versions j ≡ Some u → side_in class u a ≡ None)
    → (v < j) × (j < suc n) → slice_get versions j ≡ Some u → side_in class u a ≡ None
last_before class a versions n v j u is so b at =
    elim (cases_lt j n) [
      | inl less ↦ so j u (b.0, less) at
      | inr le ↦ let lt = b.1 in let same : j ≡ n = omega arith in side_at_none class a (slice_get versions n) u is (ap (slice_get versions) (sym same) ∙ at)
    ]

last_on : (class : Class) (a : Asked) (versions : List Version) (n v : ℕ) (s : Side) (o : Option Side) → side_at class a (slice_get versions n) ≡ o
    → (last_in class a versions n ≡ Some (v, s) → LastFound class a versions n v s)
    → placed n o (last_in class a versions n) ≡ Some (v, s) → LastFound class a versions (suc n) v s
last_on class a versions n v s None is so e =
    let f = so e in
    let lt = f.0 in
    (omega arith, (f.1.0, f.1.1, f.1.2, λ j u b at. last_before class a versions n v j u is f.1.3 b at))
last_on class a versions n v s (Some t) is so e =
    let k = pair_same n v t s e in
    let w = side_at_some class a (slice_get versions n) t is in
    let here = k.0 in
    (omega arith, (w.0, ap (slice_get versions) (sym k.0) ∙ w.1, w.2 ∙ ap (λ (y : Side). Some y) k.1, λ j u b at. absurd (let p = b.0 in let q = b.1 in omega arith)))

last_found : (class : Class) (a : Asked) (versions : List Version) (n v : ℕ) (s : Side) → last_in class a versions n ≡ Some (v, s) → LastFound class a versions n v s
last_found class a versions zero v s e = absurd cc
last_found class a versions (suc n) v s e = last_on class a versions n v s (side_at class a (slice_get versions n)) refl (last_found class a versions n v s) e

last_none_on : (class : Class) (a : Asked) (versions : List Version) (n : ℕ) (o : Option Side) → side_at class a (slice_get versions n) ≡ o
    → (last_in class a versions n ≡ None → (j : ℕ) (u : Version) → j < n → slice_get versions j ≡ Some u → side_in class u a ≡ None)
    → placed n o (last_in class a versions n) ≡ None → (j : ℕ) (u : Version) → j < suc n → slice_get versions j ≡ Some u → side_in class u a ≡ None
last_none_on class a versions n None is so e j u lt at =
    elim (cases_lt j n) [
      | inl less ↦ so e j u less at
      | inr le ↦ let same : j ≡ n = omega arith in side_at_none class a (slice_get versions n) u is (ap (slice_get versions) (sym same) ∙ at)
    ]
last_none_on class a versions n (Some t) is so e j u lt at = absurd cc

last_none : (class : Class) (a : Asked) (versions : List Version) (n : ℕ) → last_in class a versions n ≡ None → (j : ℕ) (u : Version) → j < n → slice_get versions j ≡ Some u → side_in class u a ≡ None
last_none class a versions zero e j u lt at = absurd (omega arith)
last_none class a versions (suc n) e j u lt at = last_none_on class a versions n (side_at class a (slice_get versions n)) refl (last_none class a versions n) e j u lt at

-- ---- the best of all

-- no version has a match of this class
abbrev Without : Class → Asked → List Version → Type 0
Without class a versions = (j : ℕ) (u : Version) → slice_get versions j ≡ Some u → side_in class u a ≡ None

last_without : (class : Class) (a : Asked) (versions : List Version) → last_in class a versions (length versions) ≡ None → Without class a versions
last_without class a versions e j u at = last_none class a versions (length versions) e j u (slice_get_within versions j u at) at

match_group : (versions : List Version) (a : Asked) (p : Place) (m : IsMatch (filters_of versions) a p) → group m.there.0 a p.class p.side p.cxx ≡ true
match_group versions a p m = subst (λ (c : Class). group m.there.0 a c p.side p.cxx ≡ true) m.class (fit_is (rules_of m.there.0 p.side p.cxx) m.filter (name_of a p.cxx) (text_of a p.cxx) m.there.2 m.fits)

group_match : (versions : List Version) (a : Asked) (p : Place) (w : Version) → slice_get versions p.version ≡ Some w → group w a p.class p.side p.cxx ≡ true → IsMatch (filters_of versions) a p
group_match versions a p w at g =
    let f = fit_found (rules_of w p.side p.cxx) p.class (name_of a p.cxx) (text_of a p.cxx) g in
    record { filter = f.0; class = f.1; there = (w, at, f.2); fits = f.3 }

-- a match of a class that no version has
match_without : (versions : List Version) (a : Asked) (p : Place) → Without p.class a versions → IsMatch (filters_of versions) a p → ⊥
match_without versions a p none m = side_none p.class m.there.0 a (none p.version m.there.0 m.there.1) p.side p.cxx (match_group versions a p m)

without_at : (versions : List Version) (a : Asked) (p : Place) (class : Class) → p.class ≡ class → Without class a versions → IsMatch (filters_of versions) a p → ⊥
without_at versions a p class e none m = match_without versions a p (subst (λ (c : Class). Without c a versions) (sym e) none) m

nothing_on : (versions : List Version) (a : Asked) (p : Place) (class : Class) → p.class ≡ class → Without Exact a versions → Without Nonstar a versions → Without Star a versions → Without Every a versions → IsMatch (filters_of versions) a p → ⊥
nothing_on versions a p Exact e n0 n1 n2 n3 m = without_at versions a p Exact e n0 m
nothing_on versions a p Nonstar e n0 n1 n2 n3 m = without_at versions a p Nonstar e n1 m
nothing_on versions a p Star e n0 n1 n2 n3 m = without_at versions a p Star e n2 m
nothing_on versions a p Every e n0 n1 n2 n3 m = without_at versions a p Every e n3 m

-- the classes by number
class_same : (c d : Class) → strength c ≡ strength d → c ≡ d
class_same Exact Exact e = refl
class_same Nonstar Nonstar e = refl
class_same Star Star e = refl
class_same Every Every e = refl
class_same Exact Nonstar e = absurd (omega arith)
class_same Exact Star e = absurd (omega arith)
class_same Exact Every e = absurd (omega arith)
class_same Nonstar Exact e = absurd (omega arith)
class_same Nonstar Star e = absurd (omega arith)
class_same Nonstar Every e = absurd (omega arith)
class_same Star Exact e = absurd (omega arith)
class_same Star Nonstar e = absurd (omega arith)
class_same Star Every e = absurd (omega arith)
class_same Every Exact e = absurd (omega arith)
class_same Every Nonstar e = absurd (omega arith)
class_same Every Star e = absurd (omega arith)

precedes_by : (p q : Place) → (strength q.class < strength p.class → ⊥) → (q.class ≡ p.class → NotAfter p.class p q) → Precedes p q
precedes_by p q weaker within =
    elim (cases_lt (strength p.class) (strength q.class)) [
      | inl less ↦ inl less
      | inr le ↦ elim (cases_lt (strength q.class) (strength p.class)) [
        | inl more ↦ absurd (weaker more)
        | inr ge ↦ let same : p.class ≡ q.class = class_same p.class q.class (omega arith) in inr (same, within (sym same))
      ]
    ]

-- a place with a version and a class of its own
abbrev at_place : ℕ → Side → Bool → Class → Place
at_place v s c class = record { version = v; side = s; cxx = c; class = class }

-- in the version that was found, its own match comes first
exact_within : (versions : List Version) (a : Asked) (v : ℕ) (s : Side) (c : Bool) (w : Version) (q : Place) → slice_get versions v ≡ Some w
    → ((t : Side) (d : Bool) → group w a Exact t d ≡ true → exact_order s c ≤ exact_order t d)
    → ((j : ℕ) (u : Version) → j < v → slice_get versions j ≡ Some u → side_in Exact u a ≡ None)
    → IsMatch (filters_of versions) a q → q.class ≡ Exact → NotAfter Exact (at_place v s c Exact) q
exact_within versions a v s c w q there least before m is =
    let g : group m.there.0 a Exact q.side q.cxx ≡ true = subst (λ (k : Class). group m.there.0 a k q.side q.cxx ≡ true) is (match_group versions a q m) in
    elim (cases_lt v q.version) [
      | inl less ↦ inl less
      | inr le ↦ elim (cases_lt q.version v) [
        | inl earlier ↦ absurd (side_none Exact m.there.0 a (before q.version m.there.0 earlier m.there.1) q.side q.cxx g)
        | inr ge ↦ let same : v ≡ q.version = omega arith in
            let one : w ≡ m.there.0 = same_Some w m.there.0 (sym there ∙ ap (slice_get versions) same ∙ m.there.1) in
            inr (same, least q.side q.cxx (subst (λ (u : Version). group u a Exact q.side q.cxx ≡ true) (sym one) g))
      ]
    ]

-- the same for a class whose last version counts
abbrev LastWithin : Class → List Version → Asked → Place → Place → Type 0
LastWithin class versions a p q = (q.version < p.version) ⊎ ((p.version ≡ q.version) × (side_order p.side ≤ side_order q.side))

last_within : (class : Class) (versions : List Version) (a : Asked) (v : ℕ) (s : Side) (c : Bool) (w : Version) (q : Place) → slice_get versions v ≡ Some w
    → ((t : Side) (d : Bool) → group w a class t d ≡ true → side_order s ≤ side_order t)
    → ((j : ℕ) (u : Version) → (v < j) × (j < length versions) → slice_get versions j ≡ Some u → side_in class u a ≡ None)
    → IsMatch (filters_of versions) a q → q.class ≡ class → LastWithin class versions a (at_place v s c class) q
last_within class versions a v s c w q there least after m is =
    let g : group m.there.0 a class q.side q.cxx ≡ true = subst (λ (k : Class). group m.there.0 a k q.side q.cxx ≡ true) is (match_group versions a q m) in
    let short = slice_get_within versions q.version m.there.0 m.there.1 in
    elim (cases_lt q.version v) [
      | inl less ↦ inl less
      | inr le ↦ elim (cases_lt v q.version) [
        | inl later ↦ absurd (side_none class m.there.0 a (after q.version m.there.0 (later, short) m.there.1) q.side q.cxx g)
        | inr ge ↦ let same : v ≡ q.version = omega arith in
            let one : w ≡ m.there.0 = same_Some w m.there.0 (sym there ∙ ap (slice_get versions) same ∙ m.there.1) in
            inr (same, least q.side q.cxx (subst (λ (u : Version). group u a class q.side q.cxx ≡ true) (sym one) g))
      ]
    ]

exact_best : (versions : List Version) (a : Asked) (v : ℕ) (s : Side) → first_in Exact a 0 versions ≡ Some (v, s) → IsBest (filters_of versions) a (Some (v, s))
exact_best versions a v s e =
    let f = first_found Exact a 0 versions v s e in
    let same : v ≡ f.0 = omega (arith, f.1) in
    let at : slice_get versions v ≡ Some f.2.0 = ap (slice_get versions) same ∙ f.2.1 in
    let g = side_found Exact f.2.0 a s f.2.2 in
    let p = at_place v s g.0 Exact in
    (p, group_match versions a p f.2.0 at g.1, (refl, refl), λ q m. precedes_by p q (λ lt. absurd (omega arith)) (λ is. exact_within versions a v s g.0 f.2.0 q at g.2 (λ j u less there. f.2.3 j u (omega arith) there) m is))

-- no match is stronger
abbrev NoneStronger : Class → Asked → List Version → Type 0
NoneStronger class a versions = (d : Class) → strength d < strength class → Without d a versions

stronger_out : (class : Class) (versions : List Version) (a : Asked) (q : Place) → NoneStronger class a versions → IsMatch (filters_of versions) a q → strength q.class < strength class → ⊥
stronger_out class versions a q none m lt = match_without versions a q (none q.class lt) m

nonstar_best : (versions : List Version) (a : Asked) (v : ℕ) (s : Side) → NoneStronger Nonstar a versions → last_in Nonstar a versions (length versions) ≡ Some (v, s) → IsBest (filters_of versions) a (Some (v, s))
nonstar_best versions a v s none e =
    let f = last_found Nonstar a versions (length versions) v s e in
    let g = side_found Nonstar f.1.0 a s f.1.2 in
    let p = at_place v s g.0 Nonstar in
    (p, group_match versions a p f.1.0 f.1.1 g.1, (refl, refl), λ q m. precedes_by p q (stronger_out Nonstar versions a q none m) (λ is. last_within Nonstar versions a v s g.0 f.1.0 q f.1.1 g.2 f.1.3 m is))

star_best : (versions : List Version) (a : Asked) (v : ℕ) (s : Side) → NoneStronger Star a versions → last_in Star a versions (length versions) ≡ Some (v, s) → IsBest (filters_of versions) a (Some (v, s))
star_best versions a v s none e =
    let f = last_found Star a versions (length versions) v s e in
    let g = side_found Star f.1.0 a s f.1.2 in
    let p = at_place v s g.0 Star in
    (p, group_match versions a p f.1.0 f.1.1 g.1, (refl, refl), λ q m. precedes_by p q (stronger_out Star versions a q none m) (λ is. last_within Star versions a v s g.0 f.1.0 q f.1.1 g.2 f.1.3 m is))

every_best : (versions : List Version) (a : Asked) (v : ℕ) (s : Side) → NoneStronger Every a versions → last_in Every a versions (length versions) ≡ Some (v, s) → IsBest (filters_of versions) a (Some (v, s))
every_best versions a v s none e =
    let f = last_found Every a versions (length versions) v s e in
    let g = side_found Every f.1.0 a s f.1.2 in
    let p = at_place v s g.0 Every in
    (p, group_match versions a p f.1.0 f.1.1 g.1, (refl, refl), λ q m. precedes_by p q (stronger_out Every versions a q none m) (λ is. last_within Every versions a v s g.0 f.1.0 q f.1.1 g.2 f.1.3 m is))

over_nonstar : (a : Asked) (versions : List Version) → Without Exact a versions → NoneStronger Nonstar a versions
over_nonstar a versions n0 Exact lt = n0
over_nonstar a versions n0 Nonstar lt = absurd (omega arith)
over_nonstar a versions n0 Star lt = absurd (omega arith)
over_nonstar a versions n0 Every lt = absurd (omega arith)

over_star : (a : Asked) (versions : List Version) → Without Exact a versions → Without Nonstar a versions → NoneStronger Star a versions
over_star a versions n0 n1 Exact lt = n0
over_star a versions n0 n1 Nonstar lt = n1
over_star a versions n0 n1 Star lt = absurd (omega arith)
over_star a versions n0 n1 Every lt = absurd (omega arith)

over_every : (a : Asked) (versions : List Version) → Without Exact a versions → Without Nonstar a versions → Without Star a versions → NoneStronger Every a versions
over_every a versions n0 n1 n2 Exact lt = n0
over_every a versions n0 n1 n2 Nonstar lt = n1
over_every a versions n0 n1 n2 Star lt = n2
over_every a versions n0 n1 n2 Every lt = absurd (omega arith)

-- the four passes, one after the other
best_by : (versions : List Version) (a : Asked) (r0 r1 r2 r3 : Option (ℕ × Side)) → first_in Exact a 0 versions ≡ r0 → last_in Nonstar a versions (length versions) ≡ r1 → last_in Star a versions (length versions) ≡ r2 → last_in Every a versions (length versions) ≡ r3
    → IsBest (filters_of versions) a (or_next r0 (or_next r1 (or_next r2 r3)))
best_by versions a (Some x) r1 r2 r3 e0 e1 e2 e3 = exact_best versions a x.0 x.1 e0
best_by versions a None (Some x) r2 r3 e0 e1 e2 e3 = nonstar_best versions a x.0 x.1 (over_nonstar a versions (first_none Exact a 0 versions e0)) e1
best_by versions a None None (Some x) r3 e0 e1 e2 e3 = star_best versions a x.0 x.1 (over_star a versions (first_none Exact a 0 versions e0) (last_without Nonstar a versions e1)) e2
best_by versions a None None None (Some x) e0 e1 e2 e3 = every_best versions a x.0 x.1 (over_every a versions (first_none Exact a 0 versions e0) (last_without Nonstar a versions e1) (last_without Star a versions e2)) e3
best_by versions a None None None None e0 e1 e2 e3 = λ p m. nothing_on versions a p p.class refl (first_none Exact a 0 versions e0) (last_without Nonstar a versions e1) (last_without Star a versions e2) (last_without Every a versions e3) m

pub is_best : (versions : List Version) (a : Asked) → IsBest (filters_of versions) a (best_match versions a)
unfolding best_match
is_best versions a = best_by versions a _ _ _ _ refl refl refl refl

-- ---- the filters of the text

version_at : (raws : List RawVersion) (versions : List Version) (n : ℕ) (raw : RawVersion) → AreVersions raws versions → slice_get raws n ≡ Some raw → (v : Version) × (slice_get versions n ≡ Some v) × IsVersion raw v
version_at [] [] n raw are at = absurd cc
version_at [] (v ∷ versions) n raw are at = absurd are
version_at (r ∷ raws) [] n raw are at = absurd are
version_at (r ∷ raws) (v ∷ versions) zero raw are at = (v, refl, subst (λ (x : RawVersion). IsVersion x v) (same_Some r raw at) are.0)
version_at (r ∷ raws) (v ∷ versions) (suc n) raw are at = version_at raws versions n raw are.1 at

raw_at : (raws : List RawVersion) (versions : List Version) (n : ℕ) (v : Version) → AreVersions raws versions → slice_get versions n ≡ Some v → (raw : RawVersion) × (slice_get raws n ≡ Some raw) × IsVersion raw v
raw_at [] [] n v are at = absurd cc
raw_at [] (w ∷ versions) n v are at = absurd are
raw_at (r ∷ raws) [] n v are at = absurd are
raw_at (r ∷ raws) (w ∷ versions) zero v are at = (r, refl, subst (λ (x : Version). IsVersion r x) (same_Some w v at) are.0)
raw_at (r ∷ raws) (w ∷ versions) (suc n) v are at = raw_at raws versions n v are.1 at

to_text : (raws : List RawVersion) (versions : List Version) → AreVersions raws versions → (n : ℕ) (side : Side) (cxx : Bool) (f : Filter) → filters_of versions n side cxx f → filters_in raws n side cxx f
to_text raws versions are n side cxx f h = let r = raw_at raws versions n h.0 are h.1 in (r.0, r.1, (r.2.body side cxx f).0 h.2)

from_text : (raws : List RawVersion) (versions : List Version) → AreVersions raws versions → (n : ℕ) (side : Side) (cxx : Bool) (f : Filter) → filters_in raws n side cxx f → filters_of versions n side cxx f
from_text raws versions are n side cxx f h = let v = version_at raws versions n h.0 are h.1 in (v.0, v.1, (v.2.body side cxx f).1 h.2)

carried : (h k : ℕ → Side → Bool → Filter → Type 0) (a : Asked) (p : Place) → ((n : ℕ) (side : Side) (cxx : Bool) (f : Filter) → h n side cxx f → k n side cxx f) → IsMatch h a p → IsMatch k a p
carried h k a p to m = record { filter = m.filter; class = m.class; there = to p.version p.side p.cxx m.filter m.there; fits = m.fits }

best_carried : (h k : ℕ → Side → Bool → Filter → Type 0) (a : Asked) (r : Option (ℕ × Side)) → ((n : ℕ) (side : Side) (cxx : Bool) (f : Filter) → h n side cxx f → k n side cxx f) → ((n : ℕ) (side : Side) (cxx : Bool) (f : Filter) → k n side cxx f → h n side cxx f) → IsBest h a r → IsBest k a r
best_carried h k a None to from best = λ p m. best p (carried k h a p from m)
best_carried h k a (Some x) to from best = (best.0, carried h k a best.0 to best.1, best.2, λ q m. best.3 q (carried k h a q from m))

pub best_of_text : (raws : List RawVersion) (versions : List Version) (a : Asked) (r : Option (ℕ × Side)) → AreVersions raws versions → IsBest (filters_of versions) a r → IsBest (filters_in raws) a r
best_of_text raws versions a r are best = best_carried (filters_of versions) (filters_in raws) a r (to_text raws versions are) (from_text raws versions are) best

-- a class fits exactly where a filter of it does
pub fit_iff : (r : BasicMatchRules) (class : Class) (a : Asked) (cxx : Bool) → IsTrue (rules_fit r class (name_of a cxx) (text_of a cxx)) ↔ HasFit r class a cxx
fit_iff r class a cxx = (
  λ e. fit_found r class (name_of a cxx) (text_of a cxx) e,
  λ f. subst (λ (k : Class). rules_fit r k (name_of a cxx) (text_of a cxx) ≡ true) f.1 (fit_is r f.0 (name_of a cxx) (text_of a cxx) f.2 f.3),
)

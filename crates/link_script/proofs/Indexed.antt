-- The passes over the versions, by the numbers that the index has.
use Rattle.std.proofs.Common.{◌≡◌, ℕ, zero, suc, ◌+◌, ◌<◌, Bool, true, false, cond, ◌||◌, List, [], ◌∷◌, ◌++◌, length, get_or, Option, Some, None, refl, sym, ap, subst, ◌∙◌, arith, add-one}
use Rattle.std.specs.Prelude.{All, filter, reverse, slice_get, is_some, not, ◌==◌, if◌then◌else◌}
use Rattle.std.specs.List.{range_with_len, position_from}
use Rattle.std.proofs.lemmas.Bool.{eqb-true}
use Rattle.std.proofs.lemmas.List.{append-nil, get_or_append_left, get_or_push, length_push, nil_from_length, reverse-append}
use Rattle.std.proofs.lemmas.List.Elements.{All-weaker, filter_passes}
use Rattle.std.proofs.lemmas.Option.{same_Some, slice_get_read, slice_get_within}
use Rattle.std.proofs.lemmas.List.Quantifiers.{position-Some}
use Rattle.link_script_syntax.specs.declared.body.Side.{Side}
use Rattle.link_script_syntax.specs.declared.body.Side.TheVariants.{Global, Local}
use Rattle.link_script.specs.declared.rules.BasicMatchRules.{BasicMatchRules}
use Rattle.link_script.specs.declared.rules.Version.{Version}
use Rattle.link_script.specs.declared.rules.Class.{Class}
use Rattle.link_script.specs.declared.rules.Class.TheVariants.{Exact, Nonstar, Star, Every}
use Rattle.link_script.specs.Lookup.{Asked}
use Rattle.link_script.specs.Rules.{exact_fits, glob_fits, plain_fits, cxx_fits, rules_fit, rules_have, version_has, side_in, placed, side_at, first_in, last_in}
use Rattle.link_script.specs.VersionIndex.{first_exact, has_at, numbers_with}
use Rattle.link_script.proofs.VersionIndex.{position_as, at_or_after, numbers_more}

-- ---- the first match, by its number

-- where the versions have a match of this class
abbrev matched_from : Class → Asked → ℕ → List Version → Option ℕ
matched_from class a i versions = position_from (λ (v : Version). is_some (side_in class v a)) i versions

none_on : (class : Class) (a : Asked) (i : ℕ) (versions : List Version) (o : Option Side) → (matched_from class a (i + 1) versions ≡ None → first_in class a (i + 1) versions ≡ None)
    → cond (is_some o) (Some i) (matched_from class a (i + 1) versions) ≡ None → placed i o (first_in class a (suc i) versions) ≡ None
none_on class a i versions None so e = ap (λ (n : ℕ). first_in class a n versions) (sym (add-one i)) ∙ so e
none_on class a i versions (Some s) so e = absurd cc

first_none : (class : Class) (a : Asked) (i : ℕ) (versions : List Version) → matched_from class a i versions ≡ None → first_in class a i versions ≡ None
first_none class a i [] e = refl
first_none class a i (v ∷ versions) e = none_on class a i versions (side_in class v a) (first_none class a (i + 1) versions) e

at_on : (class : Class) (a : Asked) (i k j : ℕ) (x v : Version) (versions : List Version) (o : Option Side) → side_in class x a ≡ o
    → ((j : ℕ) → (i + 1) + j ≡ k → matched_from class a (i + 1) versions ≡ Some k → slice_get versions j ≡ Some v → first_in class a (i + 1) versions ≡ placed k (side_in class v a) None)
    → i + j ≡ k → cond (is_some o) (Some i) (matched_from class a (i + 1) versions) ≡ Some k → slice_get (x ∷ versions) j ≡ Some v
    → placed i o (first_in class a (suc i) versions) ≡ placed k (side_in class v a) None
at_on class a i k zero x v versions (Some s) is so at e there =
    let here : side_in class v a ≡ Some s = ap (λ (w : Version). side_in class w a) (sym (same_Some x v there)) ∙ is in
    let same : i ≡ k = same_Some i k e in
    ap (λ (n : ℕ). placed n (Some s) None) same ∙ ap (λ (t : Option Side). placed k t None) (sym here)
at_on class a i k (suc j) x v versions (Some s) is so at e there = let same : i ≡ k = same_Some i k e in absurd (omega arith)
at_on class a i k zero x v versions None is so at e there = let le = at_or_after (λ (w : Version). is_some (side_in class w a)) (i + 1) k versions e in absurd (omega arith)
at_on class a i k (suc j) x v versions None is so at e there = ap (λ (n : ℕ). first_in class a n versions) (sym (add-one i)) ∙ so j (omega arith) e there

first_at : (class : Class) (a : Asked) (i k j : ℕ) (v : Version) (versions : List Version) → i + j ≡ k → matched_from class a i versions ≡ Some k → slice_get versions j ≡ Some v
    → first_in class a i versions ≡ placed k (side_in class v a) None
first_at class a i k j v [] at e there = absurd cc
first_at class a i k j v (x ∷ versions) at e there =
    at_on class a i k j x v versions (side_in class x a) refl (λ j at e there. first_at class a (i + 1) k j v versions at e there) at e there

pub no_exact : (versions : List Version) (a : Asked) → first_exact versions a ≡ None → first_in Exact a 0 versions ≡ None
no_exact versions a e = first_none Exact a 0 versions (sym (position_as (λ (v : Version). is_some (side_in Exact v a)) versions) ∙ e)

pub exact_at : (versions : List Version) (a : Asked) (k : ℕ) (v : Version) → first_exact versions a ≡ Some k → v ≡ get_or versions k v → first_in Exact a 0 versions ≡ placed k (side_in Exact v a) None
exact_at versions a k v e is =
    let found = position-Some (λ (w : Version). is_some (side_in Exact w a)) versions k v e in
    first_at Exact a 0 k k v versions (omega arith) (sym (position_as (λ (w : Version). is_some (side_in Exact w a)) versions) ∙ e) (slice_get_read versions (length versions) k v refl found.0 is)

-- ---- a version without patterns of a class has no match of it

or_false : (a b : Bool) → (a || b) ≡ false → (a ≡ false) × (b ≡ false)
or_false true b e = absurd cc
or_false false b e = (refl, e)

not_false : (b : Bool) → not b ≡ false → b ≡ true
not_false true e = refl
not_false false e = absurd cc

empty_from : {X : Type 0} (xs : List X) → not (length xs == 0) ≡ false → xs ≡ []
empty_from xs e = nil_from_length xs (eqb-true (length xs) 0 (not_false (length xs == 0) e))

no_name : (name : Option (List ℕ)) → exact_fits [] name ≡ false
no_name None = refl
no_name (Some n) = refl

no_glob : (text : Option (List ℕ)) → glob_fits [] text ≡ false
no_glob None = refl
no_glob (Some t) = refl

rules_without : (class : Class) (rules : BasicMatchRules) (name text : Option (List ℕ)) → rules_have class rules ≡ false → rules_fit rules class name text ≡ false
rules_without Exact rules name text e = let none = empty_from rules.exact e in rw none (no_name name)
rules_without Nonstar rules name text e = let none = empty_from rules.nonstar_globs.items e in rw none (no_glob text)
rules_without Star rules name text e = let none = empty_from rules.star_globs.items e in rw none (no_glob text)
rules_without Every rules name text e = e

no_exact_side : (b0 b1 b2 b3 : Bool) → b0 ≡ false → b1 ≡ false → b2 ≡ false → b3 ≡ false
    → cond b0 (Some Global) (cond b1 (Some Local) (cond b2 (Some Global) (cond b3 (Some Local) None))) ≡ None
no_exact_side b0 b1 b2 b3 e0 e1 e2 e3 = rw (e0, e1, e2, e3)

no_side : (b0 b1 b2 b3 : Bool) → b0 ≡ false → b1 ≡ false → b2 ≡ false → b3 ≡ false → cond (b0 || b1) (Some Global) (cond (b2 || b3) (Some Local) None) ≡ None
no_side b0 b1 b2 b3 e0 e1 e2 e3 = rw (e0, e1, e2, e3)

side_without_on : (class : Class) (v : Version) (a : Asked) → plain_fits v.version_body.globals class a ≡ false → cxx_fits v.version_body.globals class a ≡ false
    → plain_fits v.version_body.locals class a ≡ false → cxx_fits v.version_body.locals class a ≡ false → side_in class v a ≡ None
side_without_on Exact v a e0 e1 e2 e3 = no_exact_side _ _ _ _ e0 e2 e1 e3
side_without_on Nonstar v a e0 e1 e2 e3 = no_side _ _ _ _ e0 e1 e2 e3
side_without_on Star v a e0 e1 e2 e3 = no_side _ _ _ _ e0 e1 e2 e3
side_without_on Every v a e0 e1 e2 e3 = no_side _ _ _ _ e0 e1 e2 e3

side_without : (class : Class) (v : Version) (a : Asked) → version_has class v ≡ false → side_in class v a ≡ None
side_without class v a e =
    let both = or_false (rules_have class v.version_body.globals.general || rules_have class v.version_body.globals.cxx) (rules_have class v.version_body.locals.general || rules_have class v.version_body.locals.cxx) e in
    let globals = or_false (rules_have class v.version_body.globals.general) (rules_have class v.version_body.globals.cxx) both.0 in
    let locals = or_false (rules_have class v.version_body.locals.general) (rules_have class v.version_body.locals.cxx) both.1 in
    side_without_on class v a
    (rules_without class v.version_body.globals.general (Some a.bytes) a.text globals.0) (rules_without class v.version_body.globals.cxx a.demangled a.demangled globals.1)
    (rules_without class v.version_body.locals.general (Some a.bytes) a.text locals.0) (rules_without class v.version_body.locals.cxx a.demangled a.demangled locals.1)

at_without : (class : Class) (a : Asked) (o : Option Version) → has_at class o ≡ false → side_at class a o ≡ None
at_without class a None e = refl
at_without class a (Some v) e = side_without class v a e

-- ---- the last match, among the versions that have a pattern of its class

-- the match of the first of these versions that has one
abbrev pub first_among : Class → Asked → List Version → List ℕ → Option (ℕ × Side)
first_among class a versions [] = None
first_among class a versions (n ∷ ns) = placed n (side_at class a (slice_get versions n)) (first_among class a versions ns)

-- the match of the last one
abbrev pub last_among : Class → Asked → List Version → List ℕ → Option (ℕ × Side)
last_among class a versions ns = first_among class a versions (reverse ns)

among_more : (class : Class) (a : Asked) (versions : List Version) (ns : List ℕ) (n : ℕ) → last_among class a versions (ns ++ n ∷ []) ≡ placed n (side_at class a (slice_get versions n)) (last_among class a versions ns)
among_more class a versions ns n = ap (first_among class a versions) (reverse-append ns (n ∷ []))

among_on : (class : Class) (a : Asked) (versions : List Version) (n : ℕ) (ns : List ℕ) (b : Bool) → has_at class (slice_get versions n) ≡ b → last_among class a versions ns ≡ last_in class a versions n
    → last_among class a versions (ns ++ (if b then n ∷ [] else [])) ≡ placed n (side_at class a (slice_get versions n)) (last_in class a versions n)
among_on class a versions n ns true is so = among_more class a versions ns n ∙ ap (placed n (side_at class a (slice_get versions n))) so
among_on class a versions n ns false is so =
    ap (last_among class a versions) (append-nil ns) ∙ so ∙ ap (λ (o : Option Side). placed n o (last_in class a versions n)) (sym (at_without class a (slice_get versions n) is))

among_below : (class : Class) (a : Asked) (versions : List Version) (n : ℕ) → last_among class a versions (filter (λ (k : ℕ). has_at class (slice_get versions k)) (range_with_len 0 n)) ≡ last_in class a versions n
among_below class a versions zero = refl
among_below class a versions (suc n) =
    ap (last_among class a versions) (numbers_more (λ (k : ℕ). has_at class (slice_get versions k)) n)
    ∙ among_on class a versions n (filter (λ (k : ℕ). has_at class (slice_get versions k)) (range_with_len 0 n)) (has_at class (slice_get versions n)) refl (among_below class a versions n)

pub among_all : (class : Class) (a : Asked) (versions : List Version) → last_among class a versions (numbers_with versions class) ≡ last_in class a versions (length versions)
among_all class a versions = among_below class a versions (length versions)

-- ---- the numbers are those of versions

has_version : (class : Class) (o : Option Version) → has_at class o ≡ true → (v : Version) × (o ≡ Some v)
has_version class None e = absurd cc
has_version class (Some v) e = (v, refl)

pub all_below : (class : Class) (versions : List Version) → All (λ (n : ℕ). n < length versions) (numbers_with versions class)
all_below class versions =
    All-weaker (λ (n : ℕ). has_at class (slice_get versions n) ≡ true) (λ (n : ℕ). n < length versions)
    (λ n e. let there = has_version class (slice_get versions n) e in slice_get_within versions n there.0 there.1)
    (numbers_with versions class) (filter_passes (λ (n : ℕ). has_at class (slice_get versions n)) (range_with_len 0 (length versions)))

pub all_in_front : {X : Type 0} (P : X → Type 0) (xs front : List X) (x : X) → xs ≡ front ++ x ∷ [] → All P xs → All P front × P x
all_in_front P xs front x is all =
    let every = subst (All P) is all in
    let more = length_push front x in
    (λ k d lt. subst P (get_or_append_left front (x ∷ []) d k lt) (every k d (omega arith)), subst P (get_or_push front x x (length front) refl) (every (length front) x (omega arith)))

-- one step of the pass from the back: the last of the numbers is looked at
pub past : (class : Class) (a : Asked) (versions : List Version) (ns front : List ℕ) (m n : ℕ) (v : Version) → ns ≡ front ++ m ∷ [] → n ≡ m → All (λ (k : ℕ). k < length versions) ns → v ≡ get_or versions n v
    → last_among class a versions ns ≡ placed n (side_in class v a) (last_among class a versions front)
past class a versions ns front m n v is same below at =
    let cut : ns ≡ front ++ n ∷ [] = is ∙ ap (λ (k : ℕ). front ++ k ∷ []) (sym same) in
    let there : slice_get versions n ≡ Some v = slice_get_read versions (length versions) n v refl (all_in_front (λ (k : ℕ). k < length versions) ns front n cut below).1 at in
    ap (last_among class a versions) cut ∙ among_more class a versions front n ∙ ap (λ (o : Option Version). placed n (side_at class a o) (last_among class a versions front)) there

-- The symbol that heads a list has that list.
use Rattle.std.proofs.Common.{◌≡◌, ◌+◌, ◌∙◌, ◌&&◌, ℕ, zero, suc, Bool, true, false, List, [], ◌∷◌, Option, None, Some, cond, slice_get, refl, sym, ap, subst, arith}
use Rattle.std.specs.Option.{option_map_or}
use Rattle.std.specs.Str.{bytes_eq}
use Rattle.std.proofs.lemmas.Bool.{and_parts}
use Rattle.std.proofs.lemmas.Slice.Eq.{bytes_eq-Decides}
use Rattle.link_input.specs.Symbols.{Symbol}
use Rattle.link_rules.specs.Names.{definitions_of, is_listed, is_version_listed, versioned_definitions_of}
use Rattle.link_rules.specs.Places.{Bytes, kept_if, places_from, same_version}
use Rattle.link_check_rivals.specs.Lists.{own_list}
use Rattle.link_check_rivals.specs.declared.lists.Naming.{Naming}
use Rattle.link_check_rivals.specs.declared.lists.Naming.TheVariants.{Plain, Versioned}

-- a symbol that passes a test, and stands at a place that is counted from a number on
record Passing (test : Symbol → Bool) (n : ℕ) (symbols : List Symbol) (h : ℕ) : Type 0 where
  place : ℕ
  symbol : Symbol
  at : slice_get symbols place ≡ Some symbol
  passes : test symbol ≡ true
  is : h ≡ n + place

-- the first place is that of a symbol that passes
head-passes : (test : Symbol → Bool) (n : ℕ) (symbols : List Symbol) (h : ℕ) (hs : List ℕ) → places_from test n symbols ≡ h ∷ hs → Passing test n symbols h
head-passes test n [] h hs is = absurd cc
head-passes test n (y ∷ ys) h hs is = by (test y) refl is (λ rest. head-passes test (n + 1) ys h hs rest)
  where
    by : (b : Bool) → test y ≡ b → kept_if b n (places_from test (n + 1) ys) ≡ h ∷ hs → (places_from test (n + 1) ys ≡ h ∷ hs → Passing test (n + 1) ys h) → Passing test n (y ∷ ys) h
    by true passes is further =
        let same : n ≡ h = cc in
        record { place = zero; symbol = y; at = refl; passes = passes; is = omega (arith, same) }
    by false fails is further =
        let it = further is in
        let same = it.is in
        record { place = suc it.place; symbol = it.symbol; at = it.at; passes = it.passes; is = omega (arith, same) }

-- the same, counted from 0
head-at : (test : Symbol → Bool) (symbols : List Symbol) (h : ℕ) (hs : List ℕ) → places_from test 0 symbols ≡ h ∷ hs → (x : Symbol) × (slice_get symbols h ≡ Some x) × (test x ≡ true)
head-at test symbols h hs is =
    let it = head-passes test 0 symbols h hs is in
    let same = it.is in
    let place : it.place ≡ h = omega (arith, same) in
    (it.symbol, subst (λ k. slice_get symbols k ≡ Some it.symbol) place it.at, it.passes)

-- a version that is the same is that one
version-is : (o : Option Bytes) (version : Bytes) → same_version o (Some version) ≡ true → o ≡ Some version
version-is None version is = absurd cc
version-is (Some v) version is = ap (λ (w : Bytes). Some w) ((bytes_eq-Decides v version).0 is)

-- the definitions of a name and version, if it can be found by these
abbrev version_list : List Symbol → Bool → Bytes → Option Bytes → List ℕ
version_list symbols b name version = cond b (option_map_or (versioned_definitions_of symbols name) version []) []

-- the head of a symbol's list is a symbol with the same list
pub head-shares : (naming : Naming) (symbols : List Symbol) (x : Symbol) (h : ℕ) (hs : List ℕ) → own_list naming symbols x ≡ h ∷ hs
    → (y : Symbol) × (slice_get symbols h ≡ Some y) × (own_list naming symbols y ≡ own_list naming symbols x)
head-shares Plain symbols x h hs is = by (is_listed x) refl is
  where
    by : (b : Bool) → is_listed x ≡ b → cond b (definitions_of symbols x.name) [] ≡ h ∷ hs
        → (y : Symbol) × (slice_get symbols h ≡ Some y) × (own_list Plain symbols y ≡ own_list Plain symbols x)
    by false listed is = absurd cc
    by true listed is =
        let (y, at, passes) = head-at (λ z. is_listed z && bytes_eq z.name x.name) symbols h hs is in
        let both = and_parts (is_listed y) (bytes_eq y.name x.name) passes in
        let named : y.name ≡ x.name = (bytes_eq-Decides y.name x.name).0 both.1 in
        (y, at, ap (λ b. cond b (definitions_of symbols y.name) []) both.0 ∙ (ap (definitions_of symbols) named ∙ sym (ap (λ b. cond b (definitions_of symbols x.name) []) listed)))
head-shares Versioned symbols x h hs is = by (is_version_listed x) x.version refl refl is
  where
    by : (b : Bool) (version : Option Bytes) → is_version_listed x ≡ b → x.version ≡ version → version_list symbols b x.name version ≡ h ∷ hs
        → (y : Symbol) × (slice_get symbols h ≡ Some y) × (own_list Versioned symbols y ≡ own_list Versioned symbols x)
    by false version listed of is = absurd cc
    by true None listed of is = absurd cc
    by true (Some v) listed of is =
        let (y, at, passes) = head-at (λ z. is_version_listed z && bytes_eq z.name x.name && same_version z.version (Some v)) symbols h hs is in
        let all = and_parts (is_version_listed y && bytes_eq y.name x.name) (same_version y.version (Some v)) passes in
        let both = and_parts (is_version_listed y) (bytes_eq y.name x.name) all.0 in
        let named : y.name ≡ x.name = (bytes_eq-Decides y.name x.name).0 both.1 in
        let of_y : y.version ≡ Some v = version-is y.version v all.1 in (
          y,
          at,
          ap (λ b. version_list symbols b y.name y.version) both.0
              ∙ (ap (λ name. version_list symbols true name y.version) named ∙ (ap (λ version. version_list symbols true x.name version) (of_y ∙ sym of)
              ∙ sym (ap (λ b. version_list symbols b x.name x.version) listed))),
        )

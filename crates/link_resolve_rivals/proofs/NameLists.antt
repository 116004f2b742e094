-- The definitions of plain names make lists of rivals, and so do those of names with versions.
use Rattle.std.proofs.Common.{◌≡◌, ◌∙◌, ◌<◌, ◌&&◌, ℕ, zero, suc, Bool, true, false, List, [], ◌∷◌, Contains, Option, Some, None, refl, ap, arith, length, if◌then◌else◌, slice_get}
use Rattle.std.specs.Option.{option_map_or}
use Rattle.std.specs.Str.{bytes_eq}
use Rattle.std.proofs.lemmas.List.Elements.{All-contains, All-from_recursion}
use Rattle.std.proofs.lemmas.Slice.Eq.{bytes_eq-Decides}
use Rattle.link_input.specs.Symbols.{Symbol}
use Rattle.link_rules.proofs.ByPlace.{all-places, place-in, places-all}
use Rattle.link_rules.proofs.Settled.{both_true, listed_in, none_some, nothing_in}
use Rattle.link_rules.specs.Names.{definitions_of, is_listed, is_version_listed, versioned_definitions_of}
use Rattle.link_rules.specs.Places.{Bytes, places_from, same_version}
use Rattle.link_rules.specs.Rivals.{plain_list, versioned_list}
use Rattle.link_rules.specs.World.{Stage}
use Rattle.link_resolve_rivals.specs.Lists.{AreLists, plain_lists, versioned_lists}

-- what stands at a place stands below the length
pub below-length : {X : Type 0} (xs : List X) (s : ℕ) (x : X) → slice_get xs s ≡ Some x → s < length xs
below-length [] s x is = absurd (none_some x is)
below-length (y ∷ ys) zero x is = omega arith
below-length (y ∷ ys) (suc s) x is = let rest = below-length ys s x is in omega arith

-- a symbol's list holds symbols that have that list, and the symbol itself
record HaveLists {X : Type 0} (own : X → List ℕ) (xs : List X) : Type 0 where
  same : (x : X) (t : ℕ) → Contains (own x) t → (y : X) × (slice_get xs t ≡ Some y) × (own y ≡ own x)
  itself : (s : ℕ) (x : X) (t : ℕ) → slice_get xs s ≡ Some x → Contains (own x) t → Contains (own x) s

-- such lists are lists of rivals
lists-of : {X : Type 0} (own : X → List ℕ) (xs : List X) → HaveLists own xs → AreLists (λ s. option_map_or own (slice_get xs s) []) (length xs)
lists-of {X} own xs have = record {
  own = λ s t. own-by s t (slice_get xs s) refl;
  same = λ s t. same-by t (slice_get xs s);
  inside = λ s t. inside-by t (slice_get xs s);
}
  where
    own-by : (s t : ℕ) (o : Option X) → slice_get xs s ≡ o → Contains (option_map_or own o []) t → Contains (option_map_or own o []) s
    own-by s t None at within = absurd (nothing_in t within)
    own-by s t (Some x) at within = have.itself s x t at within

    same-by : (t : ℕ) (o : Option X) → Contains (option_map_or own o []) t → option_map_or own (slice_get xs t) [] ≡ option_map_or own o []
    same-by t None within = absurd (nothing_in t within)
    same-by t (Some x) within = let it = have.same x t within in ap (λ o. option_map_or own o []) it.1 ∙ it.2

    inside-by : (t : ℕ) (o : Option X) → Contains (option_map_or own o []) t → t < length xs
    inside-by t None within = absurd (nothing_in t within)
    inside-by t (Some x) within = let it = have.same x t within in below-length xs t it.0 it.1

-- a text is itself
same-text : (text : Bytes) → bytes_eq text text ≡ true
same-text text = (bytes_eq-Decides text text).1 refl

-- so is a version
same-itself : (version : Bytes) → same_version (Some version) (Some version) ≡ true
same-itself version = same-text version

-- a version that is the same is that one
version-is : (o : Option Bytes) (version : Bytes) → same_version o (Some version) ≡ true → o ≡ Some version
version-is None version is = cc
version-is (Some v) version is = ap Some ((bytes_eq-Decides v version).0 is)

-- the definitions of plain names
pub plain-lists : (w : Stage) → AreLists (plain_lists w) (length w.symbols)
plain-lists w = lists-of (plain_list w) w.symbols (record {
  same = λ x t. same-by x t (is_listed x) refl;
  itself = λ s x t at. itself-by s x t at (is_listed x) refl;
})
  where
    same-by : (x : Symbol) (t : ℕ) (b : Bool) → is_listed x ≡ b → Contains (if b then definitions_of w.symbols x.name else []) t
        → (y : Symbol) × (slice_get w.symbols t ≡ Some y) × (plain_list w y ≡ (if b then definitions_of w.symbols x.name else []))
    same-by x t false is within = absurd (nothing_in t within)
    same-by x t true is within =
        let (y, there, named) = listed_in w x.name t within in
        (y, there.at, ap (λ b. if b then definitions_of w.symbols y.name else []) there.listed ∙ ap (definitions_of w.symbols) named)

    itself-by : (s : ℕ) (x : Symbol) (t : ℕ) → slice_get w.symbols s ≡ Some x → (b : Bool) → is_listed x ≡ b
        → Contains (if b then definitions_of w.symbols x.name else []) t → Contains (if b then definitions_of w.symbols x.name else []) s
    itself-by s x t at false is within = absurd (nothing_in t within)
    itself-by s x t at true is within =
        place-in (λ y. is_listed y && bytes_eq y.name x.name) w.symbols s x at (ap (λ b. b && bytes_eq x.name x.name) is ∙ same-text x.name)

-- a definition of a name and version, with its place
pub record IsVersionedAt (w : Stage) (s : ℕ) (name version : Bytes) (x : Symbol) : Type 0 where
  pub at : slice_get w.symbols s ≡ Some x
  pub listed : is_version_listed x ≡ true
  pub named : x.name ≡ name
  pub of : x.version ≡ Some version

-- each definition of a name and version is listed under it
pub versioned_in : (w : Stage) (name version : Bytes) (s : ℕ) → Contains (versioned_definitions_of w.symbols name version) s → (x : Symbol) × IsVersionedAt w s name version x
versioned_in w name version s within =
    All-contains Listed places s (All-from_recursion Listed places (places-all Listed test 0 w.symbols (all-places (λ t x. test x ≡ true → Listed t) w.symbols each))) within
  where
    test : Symbol → Bool
    test x = is_version_listed x && bytes_eq x.name name && same_version x.version (Some version)

    places : List ℕ
    places = places_from test 0 w.symbols

    Listed : ℕ → Type 0
    Listed t = (x : Symbol) × IsVersionedAt w t name version x

    each : (t : ℕ) (x : Symbol) → slice_get w.symbols t ≡ Some x → test x ≡ true → Listed t
    each t x at passes =
        let all = both_true (is_version_listed x && bytes_eq x.name name) (same_version x.version (Some version)) passes in
        let both = both_true (is_version_listed x) (bytes_eq x.name name) all.0 in
        (x, record { at = at; listed = both.0; named = (bytes_eq-Decides x.name name).0 both.1; of = version-is x.version version all.1 })

-- the definitions of a name and version, if it has one and can be found by it
abbrev version_list : Stage → Bool → Bytes → Option Bytes → List ℕ
version_list w b name version = if b then option_map_or (versioned_definitions_of w.symbols name) version [] else []

-- the definitions of names with versions
pub versioned-lists : (w : Stage) → AreLists (versioned_lists w) (length w.symbols)
versioned-lists w = lists-of (versioned_list w) w.symbols (record {
  same = λ x t. same-by x t (is_version_listed x) x.version;
  itself = λ s x t at. itself-by s x t at (is_version_listed x) refl x.version refl;
})
  where
    same-by : (x : Symbol) (t : ℕ) (b : Bool) (version : Option Bytes) → Contains (version_list w b x.name version) t
        → (y : Symbol) × (slice_get w.symbols t ≡ Some y) × (versioned_list w y ≡ version_list w b x.name version)
    same-by x t false version within = absurd (nothing_in t within)
    same-by x t true None within = absurd (nothing_in t within)
    same-by x t true (Some v) within =
        let (y, there) = versioned_in w x.name v t within in (
          y,
          there.at,
          ap (λ b. version_list w b y.name y.version) there.listed ∙ ap (λ name. version_list w true name y.version) there.named ∙ ap (version_list w true x.name) there.of,
        )

    itself-by : (s : ℕ) (x : Symbol) (t : ℕ) → slice_get w.symbols s ≡ Some x → (b : Bool) → is_version_listed x ≡ b → (version : Option Bytes) → x.version ≡ version
        → Contains (version_list w b x.name version) t → Contains (version_list w b x.name version) s
    itself-by s x t at false is version of within = absurd (nothing_in t within)
    itself-by s x t at true is None of within = absurd (nothing_in t within)
    itself-by s x t at true is (Some v) of within =
        place-in (λ y. is_version_listed y && bytes_eq y.name x.name && same_version y.version (Some v)) w.symbols s x at
        (ap (λ b. b && bytes_eq x.name x.name && same_version x.version (Some v)) is
        ∙ ap (λ b. b && same_version x.version (Some v)) (same-text x.name) ∙ ap (λ o. same_version o (Some v)) of ∙ same-itself v)

-- each definition in the list of a symbol's name and version can be found by these
pub version-listed : (w : Stage) (x : Symbol) (t : ℕ) → Contains (versioned_list w x) t → (y : Symbol) × (slice_get w.symbols t ≡ Some y) × (is_version_listed y ≡ true)
version-listed w x t = by (is_version_listed x) x.version
  where
    by : (b : Bool) (version : Option Bytes) → Contains (version_list w b x.name version) t → (y : Symbol) × (slice_get w.symbols t ≡ Some y) × (is_version_listed y ≡ true)
    by false version within = absurd (nothing_in t within)
    by true None within = absurd (nothing_in t within)
    by true (Some v) within = let (y, there) = versioned_in w x.name v t within in (y, there.at, there.listed)

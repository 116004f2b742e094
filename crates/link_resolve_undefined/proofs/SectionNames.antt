-- The names that mark the start and the end of custom sections.
use Rattle.std.proofs.Common.{◌≡◌, ◌≢◌, ◌++◌, ◌||◌, List, [], ◌∷◌, Bool, true, false, Option, Bor, refl, ◌∙◌, codes}
use Rattle.std.specs.List.{list_any}
use Rattle.std.specs.Option.{MatchOption}
use Rattle.std.specs.Str.{bytes_eq}
use Rattle.std.proofs.lemmas.Slice.Eq.{bytes_eq-Decides}
use Rattle.link_names.specs.Names.{has_name}
use Rattle.link_rules.specs.Places.{Bytes}
use Rattle.link_resolve_undefined.specs.Boundaries.{is_mark_of}

or-none : (b : Bool) → b || false ≡ b
or-none true = refl
or-none false = refl

-- the mark of a start is found by the section
pub start-mark : (sections : List Bytes) (section : Bytes) → is_mark_of sections (codes "__start_" ++ section) ≡ has_name sections section
start-mark sections section = (λ i. list_any (λ s. or-none (bytes_eq section s) i) sections)

-- the mark of an end is found by the section
pub stop-mark : (sections : List Bytes) (section : Bytes) → is_mark_of sections (codes "__stop_" ++ section) ≡ has_name sections section
stop-mark sections section = refl

unequal : (name other : Bytes) (b : Bool) → bytes_eq name other ≡ b → name ≢ other → b ≡ false
unequal name other true is differ = absurd (differ ((bytes_eq-Decides name other).0 is))
unequal name other false is differ = refl

-- no other name is a mark
pub no-mark : (sections : List Bytes) (name : Bytes) → ((section : Bytes) → name ≢ codes "__start_" ++ section) → ((section : Bytes) → name ≢ codes "__stop_" ++ section)
    → is_mark_of sections name ≡ false
no-mark [] name starts stops = refl
no-mark (s ∷ ss) name starts stops =
    let no-start = unequal name (codes "__start_" ++ s) (bytes_eq name (codes "__start_" ++ s)) refl (starts s) in
    let no-stop = unequal name (codes "__stop_" ++ s) (bytes_eq name (codes "__stop_" ++ s)) refl (stops s) in
    (λ i. no-start i || no-stop i || is_mark_of ss name) ∙ no-mark ss name starts stops

-- what is left behind a prefix, or that it isn't one
abbrev pub Stripped : Bytes → Bytes → Option (Bor Bytes) → Type 0
Stripped name prefix r = MatchOption r ((rest : Bytes) → name ≢ prefix ++ rest) (λ x. name ≡ prefix ++ x.now)

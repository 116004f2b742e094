-- What a name is mapped to, and what a reference stands for, is one of the symbols.
use Rattle.std.proofs.Common.{◌≡◌, ℕ, [], Bool, true, false, cond, refl, subst, arith, Some, None, Option, Contains, slice_get, filter}
use Rattle.std.specs.Prelude.{◌&&◌, not, option_and_then}
use Rattle.std.specs.Option.{option_map_or}
use Rattle.std.specs.Str.{bytes_eq}
use Rattle.link_flags.specs.Pick.{pick}
use Rattle.link_input.specs.Symbols.{Symbol, is_shared}
use Rattle.link_rules.specs.Places.{Bytes, same_version, behind_head}
use Rattle.link_rules.specs.World.{Stage, holds_at}
use Rattle.link_rules.specs.Names.{definitions_of, first_definition, versioned_definitions_of, first_versioned_definition, is_version_listed, later_definitions}
use Rattle.link_rules.specs.Targets.{target, name_table, unshared_in, beside_in, mapped_in, is_open, strength_at}
use Rattle.link_rules.proofs.Settled.{IsListed, listed_in, first_definition-listed, pick_in, ids_of_candidates, first_in, behind_head_in, filtered, nothing_in, none_some, some_same}
use Rattle.link_rules.proofs.Members.{place_from}

-- there is a symbol of this id
pub record HasSymbol (w : Stage) (t : ℕ) : Type 0 where
  pub symbol : Symbol
  pub at : slice_get w.symbols t ≡ Some symbol

-- what is listed is there
listed_symbol : (w : Stage) (t : ℕ) → IsListed w t → HasSymbol w t
unfolding IsListed
listed_symbol w t it = record { symbol = it.0; at = it.1.at }

-- what a name is mapped to is there
pub first_definition-symbol : (w : Stage) (name : Bytes) (t : ℕ) → first_definition w name ≡ Some t → HasSymbol w t
first_definition-symbol w name t is = listed_symbol w t (first_definition-listed w name t is)

-- each definition of a name is there
defined_symbol : (w : Stage) (name : Bytes) (t : ℕ) → Contains (definitions_of w.symbols name) t → HasSymbol w t
defined_symbol w name t within =
    let it = listed_in w name t within in
    record { symbol = it.0; at = it.1.at }

-- what a name with a version is mapped to is there
versioned_symbol : (w : Stage) (name version : Bytes) (t : ℕ) → first_versioned_definition w.symbols name version ≡ Some t → HasSymbol w t
versioned_symbol w name version t is =
    let place = place_from (λ (x : Symbol). is_version_listed x && bytes_eq x.name name && same_version x.version (Some version)) 0 w.symbols t
    (first_in (versioned_definitions_of w.symbols name version) t is) in
    let behind = place.3 in
    let same : place.0 ≡ t = omega arith in
    record { symbol = place.1; at = subst (λ k. slice_get w.symbols k ≡ Some place.1) same place.2 }

-- what a name, with a version or without one, is mapped to is there
mapped_symbol : (w : Stage) (name : Bytes) (version : Option Bytes) (t : ℕ) → mapped_in (name_table w) name version ≡ Some t → HasSymbol w t
mapped_symbol w name None t is = first_definition-symbol w name t is
mapped_symbol w name (Some version) t is = versioned_symbol w name version t is

-- a later definition is there
later_symbol : (w : Stage) (s : ℕ) (o : Option Symbol) (t : ℕ)
    → Contains (option_map_or (λ x. behind_head s (definitions_of w.symbols x.name)) o []) t → HasSymbol w t
later_symbol w s None t within = absurd (nothing_in t within)
later_symbol w s (Some x) t within = defined_symbol w x.name t (behind_head_in s (definitions_of w.symbols x.name) t within)

-- what is picked beside a shared symbol is there
picked_symbol : (w : Stage) (s t : ℕ) → pick w.rules.weak_overrides_common (unshared_in (name_table w) s) ≡ Some t → HasSymbol w t
picked_symbol w s t is =
    let unshared : ℕ → Bool = λ x. not (holds_at w (λ y. is_shared y.origin) x) in
    let within = subst (λ ids. Contains ids t) (ids_of_candidates (strength_at w) (filter unshared (later_definitions w.symbols s)))
    (pick_in w.rules.weak_overrides_common (unshared_in (name_table w) s) t is) in
    later_symbol w s (slice_get w.symbols s) t (filtered unshared (later_definitions w.symbols s) t within)

-- a target by whether the mapped symbol will do
target_symbol_by : (w : Stage) (s t : ℕ) (b : Bool) → HasSymbol w s
    → cond b (Some s) (pick w.rules.weak_overrides_common (unshared_in (name_table w) s)) ≡ Some t → HasSymbol w t
target_symbol_by w s t true has is = subst (HasSymbol w) (some_same s t is) has
target_symbol_by w s t false has is = picked_symbol w s t is

-- a target by whether a symbol is mapped
target_symbol_from : (w : Stage) (u : Symbol) (o : Option ℕ) (t : ℕ) → ((s : ℕ) → o ≡ Some s → HasSymbol w s)
    → option_and_then (beside_in w.rules.weak_overrides_common (name_table w) (is_open u)) o ≡ Some t → HasSymbol w t
target_symbol_from w u None t each is = absurd (none_some t is)
target_symbol_from w u (Some s) t each is = target_symbol_by w s t _ (each s refl) is

-- what a reference stands for by its name is there
pub target-symbol : (w : Stage) (u : Symbol) (t : ℕ) → target w u ≡ Some t → HasSymbol w t
target-symbol w u t is = target_symbol_from w u (mapped_in (name_table w) u.name u.version) t (mapped_symbol w u.name u.version) is

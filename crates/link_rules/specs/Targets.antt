-- What a reference stands for.
use Rattle.std.specs.Prelude.{ℕ, ◌||◌, List, map, filter, true, not, Bool, Option, Some, None, if◌then◌else◌, slice_get, option_and_then}
use Rattle.std.specs.Option.{option_map_or, option_or}
use Rattle.link_flags.specs.declared.strength.SymbolStrength.{SymbolStrength}
use Rattle.link_flags.specs.declared.strength.SymbolStrength.TheVariants.{Undefined}
use Rattle.link_flags.specs.Pick.{Candidate, pick}
use Rattle.link_input.specs.Interposition.{is_default_visibility}
use Rattle.link_input.specs.Symbols.{Symbol, binding_strength, entry_in}
use Rattle.link_rules.specs.Places.{Bytes}
use Rattle.link_rules.specs.World.{Stage, is_shared_at}
use Rattle.link_rules.specs.Names.{Mapping, first_definition, first_versioned_definition, later_definitions}

-- what names are mapped to, and what is known of the symbols by their ids
pub record NameTable : Type 0 where
  pub plain : Mapping
  pub versioned : Bytes → Bytes → Option ℕ
  pub later : ℕ → List ℕ
  pub is_shared : ℕ → Bool
  pub strength : ℕ → SymbolStrength

-- the symbol that a name, or a name with a version, is mapped to
abbrev pub mapped_in : NameTable → Bytes → Option Bytes → Option ℕ
mapped_in t name None = t.plain name
mapped_in t name (Some version) = t.versioned name version

-- the later definitions of a shared symbol's name that are not shared themselves
abbrev pub unshared_in : NameTable → ℕ → List Candidate
unshared_in t s = map (λ x. (x, t.strength x)) (filter (λ x. not (t.is_shared x)) (t.later s))

-- a reference that other files may not see passes by a shared symbol: what is hidden or protected is bound within its own component (ELF gABI, "Symbol
-- Visibility"), so another definition of the name is looked for
abbrev pub beside_in : Bool → NameTable → Bool → ℕ → Option ℕ
beside_in weak_overrides_common t is_default s =
    if is_default || not (t.is_shared s) then Some s else pick weak_overrides_common (unshared_in t s)

-- the symbol that a reference to a name stands for, which is of default visibility or not
abbrev pub target_in : Bool → NameTable → Bool → Bytes → Option Bytes → Option ℕ
target_in weak_overrides_common t is_default name version =
    option_and_then (beside_in weak_overrides_common t is_default) (mapped_in t name version)

-- how strongly the symbol of this id binds, whether its file is loaded or not
abbrev pub strength_at : Stage → ℕ → SymbolStrength
strength_at w s = option_map_or (λ x. binding_strength x.origin) (slice_get w.symbols s) Undefined

-- the names and symbols of all batches up to this one
abbrev pub name_table : Stage → NameTable
name_table w = record {
  plain = first_definition w;
  versioned = first_versioned_definition w.symbols;
  later = later_definitions w.symbols;
  is_shared = is_shared_at w;
  strength = strength_at w;
}

-- other files may see the reference
abbrev pub is_open : Symbol → Bool
is_open u = option_map_or (λ e. is_default_visibility e.visibility) (entry_in u.origin) true

-- the symbol that a reference stands for by the names of all batches up to this one
abbrev pub target : Stage → Symbol → Option ℕ
target w u = target_in w.rules.weak_overrides_common (name_table w) (is_open u) u.name u.version

-- what the reference of this id stood for after an earlier batch, if its object was loaded and it stood for something
abbrev pub earlier_target : Stage → ℕ → Option ℕ
earlier_target w s = option_map_or (λ t. t) (slice_get w.earlier.targets s) None

-- the symbol that a reference stands for: what it stood for after an earlier batch stays, since files were loaded for it
abbrev pub kept_target : Stage → ℕ → Symbol → Option ℕ
kept_target w s u = option_or (earlier_target w s) (target w u)

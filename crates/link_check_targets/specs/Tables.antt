-- What is known of names and symbols, by symbols and wrapped names alone.
use Rattle.std.specs.Prelude.{ℕ, ◌&&◌, ◌||◌, List, map, filter, Bool, false, not, Option, Some, None, unwrap_or, if◌then◌else◌, slice_get, option_and_then}
use Rattle.std.specs.Option.{option_map_or}
use Rattle.link_flags.specs.declared.strength.SymbolStrength.{SymbolStrength}
use Rattle.link_flags.specs.declared.strength.SymbolStrength.TheVariants.{Undefined}
use Rattle.link_flags.specs.Pick.{Candidate}
use Rattle.link_flags.specs.Selector.{after}
use Rattle.link_flags.specs.declared.selector.SymbolPrioritySelector.{SymbolPrioritySelector}
use Rattle.link_input.specs.Symbols.{Symbol, binding_strength, is_shared, object_in}
use Rattle.link_rules.specs.Names.{first_versioned_definition, later_definitions}
use Rattle.link_rules.specs.Places.{same_number}
use Rattle.link_rules.specs.Targets.{NameTable, beside_in, is_open, target_in}
use Rattle.link_rules.specs.Undefined.{is_weak_symbol}
use Rattle.link_rules.specs.World.{is_reference}
use Rattle.link_check_names.specs.Named.{Named, mapped_name}

-- whether the symbol of this id stands in a shared file
abbrev pub is_shared_in : List Symbol → ℕ → Bool
is_shared_in symbols s = option_map_or (λ x. is_shared x.origin) (slice_get symbols s) false

-- how strongly it binds
abbrev pub strength_in : List Symbol → ℕ → SymbolStrength
strength_in symbols s = option_map_or (λ x. binding_strength x.origin) (slice_get symbols s) Undefined

-- the place of the object that holds it
abbrev pub object_at : List Symbol → ℕ → Option ℕ
object_at symbols s = option_and_then (λ x. object_in x.origin) (slice_get symbols s)

-- those of these symbols that are not shared, each with how strongly it binds
abbrev pub unshared : List Symbol → List ℕ → List Candidate
unshared symbols ids = map (λ s. (s, strength_in symbols s)) (filter (λ s. not (is_shared_in symbols s)) ids)

-- what a selector knows after a symbol, if that is not shared
abbrev pub after_unshared : List Symbol → SymbolPrioritySelector → ℕ → SymbolPrioritySelector
after_unshared symbols known s = if is_shared_in symbols s then known else after known (s, strength_in symbols s)

-- what names are mapped to, and what is known of the symbols by their ids
abbrev pub table_of : Named → NameTable
table_of n = record {
  plain = mapped_name n;
  versioned = first_versioned_definition n.symbols;
  later = later_definitions n.symbols;
  is_shared = is_shared_in n.symbols;
  strength = strength_in n.symbols;
}

-- what a reference that other files may not see stands for, where its name is mapped to the symbol of this id
abbrev pub hidden_target : Bool → Named → ℕ → Option ℕ
hidden_target weak_overrides_common n s = beside_in weak_overrides_common (table_of n) false s

-- the same as a column has it
abbrev pub hidden_at : List (Option ℕ) → ℕ → Option ℕ
hidden_at hidden s = unwrap_or (slice_get hidden s) (Some s)

-- the target that a column has for the symbol of this id
abbrev pub target_at : List (Option ℕ) → ℕ → Option ℕ
target_at targets s = option_map_or (λ t. t) (slice_get targets s) None

-- the symbol that a reference stands for
abbrev pub target_by : Bool → Named → Symbol → Option ℕ
target_by weak_overrides_common n u = target_in weak_overrides_common (table_of n) (is_open u) u.name u.version

-- the same where it is a reference at all
abbrev pub reference_target : Bool → Named → Symbol → Option ℕ
reference_target weak_overrides_common n u = if is_reference u then target_by weak_overrides_common n u else None

-- the object of a target, where that loads it: another one, and not both are shared
abbrev pub request_between_in : List Symbol → Symbol → ℕ → Option ℕ
request_between_in symbols u t =
    if (is_shared u.origin && is_shared_in symbols t) || same_number (object_in u.origin) (object_at symbols t)
    then None else object_at symbols t

-- the object that a symbol with this target asks for: only a reference that is not weak asks for any
abbrev pub request_by : List Symbol → Symbol → Option ℕ → Option ℕ
request_by symbols u target = if is_reference u && not (is_weak_symbol u) then option_and_then (request_between_in symbols u) target else None

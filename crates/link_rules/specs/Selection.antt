-- What follows for each symbol once the loaded objects are known: its target and its surviving strength.
use Rattle.std.specs.Prelude.{ℕ, ◌&&◌, List, map, Bool, false, Option, None, if◌then◌else◌, slice_get}
use Rattle.std.specs.Option.{option_map_or}
use Rattle.link_flags.specs.declared.strength.SymbolStrength.{SymbolStrength}
use Rattle.link_flags.specs.declared.strength.SymbolStrength.TheVariants.{Undefined}
use Rattle.link_closure.specs.Closure.{is_marked}
use Rattle.link_input.specs.declared.symbol_entry.Place.{Place}
use Rattle.link_input.specs.BindingStrength.{binding_strength}
use Rattle.link_input.specs.Entries.{section_of}
use Rattle.link_input.specs.Symbols.{Symbol, Origin, in_prelude, in_object, in_script, in_stub}
use Rattle.link_rules.specs.World.{Stage, is_reference, is_shared_at}
use Rattle.link_rules.specs.Places.{each_from}
use Rattle.link_rules.specs.Targets.{kept_target}
use Rattle.link_rules.specs.Loading.{is_origin_loaded}
use Rattle.link_rules.specs.Comdat.{PlacedGroup, discarded_groups, is_discarded_by}

-- a stage of a link with its loaded objects, and what follows for each symbol
pub record Selection : Type 0 where
  pub stage : Stage
  pub marks : List Bool
  pub targets : List (Option ℕ)
  pub strengths : List SymbolStrength

-- a symbol's target, where it is a reference of a loaded object
abbrev pub loaded_target : Stage → List Bool → ℕ → Symbol → Option ℕ
loaded_target w marks s x = if is_reference x && is_origin_loaded marks x.origin then kept_target w s x else None

-- whether an entry at this place stands in a discarded section
abbrev pub is_discarded_place : List PlacedGroup → ℕ → Place → Bool
is_discarded_place discarded f place = option_map_or (is_discarded_by discarded f) (section_of place) false

-- nothing is left of a symbol in an object that is not loaded, or in a discarded section (ELF gABI, "Section Groups": the members of a group that isn't retained
-- are discarded)
abbrev pub surviving_origin : List Bool → List PlacedGroup → Origin → SymbolStrength
surviving_origin marks discarded (in_prelude d) = Undefined
surviving_origin marks discarded (in_object f shared e) =
    if is_marked marks f then (if is_discarded_place discarded f e.place then Undefined else binding_strength e) else Undefined
surviving_origin marks discarded (in_script d) = Undefined
surviving_origin marks discarded (in_stub strength) = strength

-- how strongly each symbol binds now
abbrev pub surviving_strengths : Stage → List Bool → List PlacedGroup → List SymbolStrength
surviving_strengths w marks discarded = map (λ x. surviving_origin marks discarded x.origin) w.symbols

-- all of this where these objects are loaded
abbrev pub selection_of : Stage → List Bool → Selection
selection_of w marks = record {
  stage = w;
  marks = marks;
  targets = each_from (loaded_target w marks) 0 w.symbols;
  strengths = surviving_strengths w marks (discarded_groups w marks);
}

-- the target of the symbol of this id, if it is a loaded reference that has one
abbrev pub target_of : Selection → ℕ → Option ℕ
target_of l s = option_map_or (λ t. t) (slice_get l.targets s) None

-- how strongly a symbol binds now
abbrev pub surviving_strength : Selection → ℕ → SymbolStrength
surviving_strength l s = option_map_or (λ x. x) (slice_get l.strengths s) Undefined

-- it stands in a shared file, so its opening flags say that it is dynamic
abbrev pub is_dynamic : Selection → ℕ → Bool
is_dynamic l s = is_shared_at l.stage s

-- The references that stay undefined, and what stands for them.
use Rattle.std.specs.Prelude.{ℕ, ◌+◌, ◌&&◌, ◌||◌, List, ◌++◌, length, filter, reverse, position, Bool, true, false, not, Option, Some, None, is_some, is_none, if◌then◌else◌, unwrap_or, slice_index, option_map, codes}
use Rattle.std.specs.Option.{option_or}
use Rattle.std.specs.List.{list_any, enumerate_from}
use Rattle.std.specs.Str.{bytes_eq}
use Rattle.link_input.specs.Entries.{is_weak}
use Rattle.link_rules.specs.Places.{each_from, last_of, is_number, same_version, same_number}
use Rattle.link_input.specs.Symbols.{Symbol, object_in, entry_passes}
use Rattle.link_rules.specs.World.{Stage, object_of, is_reference}
use Rattle.link_rules.specs.Loading.{is_loaded, is_origin_loaded}
use Rattle.link_rules.specs.Selection.{Selection, selection_of, target_of}
use Rattle.link_rules.specs.Rivals.{versioned_table, two_steps}

-- a symbol with its id
abbrev pub Numbered : Type 0
Numbered = ℕ × Symbol

-- a weak symbol of an object
abbrev pub is_weak_symbol : Symbol → Bool
is_weak_symbol x = entry_passes (λ e. is_weak e.binding) x.origin

-- nothing that is loaded stands for it; a strong reference to another file has that loaded
abbrev pub is_target_missing : Selection → Symbol → Option ℕ → Bool
is_target_missing l u None = true
is_target_missing l u (Some t) =
    not (is_loaded l.stage l.marks t) && (is_weak_symbol u || same_number (object_in u.origin) (object_of l.stage t))

-- a reference of a loaded object that stays undefined: a weak one is then null (ELF gABI, "Symbol Table", `STB_WEAK`)
abbrev pub stays_undefined : Selection → Numbered → Bool
stays_undefined l u = is_reference u.1 && is_origin_loaded l.marks u.1.origin && is_target_missing l u.1 (target_of l u.0)

-- the references of loaded objects that stay undefined, in the order of their ids
abbrev pub left_undefined : Selection → List Numbered
left_undefined l = filter (stays_undefined l) (enumerate_from 0 l.stage.symbols)

-- they ask for the same name and version
abbrev pub asks_same : Symbol → Symbol → Bool
asks_same u x = bytes_eq u.name x.name && same_version u.version x.version

-- the last that asks for the same stands for the others
abbrev pub last_alike : List Numbered → Symbol → Option ℕ
last_alike left x = option_map (λ p. p.0) (last_of (filter (λ p. asks_same p.1 x) left))

-- it is the last that asks for what it asks for
abbrev pub is_last_alike : List Numbered → Numbered → Bool
is_last_alike left u = is_number (last_alike left u.1) u.0

-- a plain name that marks the start or the end of a custom section (GNU ld, `__start_SECNAME` and `__stop_SECNAME` of sections whose names are C identifiers)
abbrev pub is_boundary : Stage → Symbol → Bool
is_boundary w x = is_none x.version
    && list_any (λ section. bytes_eq x.name (codes "__start_" ++ section) || bytes_eq x.name (codes "__stop_" ++ section))
    w.options.custom_sections

-- a new symbol is made for the last reference to the start or the end of a custom section
abbrev pub is_boundary_maker : Stage → List Numbered → Numbered → Bool
is_boundary_maker w left u = is_boundary w u.1 && is_last_alike left u

-- the references for which new symbols are made, in the order of those: new symbols are numbered by falling reference
abbrev pub boundary_makers : Stage → List Numbered → List Numbered
boundary_makers w left = reverse (filter (is_boundary_maker w left) left)

-- the new symbol of a name; new ids follow all others
abbrev pub new_symbol : Stage → List Numbered → Symbol → Option ℕ
new_symbol w made x = option_map (λ i. length w.symbols + i) (position (λ m. asks_same m.1 x) made)

-- what stands for an undefined name: its new symbol, else the last reference to it
abbrev pub canonical_undefined : Stage → List Numbered → Symbol → Option ℕ
canonical_undefined w left x = option_or (new_symbol w (boundary_makers w left) x) (last_alike left x)

-- the last reference to a name with a version keeps what it has
abbrev pub final_entry : Selection → List Numbered → List ℕ → ℕ → Symbol → ℕ
final_entry l left table s x =
    if not (stays_undefined l (s, x)) || (is_some x.version && is_last_alike left (s, x)) then slice_index table s
    else unwrap_or (canonical_undefined l.stage left x) s

-- the final table where these references stay undefined
abbrev pub final_table_over : Selection → List Numbered → List ℕ
final_table_over l left =
    each_from (final_entry l left (versioned_table l)) 0 l.stage.symbols
    ++ each_from (λ s m. s) (length l.stage.symbols) (boundary_makers l.stage left)

-- what each symbol, old or new, points to at the end
abbrev pub final_table : Selection → List ℕ
final_table l = final_table_over l (left_undefined l)

-- what a symbol means
abbrev pub definition : Selection → ℕ → ℕ
definition l s = two_steps (final_table l) s

-- a selection with its undefined references, the makers of new symbols, and the final table
pub record Resolution : Type 0 where
  pub selection : Selection
  pub left : List Numbered
  pub made : List Numbered
  pub table : List ℕ

-- the resolution where these references stay undefined
abbrev pub resolution_from : Selection → List Numbered → Resolution
resolution_from l left = record { selection = l; left = left; made = boundary_makers l.stage left; table = final_table_over l left }

-- the resolution of a selection
abbrev pub resolved : Selection → Resolution
resolved l = resolution_from l (left_undefined l)

-- the resolution of a world where these objects are loaded
abbrev pub resolution_of : Stage → List Bool → Resolution
resolution_of w marks = resolved (selection_of w marks)

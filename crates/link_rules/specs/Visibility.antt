-- The strictest visibility among the definitions of a name counts for each of them (ELF gABI, "Symbol Visibility": the most constraining one); a script of the
-- Rust form.
use Rattle.std.specs.Prelude.{ℕ, ◌&&◌, List, map, filter_map, fold, false, not, Option, Some, None, if◌then◌else◌, slice_get, slice_index}
use Rattle.std.specs.Int.RustNames.{bit_or}
use Rattle.std.specs.Option.{option_map_or}
use Rattle.link_flags.specs.FlagBits as flag
use Rattle.link_flags.specs.FlagBits.{has}
use Rattle.link_flags.specs.Strictness as visibility
use Rattle.link_flags.specs.declared.visibility.Visibility.{Visibility}
use Rattle.link_flags.specs.declared.visibility.Visibility.TheVariants.{Default}
use Rattle.link_rules.specs.Places.{Bytes, each_from, are_several, contains}
use Rattle.link_rules.specs.Flags.{flags_if, without_flag}
use Rattle.link_input.specs.Symbols.{Symbol, is_shared}
use Rattle.link_rules.specs.World.{Stage}
use Rattle.link_rules.specs.Names.{first_definition}
use Rattle.link_input.specs.Symbols.{visibility_in}
use Rattle.link_rules.specs.Marking.{visibility_flags, marked_flags}
use Rattle.link_rules.specs.Selection.{Selection}
use Rattle.link_rules.specs.Rivals.{plain_list, versioned_list, versioned_table, two_steps}

-- the visibility of the symbol of this id
abbrev pub visibility_of : Stage → ℕ → Visibility
visibility_of w s = option_map_or (λ x. visibility_in x.origin) (slice_get w.symbols s) Default

-- of symbols, loaded or not: the lists of names are made before anything is loaded
abbrev pub strictest : Stage → List ℕ → Visibility
strictest w entries = fold visibility.strictest Default (map (visibility_of w) entries)

-- what a list of several definitions makes of each that no shared file gives
abbrev pub list_flags : Stage → Symbol → List ℕ → ℕ
list_flags w x entries = flags_if (are_several entries && not (is_shared x.origin)) (visibility_flags (strictest w entries) false)

-- the flags of a symbol joined with those of its two lists
abbrev pub narrowed_symbol : Stage → List ℕ → ℕ → Symbol → ℕ
narrowed_symbol w flags s x =
    bit_or (slice_index flags s) (bit_or (list_flags w x (plain_list w x)) (list_flags w x (versioned_list w x)))

-- what the names stand for that a version script of the Rust form lists
abbrev pub rust_definitions : Selection → List Bytes → List ℕ
rust_definitions l names = map (two_steps (versioned_table l)) (filter_map (first_definition l.stage) names)

-- no other file may take the place of what stays local
abbrev pub closed_if_local : ℕ → ℕ
closed_if_local flags = bit_or flags (flags_if (has flags flag.downgrade_to_local) flag.non_interposable)

-- a listed name is not local
abbrev pub rust_flags : List ℕ → ℕ → ℕ → ℕ
rust_flags listed s flags =
    closed_if_local (if contains s listed then without_flag flags flag.downgrade_to_local else flags)

-- the flags that a script of the Rust form changes, if there is one
abbrev pub flags_by_script : Selection → Option (List Bytes) → List ℕ → List ℕ
flags_by_script l None flags = flags
flags_by_script l (Some names) flags = each_from (rust_flags (rust_definitions l names)) 0 flags

-- each symbol's flags once rivals are settled
abbrev pub narrowed_flags : Selection → List ℕ
narrowed_flags l =
    flags_by_script l l.stage.rules.rust_names (each_from (narrowed_symbol l.stage (marked_flags l)) 0 l.stage.symbols)

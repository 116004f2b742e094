-- What lists of rivals make of the flags of their symbols.
use Rattle.std.specs.Prelude.{◌≡◌, ℕ, List, Bool, not, true, map, if◌then◌else◌, slice_get, slice_index, slice_index_or}
use Rattle.std.specs.Option.{option_map_or}
use Rattle.std.specs.Int.RustNames.{bit_or}
use Rattle.link_flags.specs.declared.visibility.Visibility.{Visibility}
use Rattle.link_input.specs.Symbols.{Symbol, is_shared, visibility_in}
use Rattle.link_rules.specs.Flags.{flags_if}
use Rattle.link_rules.specs.Places.{contains, each_from, first_of, is_number}
use Rattle.link_rules.specs.Visibility.{list_flags}
use Rattle.link_rules.specs.World.{Stage}

-- the columns are those of the stage's symbols
pub record AreSeen (seen : List Visibility) (shared : List Bool) (w : Stage) : Type 0 where
  pub visibilities : seen ≡ map (λ x. visibility_in x.origin) w.symbols
  pub dynamic : shared ≡ map (λ x. is_shared x.origin) w.symbols

-- flags with these bits, unless the symbol is dynamic
abbrev pub joined_unless : List Bool → ℕ → ℕ → ℕ → ℕ
joined_unless dynamic bits s old = bit_or old (flags_if (not (slice_index_or dynamic s true)) bits)

-- the flags that a list gives to a symbol, if there is one
abbrev pub flags_by : Stage → List ℕ → ℕ → ℕ
flags_by w own s = option_map_or (λ x. list_flags w x own) (slice_get w.symbols s) 0

-- flags once this list alone is narrowed, if it begins with this head
abbrev pub narrowed_on : Stage → List ℕ → ℕ → ℕ → ℕ → ℕ
narrowed_on w own head s old =
    if is_number (first_of own) head then (if contains s own then bit_or old (flags_by w own s) else old) else old

-- the flags of a symbol joined with those of its list
abbrev pub narrowed_by : Stage → (ℕ → List ℕ) → List ℕ → ℕ → Symbol → ℕ
narrowed_by w listed flags s x = bit_or (slice_index flags s) (list_flags w x (listed s))

-- each symbol's flags joined with those of its list
abbrev pub narrowed : Stage → (ℕ → List ℕ) → List ℕ → List ℕ
narrowed w listed flags = each_from (narrowed_by w listed flags) 0 w.symbols

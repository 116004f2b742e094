-- Which references stay undefined, by columns of symbols.
use Rattle.std.specs.Prelude.{ℕ, ◌&&◌, ◌||◌, List, filter, Bool, true, false, not, Option, Some, None, slice_get}
use Rattle.std.specs.List.{enumerate_from}
use Rattle.std.specs.Option.{option_map_or}
use Rattle.link_input.specs.Symbols.{Symbol, object_in}
use Rattle.link_rules.specs.Loading.{is_origin_loaded}
use Rattle.link_rules.specs.Places.{same_number}
use Rattle.link_rules.specs.Undefined.{Numbered, is_weak_symbol}
use Rattle.link_rules.specs.World.{is_reference}
use Rattle.link_check_targets.specs.Tables.{object_at, target_at}

-- the symbols of a link, a mark for each loaded object, and what references stand for
pub record Known : Type 0 where
  pub symbols : List Symbol
  pub marks : List Bool
  pub targets : List (Option ℕ)

-- whether the file of the symbol of this id is loaded
abbrev pub is_held : Known → ℕ → Bool
is_held c t = option_map_or (λ x. is_origin_loaded c.marks x.origin) (slice_get c.symbols t) false

-- nothing that is loaded stands for a reference with this target
abbrev pub is_missing : Known → Symbol → Option ℕ → Bool
is_missing c u None = true
is_missing c u (Some t) = not (is_held c t) && (is_weak_symbol u || same_number (object_in u.origin) (object_at c.symbols t))

-- a reference of a loaded object that stays undefined
abbrev pub stays : Known → Numbered → Bool
stays c u = is_reference u.1 && is_origin_loaded c.marks u.1.origin && is_missing c u.1 (target_at c.targets u.0)

-- those among symbols of which the first has this id
abbrev pub left_from : Known → ℕ → List Symbol → List Numbered
left_from c i symbols = filter (stays c) (enumerate_from i symbols)

-- all of them
abbrev pub left_in : Known → List Numbered
left_in c = left_from c 0 c.symbols

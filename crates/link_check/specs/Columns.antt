-- Columns of a claimed link, by the ids of symbols.
use Rattle.std.specs.Prelude.{ℕ, List, Bool, Option, None, if◌then◌else◌}
use Rattle.link_input.specs.Symbols.{Symbol}
use Rattle.link_rules.specs.Loading.{is_origin_loaded}
use Rattle.link_check_targets.specs.Tables.{target_at}

-- the target that a column of all references has for a symbol, where its file is loaded
abbrev pub loaded_target_at : List Bool → List (Option ℕ) → ℕ → Symbol → Option ℕ
loaded_target_at marks targets s x = if is_origin_loaded marks x.origin then target_at targets s else None

-- The names that wraps map anew (`--wrap`), with the first definition of each.
use Rattle.std.specs.Prelude.{ℕ, ◌&&◌, ◌||◌, ◌++◌, List, Bool, false, true, Option, None, Some, codes, if◌then◌else◌}
use Rattle.std.specs.List.{list_any}
use Rattle.std.specs.Option.{option_or}
use Rattle.std.specs.Str.{bytes_eq}
use Rattle.link_input.specs.Symbols.{Symbol}
use Rattle.link_rules.specs.Names.{definitions_of, is_listed}
use Rattle.link_rules.specs.Places.{Bytes, first_of}

-- the name is the wrapped one, or the real name of that
abbrev pub is_wrap_of : Bytes → Bytes → Bool
is_wrap_of name wrap = bytes_eq name wrap || bytes_eq name (codes "__real_" ++ wrap)

-- one of these wraps maps the name anew
abbrev pub is_wrapped : List Bytes → Bytes → Bool
is_wrapped wraps name = list_any (is_wrap_of name) wraps

-- of each such name its first definition, if it has one
abbrev pub wrapped_first : List Bytes → List Symbol → Bytes → Option (Option ℕ)
wrapped_first wraps symbols name = if is_wrapped wraps name then Some (first_of (definitions_of symbols name)) else None

-- the name is one of these, and has no definition yet
abbrev pub lacks_first : Option (Option ℕ) → Bool
lacks_first None = false
lacks_first (Some None) = true
lacks_first (Some (Some first)) = false

-- the first definition of a name, with a symbol behind those so far
abbrev pub with_definition : ℕ → Symbol → Bytes → Option ℕ → Option ℕ
with_definition id x name first = option_or first (if is_listed x && bytes_eq x.name name then Some id else None)

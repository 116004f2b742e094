-- Which objects are loaded before any name is looked up.
use Rattle.std.specs.Prelude.{ℕ, ◌||◌, not, Bool, List}
use Rattle.link_closure.specs.Closure.{is_marked}
use Rattle.link_input.specs.ObjectFile.{ObjectFile, is_optional}
use Rattle.link_rules.specs.Places.{each_from}

-- an earlier batch had it loaded, or it isn't optional
abbrev pub is_kept : List Bool → ℕ → ObjectFile → Bool
is_kept earlier f o = is_marked earlier f || not (is_optional o)

-- a mark for each object
abbrev pub kept_marks : List Bool → List ObjectFile → List Bool
kept_marks earlier objects = each_from (is_kept earlier) 0 objects

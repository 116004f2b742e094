-- The references that stand for undefined names.
use Rattle.std.specs.Prelude.{◌&&◌, List, filter, not}
use Rattle.link_rules.specs.Undefined.{Numbered, is_boundary_maker, is_last_alike}
use Rattle.link_rules.specs.World.{Stage}

-- the last reference to each name for which no new symbol is made
abbrev pub undefined_references : Stage → List Numbered → List Numbered
undefined_references w left = filter (λ u. is_last_alike left u && not (is_boundary_maker w left u)) left

-- The plain names to which labels lead.
use Rattle.std.specs.Prelude.{ℕ, List, Option, None, Some, filter_map, is_none, if◌then◌else◌}
use Rattle.std.specs.Option.{option_and_then, option_map}
use Rattle.link_db_buckets.specs.declared.label.Label.{Label}
use Rattle.link_db_buckets.specs.Keys.{Key}

-- the name to which a label leads, where it leads to one without a version
abbrev pub plain_name : (Label → Option Key) → Label → Option (List ℕ)
plain_name names label = option_and_then (λ key. if is_none key.version then Some key.name else None) (names label)

-- the plain names to which labels lead, each with the number that comes with its label
abbrev pub plain_names : (Label → Option Key) → List (Label × ℕ) → List (List ℕ × ℕ)
plain_names names labels = filter_map (λ pair. option_map (λ name. (name, pair.1)) (plain_name names pair.0)) labels

use Rattle.std.proofs.Common.{◌≡◌, ℕ, List, drop}
use Rattle.std.specs.Prelude.{◌||◌}
use Rattle.link_names.specs.Names.{has_name, is_member}
use Rattle.link_db_texts.proofs.reading.name_set.Given as goal

abbrev pub invariant-loop-name : goal.invariant-loop-name
invariant-loop-name l =
    (asked : List ℕ) → (is_member l.set asked || has_name (drop l.name-index l.names) asked) ≡ has_name l.names asked

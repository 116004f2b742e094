use Rattle.std.proofs.Common.{◌≡◌, ◌||◌, ℕ, List, drop}
use Rattle.link_names.specs.Names.{has_name, is_member}
use Rattle.link_check_undefined.proofs.boundaries.names_of.Given as goal

abbrev pub invariant-loop-name : goal.invariant-loop-name
invariant-loop-name l = (asked : List ℕ) → is_member l.known asked || has_name (drop l.name-index l.names) asked ≡ has_name l.names asked

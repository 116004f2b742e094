use Rattle.std.proofs.Common.{◌≡◌, ℕ, List, drop, take}
use Rattle.link_names.specs.Names.{has_name, is_member}
use Rattle.link_input.specs.Checks.{first_place}
use Rattle.link_manifest.specs.Checked.{repeats_name}
use Rattle.link_manifest.proofs.sections.first_repeated.Given as goal

-- the search goes on among the names that are left, and the set has those before them
abbrev pub invariant-loop-place : goal.invariant-loop-place
invariant-loop-place l =
    (first_place (repeats_name l.names) l.place (drop l.place l.names) ≡ first_place (repeats_name l.names) 0 l.names)
    × ((asked : List ℕ) → is_member l.earlier asked ≡ has_name (take l.place l.names) asked)

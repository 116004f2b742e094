-- The objects that were found for root names as batches came.
use Rattle.std.specs.Prelude.{◌≡◌, ℕ, List, []}
use Rattle.std.specs.List.{slice_index_or}
use Rattle.link_rules.specs.declared.explanation.FoundRoot.{FoundRoot}
use Rattle.link_rules.specs.FoundRoots.{found_entries, found_for}
use Rattle.link_rules.specs.World.{Stage}

-- what was found for the entry, and what for each other root name, by its place among these
pub record Found : Type 0 where
  pub entries : List FoundRoot
  pub others : List (List FoundRoot)

-- this was found at these stages, and nothing else; where there is no list for a place, nothing was found for it
pub record AreFound (ws : List Stage) (found : Found) : Type 0 where
  pub entries_are : found.entries ≡ found_entries ws
  pub others_are : (i : ℕ) → slice_index_or found.others i [] ≡ found_for ws i

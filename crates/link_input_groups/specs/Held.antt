-- The groups of the batches that a link has so far.
use Rattle.std.specs.Prelude.{◌≡◌, ◌+◌, ◌*◌, ◌≤◌, List, [], ◌∷◌, length}
use Rattle.std.specs.List.{flat_map}
use Rattle.link_input.specs.declared.options.Options.{Options}
use Rattle.link_input.specs.InputFiles.{Batch}
use Rattle.link_input.specs.SequencedFiles.{sequenced_files}
use Rattle.link_input.specs.Limits.{AreWithinLimits, counts_of}
use Rattle.link_input_groups.specs.declared.group.Group.{Group}
use Rattle.link_input_groups.specs.Asked.{AllCanBeAsked}
use Rattle.link_input_groups.specs.FileIds.{HavePlaces}
use Rattle.link_input_groups.specs.Groups.{files_of}

-- groups of the prelude and of some batches: they hold its files with their ids, which the order of the batches alone gives
pub record HoldFiles {P : Type 0} (options : Options) (batches : List Batch) (groups : List (Group P)) : Type 0 where
  pub files : flat_map files_of groups ≡ sequenced_files options batches
  pub places : HavePlaces groups
  pub asked : AllCanBeAsked groups
  pub within : AreWithinLimits (counts_of options batches)
  pub few : length groups ≤ 1 + ((counts_of options batches).objects + 2 * length batches)

-- the groups of some batches; before the first batch there is none
abbrev pub AreGroupsOf : {P : Type 0} → Options → List Batch → List (Group P) → Type 0
AreGroupsOf options [] groups = groups ≡ []
AreGroupsOf options (b ∷ bs) groups = HoldFiles options (b ∷ bs) groups

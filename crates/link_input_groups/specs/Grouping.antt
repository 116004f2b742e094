-- The groups of a batch of files.
use Rattle.std.specs.Prelude.{ℕ, ◌≡◌, List, [], ◌∷◌, ◌++◌, map}
use Rattle.link_input.specs.declared.options.Options.{Options}
use Rattle.link_input.specs.InputFiles.{InputFile, object, linker_script, stub_input, Batch}
use Rattle.link_input.specs.ObjectFile.{ObjectFile}
use Rattle.link_input.specs.PreludeSymbols.{prelude_symbols}
use Rattle.link_input_groups.specs.declared.group.Group.{Group}
use Rattle.link_input_groups.specs.declared.group.Group.TheVariants as group
use Rattle.link_input_groups.specs.Cut.{IsCut, symbol_limit, symbols_in}
use Rattle.link_input_groups.specs.GroupsAdded.{group_files, one_group}

-- the group of the prelude
abbrev pub prelude_group : {P : Type 0} → Options → Group P
prelude_group options = group.Prelude (prelude_symbols options)

-- the groups that a batch begins with: the prelude's where no group is there before, and otherwise none
abbrev pub first_groups : {P : Type 0} → Options → List (Group P) → List (Group P)
first_groups options [] = prelude_group options ∷ []
first_groups options (g ∷ gs) = []

-- the files of each group that follows these: the prelude where none is there, a cut of the batch's objects, all its linker scripts, all its stub libraries
pub record AreGrouped {P : Type 0} (options : Options) (held : List (Group P)) (batch : Batch) (workers : ℕ) (groups : List (List InputFile)) : Type 0 where
  pub cuts : List (List ObjectFile)
  pub is_cut : IsCut options.files_per_group (symbol_limit workers (symbols_in batch.objects)) batch.objects cuts
  pub groups_are : groups ≡ map group_files (first_groups options held) ++ (map (λ cut. map object cut) cuts ++ (one_group (map linker_script batch.scripts) ++ one_group (map stub_input batch.stubs)))

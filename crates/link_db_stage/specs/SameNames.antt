-- Two databases of the same batches.
use Rattle.std.specs.Prelude.{ℕ, List}
use Rattle.link_input.specs.declared.options.Options.{Options}
use Rattle.link_input.specs.InputFiles.{Batch}
use Rattle.link_input_groups.specs.Held.{AreGroupsOf}
use Rattle.link_db_files.specs.GroupFiles.{symbols_in}
use Rattle.link_db_mapping.specs.Mapped.{AreListed, Mapped}

-- names and files of some batches, cut into groups of so many objects at most
pub record AreOfBatches {P : Type 0} (options : Options) (files_per_group : ℕ) (batches : List Batch) (m : Mapped P) : Type 0 where
  pub groups : AreGroupsOf (record options { files_per_group = files_per_group }) batches m.files.groups
  pub lists : AreListed (symbols_in m.files.groups) m

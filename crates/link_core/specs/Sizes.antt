-- Batches, by how many files of each kind they have.
use Rattle.std.specs.Prelude.{List, [], ◌∷◌, drop, length, take}
use Rattle.link_input.specs.declared.world.ProcessedLinkerScript.{ProcessedLinkerScript}
use Rattle.link_input.specs.declared.world.StubLibrary.{StubLibrary}
use Rattle.link_input.specs.InputFiles.{Batch}
use Rattle.link_input.specs.ObjectFile.{ObjectFile}
use Rattle.link_db_files.specs.Inputs.{objects_in, scripts_in, stubs_in}
use Rattle.link_input_groups.specs.declared.group.Group.{Group}
use Rattle.link_core.specs.declared.batch_size.BatchSize.{BatchSize}

-- how many files of each kind a batch has
abbrev pub size_of : Batch → BatchSize
size_of b = record { objects = length b.objects; scripts = length b.scripts; stubs = length b.stubs }

-- batches of these sizes, cut off these files one after another
abbrev pub cut_by : List BatchSize → List ObjectFile → List ProcessedLinkerScript → List StubLibrary → List Batch
cut_by [] objects scripts stubs = []
cut_by (n ∷ ns) objects scripts stubs =
    record { objects = take n.objects objects; scripts = take n.scripts scripts; stubs = take n.stubs stubs }
    ∷ cut_by ns (drop n.objects objects) (drop n.scripts scripts) (drop n.stubs stubs)

-- the batches of these sizes whose files groups hold
abbrev pub batches_in : {P : Type 0} → List BatchSize → List (Group P) → List Batch
batches_in sizes groups = cut_by sizes (objects_in groups) (scripts_in groups) (stubs_in groups)

-- The batches of a manifest: their keys, in the order in which they are walked.
use Rattle.std.specs.Prelude.{ℕ, List, [], ◌∷◌, Bool, Result, Ok, codes}
use Rattle.serde_json.specs.Data.{Data}
use Rattle.link_input.specs.declared.world.Inputs.{Inputs}
use Rattle.link_input.specs.ObjectFile.{ObjectFile}
use Rattle.link_manifest.specs.declared.contents.UncheckedBatch.{UncheckedBatch}
use Rattle.link_manifest.specs.declared.fault.ManifestFault.{ManifestFault}
use Rattle.link_manifest.specs.Libraries.{script_read, stub_read}
use Rattle.link_manifest.specs.Objects.{object_read}
use Rattle.link_manifest.specs.Reading.{and_read, list_read, object_of_keys, optional}

-- the objects that stand at a value
abbrev pub objects_read : Bool → Data → Result (List ObjectFile) ManifestFault
objects_read has_null value = optional (codes "objects") (list_read (object_read has_null)) [] value

-- the files that stand at a value, beside what was read of its objects
abbrev pub files_read : Result (List ObjectFile) ManifestFault → Data → Result UncheckedBatch ManifestFault
files_read objects value =
    and_read objects (λ objects.
    and_read (optional (codes "scripts") (list_read script_read) [] value) (λ scripts.
    and_read (optional (codes "stubs") (list_read stub_read) [] value) (λ stubs.
    Ok (record { objects = objects; scripts = scripts; stubs = stubs }))))

abbrev pub batch_keys : List (List ℕ)
batch_keys = codes "objects" ∷ codes "scripts" ∷ codes "stubs" ∷ []

-- a batch that comes behind others
abbrev pub batch_read : Bool → Data → Result UncheckedBatch ManifestFault
batch_read has_null value = and_read (object_of_keys batch_keys value) (λ _. files_read (objects_read has_null value) value)

-- the batches of a root: the one whose files stand there, beside what was read of its objects, and those behind it
abbrev pub batches_read : Bool → Result (List ObjectFile) ManifestFault → Data → Result (UncheckedBatch × List UncheckedBatch) ManifestFault
batches_read has_null objects value =
    and_read (files_read objects value) (λ first.
    and_read (optional (codes "batches") (list_read (batch_read has_null)) [] value) (λ later.
    Ok (first, later)))

-- the files of a batch
abbrev pub inputs_of : {P : Type 0} → UncheckedBatch → Inputs P
inputs_of batch = record { objects = batch.objects; scripts = batch.scripts; stubs = batch.stubs }

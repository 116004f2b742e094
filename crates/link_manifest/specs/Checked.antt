-- The checks of a manifest that was walked whole, and what they show of it.
use Rattle.std.specs.Prelude.{◌≢◌, ℕ, ◌+◌, ◌≤◌, List, [], ◌∷◌, Bool, AllPairs, take, Option, Some, None, Result, Ok, Err, ⊤, codes, if◌then◌else◌, length, nat_lt}
use Rattle.link_names.specs.Names.{has_name}
use Rattle.link_input.specs.Checks.{first_place, first_fault}
use Rattle.link_input.specs.declared.options.Options.{Options}
use Rattle.link_input.specs.declared.table_error.TableError.{TableError}
use Rattle.link_input.specs.ObjectFile.{ObjectFile}
use Rattle.link_manifest.specs.declared.fault.Step.TheVariants.{Key, Item}
use Rattle.link_manifest.specs.declared.fault.Problem.TheVariants.{Repeated, TooMany, Table}
use Rattle.link_manifest.specs.declared.fault.ManifestFault.{ManifestFault}
use Rattle.link_manifest.specs.declared.contents.Contents.{Contents}
use Rattle.link_manifest.specs.declared.contents.UncheckedBatch.{UncheckedBatch}
use Rattle.link_manifest.specs.declared.manifest.Manifest.{Manifest}
use Rattle.link_manifest.specs.declared.manifest.PlatformWorld.{PlatformWorld}
use Rattle.link_manifest.specs.declared.manifest.PlatformWorld.TheVariants.{Elf, Mach}
use Rattle.link_manifest.specs.Reading.{fault_here, within, and_read}

-- ---- custom sections

-- one of the names before this place is the same
abbrev pub repeats_name : List (List ℕ) → ℕ → List ℕ → Bool
repeats_name names place name = has_name (take place names) name

-- where a name is repeated, it is told
abbrev pub none_repeated : Option ℕ → Result ⊤ ManifestFault
none_repeated None = Ok tt
none_repeated (Some place) = within (Item place) (Err (fault_here Repeated))

-- no name repeats an earlier one
abbrev pub names_checked : List (List ℕ) → Result ⊤ ManifestFault
names_checked names = none_repeated (first_place (repeats_name names) 0 names)

-- ---- tables

-- where a check of a table fails, it is told
abbrev pub none_at_fault : Option TableError → Result ⊤ ManifestFault
none_at_fault None = Ok tt
none_at_fault (Some error) = Err (fault_here (Table error))

-- the tables of objects, of which the first has this place, pass the checks of a platform that has a null entry or has none
abbrev pub tables_checked : Bool → ℕ → List ObjectFile → Result ⊤ ManifestFault
tables_checked has_null place [] = Ok tt
tables_checked has_null place (object ∷ objects) =
    and_read (within (Item place) (none_at_fault (first_fault has_null object.object))) (λ _. tables_checked has_null (place + 1) objects)

-- ---- batches

-- at most 255 batches come behind the first one
abbrev pub few_batches : List UncheckedBatch → Result ⊤ ManifestFault
few_batches later = if nat_lt 255 (length later) then within (Key (codes "batches")) (Err (fault_here TooMany)) else Ok tt

-- the tables of a batch
abbrev pub batch_checked : Bool → UncheckedBatch → Result ⊤ ManifestFault
batch_checked has_null batch = within (Key (codes "objects")) (tables_checked has_null 0 batch.objects)

-- those of batches, of which the first has this place
abbrev pub batches_checked : Bool → ℕ → List UncheckedBatch → Result ⊤ ManifestFault
batches_checked has_null place [] = Ok tt
batches_checked has_null place (batch ∷ batches) =
    and_read (within (Item place) (batch_checked has_null batch)) (λ _. batches_checked has_null (place + 1) batches)

-- those of the batches behind the first one
abbrev pub later_checked : Bool → List UncheckedBatch → Result ⊤ ManifestFault
later_checked has_null later = within (Key (codes "batches")) (batches_checked has_null 0 later)

-- ---- all of it

-- no custom section stands twice, not too many batches come, and then the tables pass the checks, batch after batch
abbrev pub contents_checked : Bool → Contents → Result ⊤ ManifestFault
contents_checked has_null contents =
    and_read (within (Key (codes "custom_sections")) (names_checked contents.options.custom_sections)) (λ _.
    and_read (few_batches contents.later) (λ _.
    and_read (batch_checked has_null contents.first) (λ _.
    later_checked has_null contents.later)))

-- ---- what holds of every manifest

-- the options of a world, whatever its platform
abbrev pub options_of : PlatformWorld → Options
options_of (Elf world) = world.options
options_of (Mach world) = world.options

-- how many files may be one group
abbrev pub IsGroupSize : ℕ → Type 0
IsGroupSize n = (1 ≤ n) × (n ≤ 256)

-- no two of these names are equal
abbrev pub AreDistinct : List (List ℕ) → Type 0
AreDistinct names = AllPairs (λ name later. name ≢ later) names

-- at most how many files are to be one group is a number from 1 to 256
abbrev pub HasGroupSize : Manifest → Type 0
HasGroupSize manifest = IsGroupSize (options_of manifest.world).files_per_group

-- no two custom sections have the same name
abbrev pub HasDistinctSections : Manifest → Type 0
HasDistinctSections manifest = AreDistinct (options_of manifest.world).custom_sections

-- how many batches come behind the first one of a world
abbrev pub later_count : PlatformWorld → ℕ
later_count (Elf world) = length world.later
later_count (Mach world) = length world.later

-- they are no more than 255
abbrev pub HasFewBatches : Manifest → Type 0
HasFewBatches manifest = later_count manifest.world ≤ 255

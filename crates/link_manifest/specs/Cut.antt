-- What is read of a root that is cut around its objects.
use Rattle.std.specs.Prelude.{◌≡◌, ℕ, List, Bool, Some, Result, codes}
use Rattle.serde_json.specs.Data.{Data, array, Items}
use Rattle.serde_json.specs.Read.{read}
use Rattle.link_input.specs.ObjectFile.{ObjectFile}
use Rattle.link_manifest_json.specs.Spans.{IsRootOf}
use Rattle.link_manifest.specs.declared.fault.Step.TheVariants.{Key}
use Rattle.link_manifest.specs.declared.fault.ManifestError.{ManifestError}
use Rattle.link_manifest.specs.Objects.{object_read}
use Rattle.link_manifest.specs.Reading.{Reads, items_read, within}

-- the text is an object: this rest with one member more, the list of objects, of which this was read
abbrev pub IsReadBeside : Bool → List ℕ → Data → Result (List ObjectFile) ManifestError → Type 0
IsReadBeside has_null text rest objects =
    (values : Items) × (whole : Data) × IsRootOf (codes "objects") (array values) rest whole × (read text ≡ Some whole)
    × Reads objects (within (Key (codes "objects")) (items_read (object_read has_null) 0 values))

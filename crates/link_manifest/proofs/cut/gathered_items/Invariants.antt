use Rattle.std.proofs.Common.{Result}
use Rattle.serde_json.specs.Data.{Data, Items}
use Rattle.link_manifest.specs.declared.fault.ManifestFault.{ManifestFault}
use Rattle.link_manifest.specs.Reading.{AllRead}
use Rattle.link_manifest.proofs.Gathering.{IsLeft}
use Rattle.link_manifest.proofs.cut.gathered_items.Given as goal

-- what is left is read as the list is, and then comes behind what was gathered
abbrev pub invariant-loop-place : goal.invariant-loop-place
invariant-loop-place g l =
    (read : Data → Result _ ManifestFault) → (values : Items) → AllRead read values l.fn.answers.items
    → IsLeft read values l.place-iterator.count l.gathered.items l.place-iterator.iter.rest.items

use Rattle.std.proofs.Common.{◌≡◌, take}
use Rattle.std.specs.Prelude.{fold}
use Rattle.link_db_mapping.specs.Mapped.{mapping_of}
use Rattle.link_db_mapping.specs.Seen.{seen}
use Rattle.link_rules.specs.Names.{wrapped}
use Rattle.link_db.proofs.wrapping.wrap_all.Given as goal

abbrev pub invariant-loop-name : goal.invariant-loop-name
invariant-loop-name g l =
    (mapping_of (seen l.mapping) ≡ fold wrapped (mapping_of (seen l.fn.mapping)) (take l.name-index l.names))
    × ((seen l.mapping).lists ≡ (seen l.fn.mapping).lists) × ((seen l.mapping).files ≡ (seen l.fn.mapping).files)

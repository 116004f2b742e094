use Rattle.std.proofs.Common.{◌≤◌, List, length}
use Rattle.link_verdef.specs.declared.item.VersionItem.{VersionItem}
use Rattle.link_verdef.specs.Image.{IsImageOf}
use Rattle.link_verdef.proofs.Reading.{HasRead}
use Rattle.link_verdef.proofs.read.items_in.Given as goal

abbrev pub invariant-items : goal.invariant-items
invariant-items l = record {
  within : length l.names ≤ length l.strings;
  reads : (all : List VersionItem) → IsImageOf all l.records l.strings → HasRead all l.items l.places.items l.names l.rest;
}

abbrev pub decreases-items : goal.decreases-items
decreases-items l = length l.names

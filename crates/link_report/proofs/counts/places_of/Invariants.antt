use Rattle.std.proofs.Common.{◌≡◌, take}
use Rattle.std.specs.HashSet.{contains}
use Rattle.link_rules.specs.Comdat.{GroupPlace, is_same_place}
use Rattle.link_report.specs.Summary.{is_kept}
use Rattle.link_report.proofs.counts.places_of.Given as goal

abbrev pub invariant-loop-group : goal.invariant-loop-group
invariant-loop-group l = (place : GroupPlace) → contains is_same_place l.places place ≡ is_kept (take l.group-index l.groups) place

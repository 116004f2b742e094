use Rattle.std.proofs.Common.{◌≡◌, take}
use Rattle.link_db_buckets.specs.Runs.{joined}
use Rattle.link_db_mapping.specs.Parts.{definitions_in}
use Rattle.link_db_mapping.proofs.parts.lists_of.Given as goal

abbrev pub invariant-loop-part : goal.invariant-loop-part
invariant-loop-part l = joined l.lists.items ≡ definitions_in (take l.part-index l.parts)

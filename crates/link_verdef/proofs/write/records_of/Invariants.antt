use Rattle.std.proofs.Common.{◌≡◌, ◌++◌, drop, length}
use Rattle.std.specs.List.{enumerate_from, flat_map}
use Rattle.link_verdef.specs.Records.{item_bytes, verdef_records}
use Rattle.link_verdef.specs.Strings.{place_of}
use Rattle.link_verdef.proofs.write.records_of.Given as goal

abbrev pub invariant-loop-number : goal.invariant-loop-number
invariant-loop-number l =
    l.records.items ++ flat_map (item_bytes (length l.items) (place_of l.items)) (enumerate_from l.number (drop l.number l.items)) ≡ verdef_records l.items

use Rattle.std.proofs.Common.{◌≡◌, take, map}
use Rattle.std.specs.List.{range_with_len}
use Rattle.link_verdef.specs.Strings.{place_of, verdef_strings}
use Rattle.link_verdef.proofs.write.strings_of.Given as goal

abbrev pub invariant-loop-item : goal.invariant-loop-item
invariant-loop-item l = record {
  bytes : l.bytes.items ≡ verdef_strings (take l.item-index l.items);
  places : l.places.items ≡ map (place_of l.items) (range_with_len 0 l.item-index);
}

use Rattle.std.proofs.Common.{◌≡◌, ℕ, List, Some, None, if◌then◌else◌}
use Rattle.std.specs.Option.{option_or}
use Rattle.link_names.specs.Names.{AreNoted, is_member, noted_in, value_in}
use Rattle.link_names.proofs.name_map.NameMap.note_all.Given as goal

abbrev pub invariant-loop-name : goal.invariant-loop-name
invariant-loop-name g l = record {
  noted : AreNoted l.names (noted_in l.name-iterator);
  so_far : (asked : List ℕ) →
      option_or (value_in l.self asked) (if is_member (noted_in l.name-iterator) asked then Some l.value else None)
      ≡ option_or (value_in l.fn.self asked) (if is_member l.names asked then Some l.value else None);
}

use Rattle.std.proofs.Common.{◌≡◌, ◌+◌, ◌++◌, length, map}
use Rattle.std.specs.Vec.Iter.{into_iter_items}
use Rattle.link_input.specs.InputFiles.{object, symbol_count, section_count}
use Rattle.link_input.specs.SequencedFiles.{sequenced}
use Rattle.link_input_groups.specs.Groups.{object_file}
use Rattle.link_input.specs.Limits.{total}
use Rattle.link_input_groups.specs.FileIds.{ids_from}
use Rattle.link_input_groups.proofs.sequencing.sequence_objects.Given as goal

abbrev pub invariant-loop-parsed : goal.invariant-loop-parsed
invariant-loop-parsed g l = record {
  files : map object_file l.files.items ++ sequenced l.next.symbols l.next.sections (map object (into_iter_items l.parsed-iterator)) ≡ sequenced l.fn.next.symbols l.fn.next.sections (map object l.fn.objects.items);
  ids : map (λ o. o.file_id) l.files.items ++ ids_from l.group (length l.files.items) (into_iter_items l.parsed-iterator) ≡ ids_from l.group 0 l.fn.objects.items;
  place : length l.files.items + length (into_iter_items l.parsed-iterator) ≡ length l.fn.objects.items;
  symbols : l.next.symbols + total symbol_count (map object (into_iter_items l.parsed-iterator)) ≡ l.fn.next.symbols + total symbol_count (map object l.fn.objects.items);
  sections : l.next.sections + total section_count (map object (into_iter_items l.parsed-iterator)) ≡ l.fn.next.sections + total section_count (map object l.fn.objects.items);
}

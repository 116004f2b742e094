use Rattle.std.proofs.Common.{◌≡◌, ◌+◌, ◌++◌, length, map}
use Rattle.std.specs.Vec.Iter.{into_iter_items}
use Rattle.link_input.specs.InputFiles.{symbol_count, stub_input}
use Rattle.link_input.specs.SequencedFiles.{sequenced}
use Rattle.link_input_groups.specs.Groups.{stub_file}
use Rattle.link_input.specs.Limits.{total}
use Rattle.link_input_groups.specs.FileIds.{ids_from}
use Rattle.link_input_groups.proofs.sequencing.sequence_stubs.Given as goal

abbrev pub invariant-loop-stub : goal.invariant-loop-stub
invariant-loop-stub l = record {
  files : map stub_file l.files.items ++ sequenced l.next.symbols l.next.sections (map stub_input (into_iter_items l.stub-iterator)) ≡ sequenced l.fn.next.symbols l.fn.next.sections (map stub_input l.fn.stubs.items);
  ids : map (λ s. s.file_id) l.files.items ++ ids_from l.group (length l.files.items) (into_iter_items l.stub-iterator) ≡ ids_from l.group 0 l.fn.stubs.items;
  place : length l.files.items + length (into_iter_items l.stub-iterator) ≡ length l.fn.stubs.items;
  symbols : l.next.symbols + total symbol_count (map stub_input (into_iter_items l.stub-iterator)) ≡ l.fn.next.symbols + total symbol_count (map stub_input l.fn.stubs.items);
  sections : l.next.sections ≡ l.fn.next.sections;
}

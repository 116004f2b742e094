use Rattle.std.proofs.Common.{◌≡◌, ◌+◌, ◌++◌, length, map}
use Rattle.std.specs.Vec.Iter.{into_iter_items}
use Rattle.link_input.specs.InputFiles.{linker_script, symbol_count}
use Rattle.link_input.specs.SequencedFiles.{sequenced}
use Rattle.link_input_groups.specs.Groups.{script_file}
use Rattle.link_input.specs.Limits.{total}
use Rattle.link_input_groups.specs.FileIds.{ids_from}
use Rattle.link_input_groups.proofs.sequencing.sequence_scripts.Given as goal

abbrev pub invariant-loop-parsed : goal.invariant-loop-parsed
invariant-loop-parsed l = record {
  files : map script_file l.files.items ++ sequenced l.next.symbols l.next.sections (map linker_script (into_iter_items l.parsed-iterator)) ≡ sequenced l.fn.next.symbols l.fn.next.sections (map linker_script l.fn.scripts.items);
  ids : map (λ s. s.file_id) l.files.items ++ ids_from l.group (length l.files.items) (into_iter_items l.parsed-iterator) ≡ ids_from l.group 0 l.fn.scripts.items;
  place : length l.files.items + length (into_iter_items l.parsed-iterator) ≡ length l.fn.scripts.items;
  symbols : l.next.symbols + total symbol_count (map linker_script (into_iter_items l.parsed-iterator)) ≡ l.fn.next.symbols + total symbol_count (map linker_script l.fn.scripts.items);
  sections : l.next.sections ≡ l.fn.next.sections;
}

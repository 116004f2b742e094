use Rattle.std.proofs.Common.{◌≡◌, ◌+◌, ◌++◌, drop, length, map}
use Rattle.std.specs.List.{AllByRecursion, flat_map}
use Rattle.link_input_groups.specs.Asked.{HasIdsForAll}
use Rattle.link_input_groups.specs.Groups.{length_of_spans, stub_file}
use Rattle.link_rules.specs.World.{Stage}
use Rattle.link_db_ingest.specs.Files.{file_definitions, file_flags, numbers_of}
use Rattle.link_db_ingest.proofs.group.load_stubs.Given as goal

abbrev pub invariant-loop-stub : goal.invariant-loop-stub
invariant-loop-stub l = record {
  tables : AllByRecursion HasIdsForAll (map stub_file (drop l.stub-index l.stubs));
  definitions : l.read.definitions.items ++ flat_map file_definitions (map stub_file (drop l.stub-index l.stubs))
      ≡ l.fn.read.definitions.items ++ flat_map file_definitions (map stub_file l.stubs);
  flags : (w : Stage) → numbers_of l.read.flags.items ++ flat_map (file_flags w) (map stub_file (drop l.stub-index l.stubs))
      ≡ numbers_of l.fn.read.flags.items ++ flat_map (file_flags w) (map stub_file l.stubs);
  count : length l.read.flags.items + length_of_spans (map (λ o. o.symbol_id_range) (drop l.stub-index l.stubs))
      ≡ length l.fn.read.flags.items + length_of_spans (map (λ o. o.symbol_id_range) l.stubs);
}

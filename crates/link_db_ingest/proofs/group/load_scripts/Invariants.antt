use Rattle.std.proofs.Common.{◌≡◌, ◌+◌, ◌++◌, drop, length, map}
use Rattle.std.specs.List.{AllByRecursion, flat_map}
use Rattle.link_input_groups.specs.Asked.{HasIdsForAll}
use Rattle.link_input_groups.specs.Groups.{length_of_spans, script_file}
use Rattle.link_rules.specs.World.{Stage}
use Rattle.link_db_ingest.specs.Files.{file_definitions, file_flags, numbers_of}
use Rattle.link_db_ingest.proofs.group.load_scripts.Given as goal

abbrev pub invariant-loop-script : goal.invariant-loop-script
invariant-loop-script l = record {
  tables : AllByRecursion HasIdsForAll (map script_file (drop l.script-index l.scripts));
  definitions : l.read.definitions.items ++ flat_map file_definitions (map script_file (drop l.script-index l.scripts))
      ≡ l.fn.read.definitions.items ++ flat_map file_definitions (map script_file l.scripts);
  flags : (w : Stage) → numbers_of l.read.flags.items ++ flat_map (file_flags w) (map script_file (drop l.script-index l.scripts))
      ≡ numbers_of l.fn.read.flags.items ++ flat_map (file_flags w) (map script_file l.scripts);
  count : length l.read.flags.items + length_of_spans (map (λ o. o.symbol_id_range) (drop l.script-index l.scripts))
      ≡ length l.fn.read.flags.items + length_of_spans (map (λ o. o.symbol_id_range) l.scripts);
}

use Rattle.std.proofs.Common.{◌≡◌, ◌+◌, ◌++◌, drop, length, map}
use Rattle.std.specs.List.{AllByRecursion, flat_map}
use Rattle.link_input_groups.specs.Asked.{HasIdsForAll}
use Rattle.link_input_groups.specs.Groups.{length_of_spans, object_file}
use Rattle.link_rules.specs.World.{Stage}
use Rattle.link_db_texts.specs.Holds.{platform_of}
use Rattle.link_db_ingest.specs.Files.{IsStageBy, file_definitions, file_flags, numbers_of}
use Rattle.link_db_ingest.proofs.group.load_objects.Given as goal

abbrev pub invariant-loop-object : goal.invariant-loop-object
invariant-loop-object g l = record {
  tables : AllByRecursion HasIdsForAll (map (λ o. object_file o) (drop l.object-index l.objects));
  definitions : l.read.definitions.items ++ flat_map file_definitions (map (λ o. object_file o) (drop l.object-index l.objects))
      ≡ l.fn.read.definitions.items ++ flat_map file_definitions (map (λ o. object_file o) l.objects);
  flags : (w : Stage) → IsStageBy (platform_of g.P.Platform) (g.D.Demangler.demangled l.demangler) l.rules l.output w
      → numbers_of l.read.flags.items ++ flat_map (file_flags w) (map (λ o. object_file o) (drop l.object-index l.objects))
      ≡ numbers_of l.fn.read.flags.items ++ flat_map (file_flags w) (map (λ o. object_file o) l.objects);
  count : length l.read.flags.items + length_of_spans (map (λ o. o.symbol_id_range) (drop l.object-index l.objects))
      ≡ length l.fn.read.flags.items + length_of_spans (map (λ o. o.symbol_id_range) l.objects);
}

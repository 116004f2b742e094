use Rattle.std.proofs.Common.{◌≡◌, ◌+◌, ◌++◌, drop, length}
use Rattle.std.specs.List.{flat_map}
use Rattle.link_input_groups.specs.Groups.{files_of}
use Rattle.link_input.specs.Symbols.{symbols_of}
use Rattle.link_db_files.specs.GroupFiles.{symbols_in}
use Rattle.link_db_symbols.specs.Walk.{without_ids}
use Rattle.link_db_files.proofs.Outlined.{outlines}
use Rattle.link_db_symbols.proofs.OwnSymbols.{objects_from}
use Rattle.link_db_symbols.proofs.objects.object_symbols.Given as goal

abbrev pub invariant-loop-file : goal.invariant-loop-file
invariant-loop-file g l =
    (l.objects.items ++ objects_from (length l.objects.items) l.first (without_ids l.file-iterator) ≡ objects_from 0 0 (without_ids (flat_map files_of l.files.groups)))
    × (l.first + length (symbols_of (length l.objects.items) (without_ids l.file-iterator)) ≡ length (symbols_in l.files.groups))
    × (drop l.place l.outlines ≡ outlines l.file-iterator)

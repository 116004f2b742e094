use Rattle.std.proofs.Common.{◌≡◌, ◌<◌, ◌++◌, All, drop, length}
use Rattle.std.specs.List.{enumerate_from, flat_map}
use Rattle.link_db_files.specs.GroupFiles.{symbols_in}
use Rattle.link_db_files.specs.Inputs.{objects_in}
use Rattle.link_resolve_discarded.specs.Signatures.{signatures_at}
use Rattle.link_resolve_discarded.proofs.signatures.listed_signatures.Given as goal

-- the symbols so far, and those that name groups of the objects that are left
abbrev pub invariant-loop-object : goal.invariant-loop-object
invariant-loop-object g l = record {
  ids : l.ids.items ++ flat_map (signatures_at l.kept (symbols_in l.files.groups)) (drop l.object-index l.object-items)
      ≡ flat_map (signatures_at l.kept (symbols_in l.files.groups)) (enumerate_from 0 (objects_in l.files.groups));
  below : All (λ s. s < length (symbols_in l.files.groups)) l.ids.items;
}

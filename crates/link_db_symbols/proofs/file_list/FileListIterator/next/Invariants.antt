use Rattle.std.proofs.Common.{◌≡◌, length}
use Rattle.link_db_symbols.specs.Walk.{files_from}
use Rattle.link_db_symbols.proofs.file_list.FileListIterator.next.Given as goal

abbrev pub invariant-loop-group : goal.invariant-loop-group
invariant-loop-group g l = files_from l.self-inside.place l.self-inside.groups.now ≡ files_from l.initial.self-inside.place l.initial.self-inside.groups.now

abbrev pub decreases-loop-group : goal.decreases-loop-group
decreases-loop-group g l = length l.self-inside.groups.now

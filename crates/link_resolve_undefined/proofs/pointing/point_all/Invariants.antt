use Rattle.std.proofs.Common.{◌≡◌, drop}
use Rattle.link_db_files.specs.GroupFiles.{symbols_in}
use Rattle.link_resolve_undefined.specs.Edited.{edited}
use Rattle.link_resolve_undefined.specs.Pointed.{pointed}
use Rattle.link_resolve_undefined.specs.Records.{numbered_at}
use Rattle.link_resolve_undefined.proofs.pointing.point_all.Given as goal

abbrev pub invariant-loop-id : goal.invariant-loop-id
invariant-loop-id g l =
    edited (pointed l.asked) (numbered_at (symbols_in l.files.groups) (drop l.id-index l.left)) l.table
    ≡ edited (pointed l.asked) (numbered_at (symbols_in l.files.groups) l.left) l.initial.table

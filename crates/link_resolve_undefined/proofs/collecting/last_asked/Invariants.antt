use Rattle.std.proofs.Common.{◌≡◌, None, drop}
use Rattle.std.specs.List.{last_or}
use Rattle.link_db_files.specs.GroupFiles.{symbols_in}
use Rattle.link_input.specs.Symbols.{Symbol}
use Rattle.link_resolve_undefined.specs.NameIds.{id_in}
use Rattle.link_resolve_undefined.specs.Records.{numbered_at}
use Rattle.link_resolve_undefined.proofs.Alike.{ids_asking}
use Rattle.link_resolve_undefined.proofs.collecting.last_asked.Given as goal

abbrev pub invariant-loop-id : goal.invariant-loop-id
invariant-loop-id g l = (x : Symbol) →
    last_or (id_in l.last x.name x.version) (ids_asking (numbered_at (symbols_in l.files.groups) (drop l.id-index l.left)) x)
    ≡ last_or None (ids_asking (numbered_at (symbols_in l.files.groups) l.left) x)

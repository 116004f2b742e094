-- Names that are mapped anew.
use Rattle.std.specs.Prelude.{◌≡◌}
use Rattle.link_db.specs.Database.{Database}

-- but for what names were overridden with, all is as before: the same files, lists, table and rules
abbrev pub IsMappedAnew : {P : Type 0} → Database P → Database P → Type 0
IsMappedAnew old new = new ≡ record old { mapping = record old.mapping { overridden = new.mapping.overridden } }

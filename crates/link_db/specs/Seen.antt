-- What a database says.
use Rattle.link_input.specs.declared.platform.Platform.{Ghosts}
use Rattle.link_db_mapping.specs.Seen as names
use Rattle.link_db.specs.declared.database.SymbolDb.{SymbolDb}
use Rattle.link_db.specs.Database.{Database}

-- its options and rules, what its mapping says of names, and its table
abbrev pub seen : {P : Type 0} {G : Ghosts P} → SymbolDb P G → Database P
seen db = record { options = db.options; rules = db.rules; workers = db.workers; mapping = names.seen db.mapping; table = db.table.items }

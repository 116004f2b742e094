use Rattle.std.proofs.Common.{◌≡◌, drop, length}
use Rattle.link_flags.specs.FlagWords.{numbers_of, words_of}
use Rattle.link_rules.specs.Places.{each_from}
use Rattle.link_db.specs.Database.{symbol_names}
use Rattle.link_db.specs.RustForm.{freed}
use Rattle.link_db.specs.RustScript.{freed_symbols}
use Rattle.link_db.specs.Seen.{seen}
use Rattle.link_db.proofs.database.SymbolDb.free_names.Given as goal

abbrev pub invariant-loop-name : goal.invariant-loop-name
invariant-loop-name g l =
    (each_from (freed (freed_symbols (seen l.self) (drop l.name-index l.names))) 0 (numbers_of (words_of l.flags))
    ≡ each_from (freed (freed_symbols (seen l.self) l.names)) 0 (numbers_of (words_of l.fn.flags)))
    × (length (words_of l.flags) ≡ length (symbol_names (seen l.self)))

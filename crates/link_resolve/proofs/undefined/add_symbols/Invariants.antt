use Rattle.std.proofs.Common.{◌≡◌, ◌+◌, length}
use Rattle.link_db_files.specs.Adding.{EndsInSynthetic}
use Rattle.link_flags.specs.FlagWords.{words_of}
use Rattle.link_db.specs.Database.{HasTable, symbol_names}
use Rattle.link_db.specs.Seen.{seen}
use Rattle.link_resolve.proofs.Making.{IsMade}
use Rattle.link_resolve.specs.Settled.{with_linker_symbols}
use Rattle.link_resolve.proofs.undefined.add_symbols.Given as goal

-- the symbols so far, how many names there are with them, and that one more can be added
abbrev pub invariant-loop-name : goal.invariant-loop-name
invariant-loop-name g l = record {
  made : IsMade (with_linker_symbols l.yielded (seen l.fn.db).mapping) (seen l.fn.db) (seen l.db);
  count : length (symbol_names (seen l.db)) ≡ length (symbol_names (seen l.fn.db)) + length l.yielded;
  last : EndsInSynthetic (seen l.db).mapping.files.groups;
  table : HasTable (seen l.db);
  flags : length (words_of l.flags) ≡ length (symbol_names (seen l.db));
}

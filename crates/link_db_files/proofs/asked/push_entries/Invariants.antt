use Rattle.std.proofs.Common.{◌≡◌, ◌++◌, drop, map}
use Rattle.link_db_files.specs.Asked.{entry_asked}
use Rattle.link_db_files.proofs.asked.push_entries.Given as goal

-- those so far, and those of the entries that are left
abbrev pub invariant-loop-place : goal.invariant-loop-place
invariant-loop-place g l = l.asked.items ++ map entry_asked (drop l.place l.fn.object.symbols) ≡ l.fn.asked.items ++ map entry_asked l.fn.object.symbols

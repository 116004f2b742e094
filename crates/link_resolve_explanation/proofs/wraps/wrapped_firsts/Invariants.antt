use Rattle.std.proofs.Common.{◌≡◌, List, ℕ}
use Rattle.link_db_files.specs.GroupFiles.{symbols_in}
use Rattle.link_names.specs.Names.{value_in}
use Rattle.link_resolve_explanation.specs.Wraps.{wrapped_first}
use Rattle.link_resolve_explanation.proofs.Wrapping.{passed}
use Rattle.link_resolve_explanation.proofs.wraps.wrapped_firsts.Given as goal

-- what is noted so far, and what the symbols that are left give
abbrev pub invariant-loop-id : goal.invariant-loop-id
invariant-loop-id g l = (asked : List ℕ)
    → passed asked l.id-iterator.next l.id-iterator.left (value_in l.firsts asked) ≡ wrapped_first l.wraps (symbols_in l.files.groups) asked

use Rattle.std.proofs.Common.{◌≡◌, ◌++◌, map}
use Rattle.link_input.specs.Symbols.{Symbol}
use Rattle.link_db_files.specs.GroupFiles.{symbols_in}
use Rattle.link_rules.specs.Selection.{surviving_origin}
use Rattle.link_db_symbols.proofs.strengths.surviving_strengths.Given as goal

abbrev pub invariant-loop-symbol : goal.invariant-loop-symbol
invariant-loop-symbol g l =
    let survives = λ (x : Symbol). surviving_origin l.loaded (g.D.DiscardedSections.discarded l.discarded) x.origin in
    l.strengths.items ++ map survives l.symbol-iterator.left ≡ map survives (symbols_in l.files.groups)

use Rattle.std.proofs.Common.{◌≡◌, ◌++◌, ◌+◌, ◌≤◌, drop, List}
use Rattle.link_input.specs.SequencedFiles.{SequencedFile}
use Rattle.link_input.specs.Symbols.{symbols_of}
use Rattle.link_db_files.specs.Sources.{sources_of}
use Rattle.link_db_files.proofs.Numbered.{bare}
use Rattle.link_db_files.proofs.Outlined.{outlines}
use Rattle.link_db_files.proofs.sources.sources_of.Given as goal

-- where the symbols so far stand, and those of the files that are left
abbrev pub invariant-loop-outline : goal.invariant-loop-outline
invariant-loop-outline l =
    (l.before ≤ l.objects + l.outline-index)
    × ((files : List SequencedFile) → l.outlines ≡ outlines files → l.sources.items ++ sources_of (symbols_of l.before (bare (drop l.outline-index files))) ≡ sources_of (symbols_of l.objects (bare files)))

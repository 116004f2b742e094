use Rattle.std.proofs.Common.{◌≡◌, drop}
use Rattle.link_resolve_extraction.specs.Answer.{references_in, with_references}
use Rattle.link_resolve_extraction.proofs.answer.write_all.Given as goal

-- what is left to be written makes of the targets so far what all makes of those at first
abbrev pub invariant-loop-item : goal.invariant-loop-item
invariant-loop-item l =
    with_references l.targets (references_in (drop l.item-index l.found)) ≡ with_references l.fn.targets (references_in l.found)

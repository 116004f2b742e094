use Rattle.std.proofs.Common.{◌≡◌, drop}
use Rattle.link_resolve_extraction.specs.Answer.{with_references}
use Rattle.link_resolve_extraction.proofs.answer.write_references.Given as goal

-- what is left to be written makes of the targets so far what all makes of those at first
abbrev pub invariant-loop-reference : goal.invariant-loop-reference
invariant-loop-reference l = with_references l.targets (drop l.reference-index l.references) ≡ with_references l.fn.targets l.references

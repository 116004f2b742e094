use Rattle.std.proofs.Common.{◌≡◌, drop}
use Rattle.std.specs.Prelude.{fold}
use Rattle.link_check_roots.specs.Given.{redirected_in}
use Rattle.link_check_roots.specs.Marks.{marked_by}
use Rattle.link_check_roots.proofs.definitions.mark_redirects.Given as goal

abbrev pub invariant-loop-definition : goal.invariant-loop-definition
invariant-loop-definition l =
    fold (marked_by l.names) l.marks (redirected_in (drop l.definition-index l.definitions)) ≡ fold (marked_by l.names) l.initial.marks (redirected_in l.definitions)

use Rattle.std.proofs.Common.{◌≤◌, length}
use Rattle.link_script_syntax.proofs.Sections.{Sorted}
use Rattle.link_script_syntax.proofs.body.pieces_at.Given as goal

abbrev pub invariant-turns : goal.invariant-turns
invariant-turns l = record {
  sorted : Sorted l.profile l.globals l.locals l.now l.rest l.text;
  shorter : length l.rest ≤ length l.text;
}

abbrev pub decreases-turns : goal.decreases-turns
decreases-turns l = length l.rest

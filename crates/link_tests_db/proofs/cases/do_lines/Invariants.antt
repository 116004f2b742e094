use Rattle.link_tests_db.specs.Staged.{IsAtStage}
use Rattle.link_tests_db.proofs.cases.do_lines.Given as goal

abbrev pub invariant-loop-words : goal.invariant-loop-words
invariant-loop-words g l = IsAtStage l.link

use Rattle.link_desk.specs.Openings.{no_options, no_texts}
use Rattle.link_tests_desk.proofs.tests.a_pass_is_missing.Given as goal

-- the ledger that the blank is of, and what its session is opened with
abbrev pub ghosts-without_the_second-L-Opening : goal.ghosts-without_the_second-L-Opening
ghosts-without_the_second-L-Opening g a = record { options = no_options; texts = no_texts }

abbrev pub ghosts-without_the_second-L-Ledger : goal.ghosts-without_the_second-L-Ledger
ghosts-without_the_second-L-Ledger g a = record { name = a.blank.name; parts = a.blank.parts }

use Rattle.link_desk.specs.Openings.{no_options, no_texts}
use Rattle.link_tests_desk.proofs.tests.reads_own_add.Given as goal

-- the ledger that the blank is of, and what its session is opened with
abbrev pub ghosts-two_threads-L-Opening : goal.ghosts-two_threads-L-Opening
ghosts-two_threads-L-Opening g a = record { options = no_options; texts = no_texts }

abbrev pub ghosts-two_threads-L-Ledger : goal.ghosts-two_threads-L-Ledger
ghosts-two_threads-L-Ledger g a = record { name = a.blank.name; parts = a.blank.parts }

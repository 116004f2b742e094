use Rattle.link_desk.specs.Openings.{no_options, no_texts}
use Rattle.link_tests_desk.proofs.tests.calls_are_replied.Given as goal

-- the ledger that the blank is of, and what its session is opened with
abbrev pub ghosts-are_replied-L-Opening : goal.ghosts-are_replied-L-Opening
ghosts-are_replied-L-Opening g a = record { options = no_options; texts = no_texts }

abbrev pub ghosts-are_replied-L-Ledger : goal.ghosts-are_replied-L-Ledger
ghosts-are_replied-L-Ledger g a = record { name = a.blank.name; parts = a.blank.parts }

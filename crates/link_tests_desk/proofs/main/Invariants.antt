use Rattle.link_desk.specs.Openings.{no_options, no_texts}
use Rattle.link_tests_desk.proofs.main.Given as goal

-- the ledger that the blank is of, and what its session is opened with
abbrev pub ghosts-alone-L-Opening : goal.ghosts-alone-L-Opening
ghosts-alone-L-Opening g a = record { options = no_options; texts = no_texts }

abbrev pub ghosts-alone-L-Ledger : goal.ghosts-alone-L-Ledger
ghosts-alone-L-Ledger g a = record { name = a.blank.name; parts = a.blank.parts }

-- the ledger that the blank is of, and what its session is opened with
abbrev pub ghosts-together-L-Opening : goal.ghosts-together-L-Opening
ghosts-together-L-Opening g a = record { options = no_options; texts = no_texts }

abbrev pub ghosts-together-L-Ledger : goal.ghosts-together-L-Ledger
ghosts-together-L-Ledger g a = record { name = a.blank.name; parts = a.blank.parts }

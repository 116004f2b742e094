use Rattle.link_claim.proofs.words.tell_one_work.Given as goal

-- the work of the plan
abbrev pub ghosts-tell_work : goal.ghosts-tell_work
ghosts-tell_work g a = record { work = g.P.Plan.work a.shared.now.key }

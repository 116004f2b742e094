use Rattle.link_claim.proofs.flags.join_missing.Given as goal

-- the bits that the call was given
abbrev pub ghosts-look_for : goal.ghosts-look_for
ghosts-look_for g a = record { bits = a.bits }

use Rattle.link_program.proofs.gc.sections_answer.Goals as goal

-- the text is that of the sections that are live
pub returns-clause-text : goal.returns-clause-text
returns-clause-text g c = λ w linked parts. c.in_ok-text.ensures w linked parts (c.in-Ok.ensures w linked parts)

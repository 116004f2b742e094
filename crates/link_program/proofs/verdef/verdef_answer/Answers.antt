use Rattle.link_program.proofs.verdef.verdef_answer.Goals as goal

-- where no soname is given, the options say so
pub returns-in-None : goal.returns-in-None
returns-in-None c = rw c.in-None.is (c.answer_without_soname.ensures c.args.options.now c.args.scripts.now)

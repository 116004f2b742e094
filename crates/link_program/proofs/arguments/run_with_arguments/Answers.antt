use Rattle.std.proofs.Common.{◌∙◌}
use Rattle.link_program.proofs.arguments.run_with_arguments.Goals as goal

-- what `run` says of the words holds of the arguments: these are the words
pub returns-in-Ok-clause-written : goal.returns-in-Ok-clause-written
returns-in-Ok-clause-written g c = rw (c.deref.ensures.value ∙ c.in-Ok.ensures.words) at c.run.ensures.written

pub returns-in-Ok-clause-part : goal.returns-in-Ok-clause-part
returns-in-Ok-clause-part g c = rw (c.deref.ensures.value ∙ c.in-Ok.ensures.words) at c.run.ensures.part

pub returns-in-Ok-clause-nothing_left : goal.returns-in-Ok-clause-nothing_left
returns-in-Ok-clause-nothing_left g c = rw (c.deref.ensures.value ∙ c.in-Ok.ensures.words) at c.run.ensures.nothing_left

pub returns-in-Ok-clause-nothing_read : goal.returns-in-Ok-clause-nothing_read
returns-in-Ok-clause-nothing_read g c = rw (c.deref.ensures.value ∙ c.in-Ok.ensures.words) at c.run.ensures.nothing_read

pub returns-in-Ok-clause-complete : goal.returns-in-Ok-clause-complete
returns-in-Ok-clause-complete g c = rw (c.deref.ensures.value ∙ c.in-Ok.ensures.words) at c.run.ensures.complete

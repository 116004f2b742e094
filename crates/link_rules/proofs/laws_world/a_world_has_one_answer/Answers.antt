use Rattle.link_rules.proofs.WorldOnce.{one-loaded, one-linked, one-report, one-refusal, one-refusal_text, not-both, one-of-both}
use Rattle.link_rules.proofs.laws_world.a_world_has_one_answer.Goals as goal

pub returns-clause-loaded : goal.returns-clause-loaded
returns-clause-loaded c = one-loaded

pub returns-clause-linked : goal.returns-clause-linked
returns-clause-linked c = one-linked

pub returns-clause-report : goal.returns-clause-report
returns-clause-report c = one-report

pub returns-clause-refusal : goal.returns-clause-refusal
returns-clause-refusal c = one-refusal

pub returns-clause-refusal_text : goal.returns-clause-refusal_text
returns-clause-refusal_text c = one-refusal_text

pub returns-clause-not_both : goal.returns-clause-not_both
returns-clause-not_both c = not-both

pub returns-clause-some : goal.returns-clause-some
returns-clause-some c = one-of-both

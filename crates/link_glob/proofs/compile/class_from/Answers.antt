use Rattle.std.proofs.Common.{sym, ◌∙◌}
use Rattle.link_glob.proofs.Spelling.{class_is}
use Rattle.link_glob.proofs.compile.class_from.Goals as goal

pub returns-clause-gives : goal.returns-clause-gives
returns-clause-gives c = rw c.in_ok-class_of.ensures (class_is c.args.negated c.args.text.now c.split_at.result.0.now c.split_at.result.1.now c.in-Some.end c.in-len1-up.len_at_least (sym c.close_of.ensures.value ∙ c.in-Some.is) c.split_at.ensures.front c.split_at.ensures.back c.in-len1-up-closed.len_at_least)

use Rattle.std.proofs.Common.{drop}
use Rattle.link_script_syntax.proofs.Answered.{entry_reads, entry_is, entry_refused, entry_refuses}
use Rattle.link_script_syntax.proofs.entry.parse_matcher.Goals as goal

pub returns-clause-found : goal.returns-clause-found
returns-clause-found c = entry_reads c.args.profile c.args.text.now (drop c.args.at c.args.text.now) c.entry_from.result c.entry_from.ensures

pub returns-clause-only : goal.returns-clause-only
returns-clause-only c = λ entry rest x. entry_is c.args.profile c.args.text.now (drop c.args.at c.args.text.now) entry rest c.entry_from.result x c.entry_from.ensures

pub returns-clause-refused : goal.returns-clause-refused
returns-clause-refused c = entry_refused c.args.profile c.args.text.now (drop c.args.at c.args.text.now) c.entry_from.result c.entry_from.ensures

pub returns-clause-refuses : goal.returns-clause-refuses
returns-clause-refuses c = entry_refuses c.args.profile c.args.text.now (drop c.args.at c.args.text.now) c.entry_from.result c.entry_from.ensures

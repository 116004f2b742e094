use Rattle.link_glob.proofs.Grammatical.{one_pattern, gnu_is_macho}
use Rattle.link_glob.proofs.laws.grammar_law.Goals as goal

pub returns-clause-one_pattern : goal.returns-clause-one_pattern
returns-clause-one_pattern c = one_pattern

pub returns-clause-both : goal.returns-clause-both
returns-clause-both c = gnu_is_macho

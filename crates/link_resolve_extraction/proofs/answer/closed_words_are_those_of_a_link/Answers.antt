use Rattle.link_resolve_extraction.proofs.AnswerFlags.{claimed-are, flags-are}
use Rattle.link_resolve_extraction.proofs.answer.closed_words_are_those_of_a_link.Goals as goal

pub returns-clause-loaded : goal.returns-clause-loaded
returns-clause-loaded c = claimed-are

pub returns-clause-flags : goal.returns-clause-flags
returns-clause-flags c = flags-are

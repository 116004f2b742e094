use Rattle.link_resolve_extraction.proofs.AnswerLink.{targets-are}
use Rattle.link_resolve_extraction.proofs.answer.read_targets_are_those_of_a_link.Goals as goal

pub returns : goal.returns
returns c = targets-are

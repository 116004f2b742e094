use Rattle.link_resolve_discarded.proofs.Same.{same-sections, same-strengths}
use Rattle.link_resolve_discarded.proofs.laws.discarded_sections_are_those_of_a_link.Goals as goal

pub returns : goal.returns
returns c = record { sections = same-sections; strengths = same-strengths }

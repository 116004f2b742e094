use Rattle.link_names.proofs.Noted.{are_noted}
use Rattle.link_names.proofs.name_map.NameMap.iter.Goals as goal

pub returns-clause-noted : goal.returns-clause-noted
returns-clause-noted g c = rw (← c.self.view_is) (are_noted c.self.inside.notes.entries c.self.inside.notes.entries c.iter.ensures.found)

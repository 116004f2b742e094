use Rattle.link_names.proofs.Noted.{noted, not_absent}
use Rattle.link_names.proofs.name_map.NameMap.note.Goals as goal

pub returns-in_err-insert-clause-succeeds : goal.returns-in_err-insert-clause-succeeds
returns-in_err-insert-clause-succeeds g c = λ there. absurd (not_absent c.self.inside.notes.entries c.args.self.now c.into_vec.result c.args.name c.self.view_is c.into_vec.ensures c.in_err-insert.ensures.absent there)

pub returns-clause-ok : goal.returns-clause-ok
returns-clause-ok g c =
    rw (← c.self.view_is, ← c.into_vec.ensures)
    (noted c.self.inside.notes c.insert.new.self c.into_vec.result c.args.value c.in_ok-insert.ensures.updates)

use Rattle.std.proofs.Common.{Some}
use Rattle.link_resolve_undefined.proofs.Naming.{inserted}
use Rattle.link_resolve_undefined.proofs.name_ids.NameIds.note.Goals as goal

pub returns : goal.returns
returns c =
    let h = c.in_ok-insert.ensures.updates in inserted c.args.self.now.ids.entries c.insert.new.self.entries c.args.asked (Some c.args.id) h.1 h.3

use Rattle.std.proofs.Common.{◌≡◌, ◌∙◌, true, is_some, None, sym, ap}
use Rattle.link_resolve_undefined.specs.Keys.{version_of}
use Rattle.link_resolve_undefined.specs.NameIds.{id_in}
use Rattle.link_resolve_undefined.proofs.Naming.{kept_first, noted_first, none_where}
use Rattle.link_resolve_undefined.proofs.name_ids.NameIds.note_first.Goals as goal

pub returns-in_ok-note : goal.returns-in_ok-note
returns-in_ok-note c =
    let asked = c.args.asked in
    let none : id_in c.args.self.now asked.name.now (version_of asked) ≡ None = sym c.get.ensures ∙ none_where c.get.result c.is_none.result c.is_none.ensures c.if-is_none.true in
    noted_first asked.name.now (version_of asked) c.args.id (id_in c.args.self.now) (id_in c.note.new.self) none c.in_ok-note.ensures

pub returns-else-is_none : goal.returns-else-is_none
returns-else-is_none c =
    let asked = c.args.asked in
    let some : is_some (id_in c.args.self.now asked.name.now (version_of asked)) ≡ true = ap is_some (sym c.get.ensures) ∙ c.if-is_none.ensures in
    kept_first asked.name.now (version_of asked) c.args.id (id_in c.args.self.now) some

use Rattle.std.proofs.Common.{◌∙◌, sym, ap, refl}
use Rattle.std.specs.Option.{is_some}
use Rattle.std.specs.Str.{bytes_eq}
use Rattle.link_names.specs.Names.{value_in}
use Rattle.link_names.proofs.Noted.{first_noted, known_noted, value_of, on_ok}
use Rattle.link_names.proofs.name_map.NameMap.note_first.Goals as goal

pub returns-then-contains_key-clause-ok : goal.returns-then-contains_key-clause-ok
returns-then-contains_key-clause-ok g c = λ asked.
    let found = ap (λ s. is_some (value_in s c.as_slice.result.now)) (sym c.self.view_is) ∙ ap is_some (value_of c.self.inside.notes.entries c.as_slice.result.now) ∙ sym c.contains_key.ensures ∙ c.if-contains_key.true in
    known_noted c.args.self.now c.args.name asked c.args.value (bytes_eq asked c.args.name) refl (rw (← c.as_slice.ensures) found)

pub returns-clause-ok : goal.returns-clause-ok
returns-clause-ok g c =
    let absent = ap (λ s. is_some (value_in s c.as_slice.result.now)) (sym c.self.view_is) ∙ ap is_some (value_of c.self.inside.notes.entries c.as_slice.result.now) ∙ sym c.contains_key.ensures ∙ c.if-contains_key.false in
    on_ok c.note.result _ _ (λ noted asked. noted asked ∙ first_noted c.args.self.now c.args.name asked c.args.value (bytes_eq asked c.args.name) refl (rw (← c.as_slice.ensures) absent)) c.note.ensures.ok

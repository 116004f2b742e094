use Rattle.std.proofs.Common.{ℕ, Option, Some, None, if◌then◌else◌, ap, ◌∙◌}
use Rattle.std.specs.Option.{option_or}
use Rattle.link_names.specs.Names.{is_member, value_in}
use Rattle.link_names.proofs.Noted.{or_more}
use Rattle.link_script.proofs.version_index.note_listed.Goals as goal

pub returns : goal.returns
returns c = λ asked.
    (rw c.exact_names-2.ensures at c.in_ok-note_all-2.ensures asked)
    ∙ ap (λ (o : Option ℕ). option_or o (if is_member c.args.locals.now.exact asked then Some c.args.number else None)) (rw c.exact_names.ensures at c.in_ok-note_all.ensures asked)
    ∙ or_more (value_in c.args.numbers.now asked) c.args.number (is_member c.args.globals.now.exact asked) (is_member c.args.locals.now.exact asked)

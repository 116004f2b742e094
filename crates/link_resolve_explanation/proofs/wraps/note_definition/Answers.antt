use Rattle.std.proofs.Common.{◌∙◌, ap, Some, if◌then◌else◌, sym}
use Rattle.std.specs.Str.{bytes_eq}
use Rattle.link_names.specs.Names.{value_in}
use Rattle.link_resolve_explanation.specs.Wraps.{lacks_first}
use Rattle.link_resolve_explanation.proofs.Wrapping.{first-noted, noted-stays, unlisted-stays}
use Rattle.link_resolve_explanation.proofs.wraps.note_definition.Goals as goal

-- it is no definition of a plain name
pub returns-then-not-is_listed : goal.returns-then-not-is_listed
returns-then-not-is_listed c = λ asked.
    unlisted-stays c.args.id c.args.symbol.now asked (value_in c.args.firsts.now asked) (sym c.is_listed.ensures ∙ c.if-not-is_listed.true)

-- its name has a definition, or is not one of these
pub returns-then-not-lacks_first : goal.returns-then-not-lacks_first
returns-then-not-lacks_first c = λ asked.
    noted-stays c.args.id c.args.symbol.now c.args.firsts.now asked
    (sym (ap (λ name. lacks_first (value_in c.args.firsts.now name)) (c.as_slice.ensures ∙ c.name-name.ensures)) ∙ sym c.lacks_first.ensures ∙ c.if-not-lacks_first.true)

-- it is the first
pub returns : goal.returns
returns c = λ asked.
    let noted = c.args.firsts.now in
    let own = c.as_slice.ensures ∙ c.name-name.ensures in
    first-noted c.args.id c.args.symbol.now noted asked (value_in c.note.new.self asked) (sym c.is_listed.ensures ∙ c.if-not-is_listed.false)
    (sym (ap (λ name. lacks_first (value_in noted name)) own) ∙ sym c.lacks_first.ensures ∙ c.if-not-lacks_first.false)
    (c.in_ok-note.ensures.ok asked ∙ ap (λ name. if bytes_eq asked name then Some (Some c.args.id) else value_in noted asked) (c.in_ok-from_slice.ensures ∙ c.as_slice-2.ensures ∙ c.name-name.ensures))

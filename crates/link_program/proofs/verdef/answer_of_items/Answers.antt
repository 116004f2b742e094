use Rattle.std.proofs.Common.{Err, ap, ◌∙◌}
use Rattle.link_program.specs.Described.{error_line}
use Rattle.link_program.proofs.TooLong.{ok-along}
use Rattle.link_program.proofs.VerdefEndings.{zero-ending}
use Rattle.link_program.proofs.verdef.answer_of_items.Goals as goal

-- a name with a zero byte is refused by its number
pub returns-in_ok-what-in-Err-ZeroInName : goal.returns-in_ok-what-in-Err-ZeroInName
returns-in_ok-what-in-Err-ZeroInName c =
    let number = c.in-Err-ZeroInName.number in
    let zero = (c.write_verdef.ensures.zero_in_name number).0 (c.in-Err-ZeroInName.is ∙ ap (λ e. Err e) c.in-Err-ZeroInName.field-0-is) in
    ok-along c.error_answer.result _ _ _ (λ a ends line. zero-ending c.args.items.now number a.status a.text.items zero ends
    (line ∙ ap error_line (c.as_bytes.ensures.value ∙ c.in_ok-what-in-Err-ZeroInName.ensures.ok)))
    c.error_answer.ensures.status c.error_answer.ensures.text

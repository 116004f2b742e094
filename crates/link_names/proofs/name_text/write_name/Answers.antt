use Rattle.std.proofs.Common.{sym, ◌∙◌}
use Rattle.std.proofs.Output.{has_written_of_eq}
use Rattle.link_names.proofs.Text.{name_text-utf8, name_text-invalid}
use Rattle.link_names.proofs.name_text.write_name.Goals as goal

pub returns-in-Ok : goal.returns-in-Ok
returns-in-Ok g c = λ plain ok.
    let text = c.in-Ok.ensures.cases in
    has_written_of_eq _ _ _ _ _ (text.0 ∙ sym (name_text-utf8 c.args.bytes.now text.1)) (c.write_str.ensures.writes plain ok)

pub returns-in-Err : goal.returns-in-Err
returns-in-Err g c = λ plain ok.
    has_written_of_eq _ _ _ _ _ (sym (name_text-invalid c.args.bytes.now c.in-Err.ensures.cases.0)) (c.write_invalid.ensures plain ok)

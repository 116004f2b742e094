use Rattle.std.proofs.Common.{◌≡◌, ◌∙◌, Err, None, Some, ap, sym}
use Rattle.link_verdef.specs.Image.{first_with_zero}
use Rattle.link_verdef.proofs.read.read_verdef.Goals as goal

pub returns-in-Err-ZeroInName-clause-only : goal.returns-in-Err-ZeroInName-clause-only
returns-in-Err-ZeroInName-clause-only c all image =
    let zero = (c.in-Err-ZeroInName.ensures.zero_in_name c.in-Err-ZeroInName.field-0-0).0 (ap (λ e. Err e) c.in-Err-ZeroInName.field-0-is) in
    let both : Some c.in-Err-ZeroInName.field-0-0 ≡ None =
    sym zero ∙ ap first_with_zero (c.in-Some.ensures.1 ∙ c.in_ok-items.ensures all image) ∙ image.zeroless in
    cc both

pub returns-in-Err-ZeroInName-clause-refused : goal.returns-in-Err-ZeroInName-clause-refused
returns-in-Err-ZeroInName-clause-refused c refused all image = cc (returns-in-Err-ZeroInName-clause-only c all image)

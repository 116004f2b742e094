use Rattle.std.proofs.Common.{◌∙◌, sym, ap, length}
use Rattle.link_glob.proofs.Turned.{past_last, no_last}
use Rattle.link_glob.proofs.matching.split_last_char.Goals as goal

pub returns : goal.returns
returns c = let h = c.in_ok-last.ensures.steps in past_last c.args.text.now c.as_str.result.now c.in_ok-last.last c.as_str.utf8 c.utf8.text (rw (c.as_str.ensures) (sym c.chars-rest.ensures.rest ∙ h))

pub returns-in_err-last : goal.returns-in_err-last
returns-in_err-last c = let h = c.in_err-last.ensures.steps in rw c.from_residual.ensures (no_last c.args.text.now (ap length (sym c.chars-rest.ensures.rest) ∙ h.0))

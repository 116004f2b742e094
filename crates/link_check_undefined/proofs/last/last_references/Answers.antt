use Rattle.std.proofs.Common.{◌∙◌, ap}
use Rattle.std.specs.Prelude.{fold}
use Rattle.link_check_undefined.specs.Noted.{Noted, id_of}
use Rattle.link_check_undefined.proofs.Lasting.{last-is, later}
use Rattle.link_check_undefined.proofs.last.last_references.Goals as goal

pub loop-reference-init : goal.loop-reference-init
loop-reference-init c = λ x. ap (λ (n : Noted). fold (later x) (id_of n x) c.args.left.now) c.new-last.ensures ∙ last-is c.args.left.now x

use Rattle.link_resolve_undefined.proofs.Passing.{signed-all}
use Rattle.link_resolve_undefined.proofs.laws.signatures_are_left.Goals as goal

pub returns : goal.returns
returns c = signed-all

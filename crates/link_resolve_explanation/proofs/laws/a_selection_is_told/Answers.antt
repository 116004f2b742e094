use Rattle.link_resolve_explanation.proofs.Telling.{selection-told}
use Rattle.link_resolve_explanation.proofs.laws.a_selection_is_told.Goals as goal

pub returns : goal.returns
returns g c = selection-told

use Rattle.link_resolve_explanation.proofs.Telling.{selection-told, settled-told}
use Rattle.link_resolve_explanation.proofs.laws.a_settled_selection_is_told.Goals as goal

pub returns : goal.returns
returns g c = λ platform demangle old new known l is settled.
    settled-told platform.weak_overrides_common old new known l (selection-told platform demangle old known l is) settled

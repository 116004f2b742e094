use Rattle.link_closure.proofs.Layers.{levels-of-same}
use Rattle.link_closure.proofs.Rows.{ok-along}
use Rattle.link_closure.proofs.breadth_first.levels.Goals as goal

pub returns : goal.returns
returns c = ok-along c.levels_over_rows.result _ _
    (λ levels known. levels-of-same _ _ _ _ _ levels.items (λ f. (λ is. is, λ is. is)) c.in_ok-rows.ensures.leads (rw c.deref.ensures.value at known))
    c.levels_over_rows.ensures

use Rattle.std.proofs.Common.{◌∙◌, ap}
use Rattle.link_flags.specs.declared.selector.SymbolPrioritySelector.{SymbolPrioritySelector}
use Rattle.link_flags.specs.Selector.{nothing}
use Rattle.link_flags.proofs.Picking.{strong-after}
use Rattle.link_flags.proofs.selector.SymbolPrioritySelector.first_strong.Goals as goal

pub returns : goal.returns
returns c = λ candidates known. ap (λ (s : SymbolPrioritySelector). s.strong) known ∙ strong-after nothing candidates

use Rattle.std.proofs.Common.{◌∙◌, ap}
use Rattle.link_flags.specs.Selector.{selected}
use Rattle.link_flags.proofs.Picking.{selected-considered}
use Rattle.link_flags.proofs.selector.SymbolPrioritySelector.best.Goals as goal

pub returns : goal.returns
returns c = λ candidates known.
    let w = c.args.weak_over_common in
    c.selected.ensures ∙ ap (selected w) known ∙ selected-considered w candidates

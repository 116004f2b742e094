use Rattle.std.proofs.Common.{◌∙◌, ap, subst, List, rules}
use Rattle.link_desk.specs.declared.entry.Entry.{Entry}
use Rattle.link_desk.specs.Passes.{AreRight}
use Rattle.link_desk.specs.Replay.{Desked}
use Rattle.link_desk.proofs.settling.settle.Goals as goal

pub returns-in-None-clause-settled : goal.returns-in-None-clause-settled
returns-in-None-clause-settled g c =
    let P : List Entry → Type 0 = λ es. AreRight es c.args.passes.items in
    (search rules, search rules, subst P (c.as_slice.ensures.value ∙ ap (λ (d : Desked). d.history) c.state.view_is) c.in-None.ensures.call)

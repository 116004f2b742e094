use Rattle.std.proofs.Common.{◌∙◌}
use Rattle.link_resolve_undefined.proofs.Alike.{made-by, makes-same}
use Rattle.link_resolve_undefined.proofs.asked_names.AskedNames.makes_new.Goals as goal

pub returns : goal.returns
returns c = λ w. λ left. λ x. λ are. λ asks.
    let self = c.args.self.now in
    c.is_maker.ensures w.options.custom_sections are.marks
    ∙ (makes-same w.options.custom_sections self.last c.args.asked c.args.id x asks ∙ made-by w left self.last are.last c.args.id x)

use Rattle.std.proofs.Common.{◌∙◌}
use Rattle.link_resolve_undefined.proofs.Naming.{looked_up}
use Rattle.link_resolve_undefined.proofs.name_ids.NameIds.get.Goals as goal

pub returns : goal.returns
returns c =
    c.copied.ensures ∙ (c.get.ensures.value ∙ looked_up c.args.self.now.ids.entries c.args.asked)

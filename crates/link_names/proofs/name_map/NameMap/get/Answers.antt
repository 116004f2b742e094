use Rattle.std.proofs.Common.{◌∙◌, sym, ap}
use Rattle.link_names.specs.Names.{value_in}
use Rattle.link_names.proofs.Noted.{value_of}
use Rattle.link_names.proofs.name_map.NameMap.get.Goals as goal

pub returns : goal.returns
returns g c = c.copied.ensures ∙ c.get.ensures.value ∙ sym (value_of c.self.inside.notes.entries c.args.name.now) ∙ ap (λ s. value_in s c.args.name.now) c.self.view_is

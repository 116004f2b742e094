use Rattle.std.proofs.Common.{◌∙◌, ap}
use Rattle.link_check_names.proofs.Keying.{seen}
use Rattle.link_check_undefined.specs.Noted.{Noted, id_in}
use Rattle.link_check_undefined.proofs.Noting.{noted_of}
use Rattle.link_check_undefined.proofs.noted.NotedIds.get.Goals as goal

pub returns : goal.returns
returns c =
    let name = c.args.name.now in
    let version = seen c.args.version in
    c.copied.ensures
    ∙ c.get.ensures.value
    ∙ noted_of c.name_key.result c.self.inside.ids.entries name version c.name_key.ensures
    ∙ ap (λ (noted : Noted). id_in noted name version) c.self.view_is

use Rattle.std.proofs.Common.{◌∙◌, ◌&&◌, Some, ap, if◌then◌else◌}
use Rattle.std.specs.Str.{bytes_eq}
use Rattle.link_rules.specs.Places.{same_version}
use Rattle.link_check_names.proofs.Keying.{seen}
use Rattle.link_check_undefined.specs.Noted.{Noted, id_in}
use Rattle.link_check_undefined.proofs.Noting.{noted}
use Rattle.link_check_undefined.proofs.noted.NotedIds.put.Goals as goal

pub returns : goal.returns
returns c = λ asked asked_version.
    let name = c.args.name.now in
    let version = seen c.args.version in
    let updates = c.in_ok-insert.ensures.updates in
    noted c.self.inside.ids.entries c.insert.new.self.entries c.name_key.result name version c.args.id c.name_key.ensures updates.3 updates.1 asked asked_version
    ∙ ap (λ (old : Noted). if bytes_eq name asked && same_version version asked_version then Some c.args.id else id_in old asked asked_version) c.self.view_is

use Rattle.std.proofs.Common.{◌∙◌, ap}
use Rattle.link_db_mapping.specs.Mapped.{mapped_key}
use Rattle.link_db_mapping.specs.Seen.{seen}
use Rattle.link_db_lookup.proofs.Lookups.{mapped_by_key}
use Rattle.link_db_lookup.proofs.targets.mapped.Goals as goal

pub returns-clause-value : goal.returns-clause-value
returns-clause-value g c =
    let m = seen c.args.mapping.now in
    let key = c.args.key.now in
    c.mapped.ensures.value ∙ ap (mapped_key m) c.key.view_is ∙ mapped_by_key m key.name key.version

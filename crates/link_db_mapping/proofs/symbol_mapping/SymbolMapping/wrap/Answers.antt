use Rattle.std.proofs.Common.{◌∙◌}
use Rattle.std.proofs.lemmas.Result.{on_ok_weaker}
use Rattle.link_db_mapping.specs.Mapped.{mapping_of}
use Rattle.link_db_mapping.specs.Seen.{seen}
use Rattle.link_db_mapping.proofs.Wraps.{wrap_maps}
use Rattle.link_db_mapping.proofs.symbol_mapping.SymbolMapping.wrap.Goals as goal

pub returns-clause-ok : goal.returns-clause-ok
returns-clause-ok g c =
    let f = mapping_of (seen c.args.self.now) in
    on_ok_weaker c.override_some.result
    (λ told. told ∙ wrap_maps f c.args.name.now c.in_ok-name.name c.in_ok-real.real c.in_ok-wrapper.wrapper c.mapped_name-wrapper.result c.original-original.result c.in_ok-name.ensures c.in_ok-real.ensures c.in_ok-wrapper.ensures c.mapped_name-wrapper.ensures.value c.original-original.ensures.value)
    c.override_some.ensures.ok

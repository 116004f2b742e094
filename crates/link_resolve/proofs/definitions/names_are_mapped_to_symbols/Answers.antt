use Rattle.std.proofs.Common.{length}
use Rattle.link_db_mapping.specs.Mapped.{mapping_of}
use Rattle.link_db.specs.Database.{symbol_names}
use Rattle.link_db.specs.Seen.{seen}
use Rattle.link_resolve.proofs.Mapping.{listed-inside}
use Rattle.link_resolve.proofs.definitions.names_are_mapped_to_symbols.Goals as goal

pub returns : goal.returns
returns g c =
    let db = seen c.args.db.now in
    let names = c.all_unversioned_symbols-names in
    listed-inside (mapping_of db.mapping) names.result (length (symbol_names db)) names.ensures.complete names.ensures.within

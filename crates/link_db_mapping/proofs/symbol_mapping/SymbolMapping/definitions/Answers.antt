use Rattle.std.proofs.Common.{length}
use Rattle.link_db_buckets.specs.Keys.{key_of}
use Rattle.link_db_files.specs.HeldFiles.{names_in}
use Rattle.link_db_mapping.proofs.Telling.{listed_within}
use Rattle.link_db_mapping.proofs.symbol_mapping.SymbolMapping.definitions.Goals as goal

pub returns-clause-within : goal.returns-clause-within
returns-clause-within g c =
    let m = c.args.self.now in
    listed_within (length (names_in m.tables.files)) c.definitions.result _ c.definitions.ensures (m.named.listed (key_of c.args.name.now c.args.version))

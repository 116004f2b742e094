use Rattle.link_db_files.specs.Adding.{synthetic_group}
use Rattle.link_db_mapping.specs.Seen as names
use Rattle.link_db.specs.Seen.{seen}
use Rattle.link_db.proofs.LinkerGroups.{sound-either, synthetic-follows}
use Rattle.link_db.proofs.database.SymbolDb.new_synthetic_symbols_group.Goals as goal

pub invariant_of-self : goal.invariant_of-self
invariant_of-self g c =
    let db = seen c.args.self.now in
    record {
      sound = sound-either db (synthetic_group db.mapping.files) (names.seen c.add_synthetic_group.new.self) c.add_synthetic_group.result c.args.self.now.sound
          (synthetic-follows db.mapping.files) c.add_synthetic_group.ensures.ok c.add_synthetic_group.ensures.err;
    }

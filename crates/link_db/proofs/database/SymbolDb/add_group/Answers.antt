use Rattle.link_db_mapping.specs.Seen as names
use Rattle.link_db.specs.Seen.{seen}
use Rattle.link_db.proofs.LinkerGroups.{sound-either}
use Rattle.link_db.proofs.database.SymbolDb.add_group.Goals as goal

pub invariant_of-self : goal.invariant_of-self
invariant_of-self g c = record {
  sound = sound-either (seen c.args.self.now) c.args.group (names.seen c.add_group.new.self) c.add_group.result c.args.self.now.sound c.requires c.add_group.ensures.ok c.add_group.ensures.err;
}

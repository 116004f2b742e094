use Rattle.std.proofs.Common.{ap, take}
use Rattle.link_db_mapping.specs.Mapped.{Mapped}
use Rattle.link_db_mapping.specs.Seen as names
use Rattle.link_db.specs.Seen.{seen}
use Rattle.link_db.proofs.SameMapping.{same-mapped}
use Rattle.link_db.proofs.database.SymbolDb.release_alternatives.Goals as goal

pub returns : goal.returns
returns g c =
    let after = names.seen c.release_later.new.self in
    let before = (seen c.args.self.now).mapping in
    ap (λ (m : Mapped g.row.P.Denot). record (seen c.args.self.now) { mapping = m })
    (same-mapped after (record before { lists = λ key. take 1 (before.lists key) }) c.release_later.ensures.files c.release_later.ensures.lists c.release_later.ensures.overridden)

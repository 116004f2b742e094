use Rattle.std.proofs.Common.{◌∙◌, ap}
use Rattle.link_db_mapping.specs.Mapped.{Mapped, mapping_of}
use Rattle.link_db_mapping.proofs.Wraps.{override_maps}
use Rattle.link_rules.specs.Names.{Mapping}
use Rattle.link_db.specs.Seen.{seen}
use Rattle.link_db.proofs.database.SymbolDb.override_name.Goals as goal

pub returns-clause-mapped : goal.returns-clause-mapped
returns-clause-mapped g c = λ asked.
    ap (λ (m : Mapped g.row.P.Denot). mapping_of m asked) c.in_ok-before.ensures.ok
    ∙ ap (λ (f : Mapping). f asked) (override_maps (seen c.args.self.now).mapping c.args.name c.args.id)

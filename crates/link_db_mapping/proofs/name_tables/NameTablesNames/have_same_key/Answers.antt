use Rattle.std.proofs.Common.{refl, sym}
use Rattle.link_db_mapping.specs.Tables.{key_at}
use Rattle.link_db_mapping.proofs.Apart.{differ, labels_apart}
use Rattle.link_db_mapping.proofs.name_tables.NameTablesNames.have_same_key.Goals as goal

pub returns-then-is_versioned : goal.returns-then-is_versioned
returns-then-is_versioned g c =
    sym (labels_apart (λ label. key_at c.args.self.now.files c.args.self.now.overridden.items label) c.args.a c.args.b c.is_versioned.result c.is_versioned-2.result c.is_versioned.ensures c.is_versioned-2.ensures
    (differ c.is_versioned.result c.is_versioned-2.result c.is_versioned-2.result c.if-is_versioned.true refl))

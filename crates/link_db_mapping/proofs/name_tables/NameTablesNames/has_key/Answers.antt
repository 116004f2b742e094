use Rattle.std.proofs.Common.{◌∙◌, sym}
use Rattle.link_db_buckets.specs.Keys.{key_of}
use Rattle.link_db_mapping.specs.Tables.{key_at}
use Rattle.link_db_mapping.proofs.Apart.{differ, leads_apart, still_some}
use Rattle.link_db_mapping.proofs.name_tables.NameTablesNames.has_key.Goals as goal

pub returns-then-is_versioned-is_some : goal.returns-then-is_versioned-is_some
returns-then-is_versioned-is_some g c =
    sym (leads_apart (λ label. key_at c.args.self.now.files c.args.self.now.overridden.items label) c.args.label (key_of c.args.name.now c.args.version) c.is_versioned.result c.is_versioned.ensures
    (differ c.is_versioned.result c.is_some.result _ c.if-is_versioned-is_some.true (c.is_some.ensures ∙ still_some _ c.args.version)))

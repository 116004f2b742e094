use Rattle.std.proofs.Common.{◌∙◌, sym}
use Rattle.link_db_mapping.proofs.Telling.{mapped_told}
use Rattle.link_db_mapping.specs.Tables.{key_at}
use Rattle.link_db_mapping.proofs.symbol_mapping.SymbolMapping.may_have.Goals as goal

-- what buckets don't have isn't mapped
pub returns : goal.returns
returns g c = λ none key same.
    let m = c.args.self.now in
    sym (mapped_told m.tables.files m.tables.overridden.items m.buckets m.named key)
    ∙ c.may_have.ensures none (key_at m.tables.files m.tables.overridden.items) key m.named.keyed same

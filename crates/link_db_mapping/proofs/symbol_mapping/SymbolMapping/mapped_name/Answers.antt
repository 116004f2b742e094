use Rattle.std.proofs.Common.{◌∙◌, List, ap, ℕ}
use Rattle.link_db_mapping.specs.Mapped.{mapping_of}
use Rattle.link_db_mapping.specs.Seen.{seen}
use Rattle.link_db_mapping.proofs.symbol_mapping.SymbolMapping.mapped_name.Goals as goal

pub returns-clause-value : goal.returns-clause-value
returns-clause-value g c = c.mapped.ensures.value ∙ ap (λ (name : List ℕ). mapping_of (seen c.args.self.now) name) c.as_slice-2.ensures

use Rattle.std.proofs.Common.{◌∙◌, ◌<◌, ℕ, Some, ap, length, subst, sym}
use Rattle.link_db_buckets.specs.Keys.{key_of}
use Rattle.link_db_files.specs.HeldFiles.{names_in}
use Rattle.link_db_mapping.proofs.Telling.{mapped_told, mapped_within}
use Rattle.link_db_mapping.proofs.symbol_mapping.SymbolMapping.mapped.Goals as goal

pub returns-clause-value : goal.returns-clause-value
returns-clause-value g c =
    let m = c.args.self.now in
    ap Some c.from_usize.ensures ∙ c.in_ok-number.ensures ∙ mapped_told m.tables.files m.tables.overridden.items m.buckets m.named (key_of c.args.name.now c.args.version)

pub returns-clause-within : goal.returns-clause-within
returns-clause-within g c =
    let m = c.args.self.now in
    let within = mapped_within m.tables.files m.tables.overridden.items m.buckets m.named (key_of c.args.name.now c.args.version) c.in_ok-number.number (sym c.in_ok-number.ensures) in
    subst (λ (id : ℕ). id < length (names_in m.tables.files)) (sym c.from_usize.ensures) within

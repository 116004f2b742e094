use Rattle.std.proofs.Common.{refl}
use Rattle.std.proofs.lemmas.Result.{on_ok_weaker}
use Rattle.link_db_files.specs.Adding.{synthetic_group}
use Rattle.link_db_mapping.proofs.Synthetics.{group_named, group_told}
use Rattle.link_db_mapping.proofs.symbol_mapping.SymbolMapping.add_synthetic_group.Goals as goal

pub invariant_of-self : goal.invariant_of-self
invariant_of-self g c =
    let m = c.args.self.now in
    let held = m.tables.files in
    record { named = group_named held c.add_synthetic_group.new.self m.tables.overridden.items m.buckets (synthetic_group held) c.add_synthetic_group.result ((refl, tt), tt) m.named c.add_synthetic_group.ensures.ok c.add_synthetic_group.ensures.err }

pub returns-clause-ok : goal.returns-clause-ok
returns-clause-ok g c =
    let m = c.args.self.now in
    let held = m.tables.files in
    on_ok_weaker c.add_synthetic_group.result (λ is. group_told held c.add_synthetic_group.new.self m.tables.overridden.items m.buckets (synthetic_group held) ((refl, tt), tt) m.named is) c.add_synthetic_group.ensures.ok

use Rattle.std.proofs.Common.{◌≡◌, ◌∙◌, true}
use Rattle.std.proofs.lemmas.Result.{on_err_weaker, on_ok_weaker}
use Rattle.std.specs.Prelude.{slice_get}
use Rattle.link_db_buckets.specs.declared.label.Label.TheVariants.{Added}
use Rattle.link_db_buckets.specs.Keys.{leads_to}
use Rattle.link_db_buckets.proofs.Keys.{key_itself}
use Rattle.link_db_mapping.proofs.Telling.{mapped_told}
use Rattle.link_db_mapping.specs.Keys.{plain_key}
use Rattle.link_db_mapping.specs.Tables.{key_at}
use Rattle.link_db_mapping.proofs.Overrides.{label_of_held, on_err_of, overrides_by_label, override_named, override_told, same_named, same_told, some_there, one_there}
use Rattle.link_db_buckets.proofs.Changes.{on_both}
use Rattle.link_db_mapping.proofs.symbol_mapping.SymbolMapping.override_held.Goals as goal

pub invariant_of-self : goal.invariant_of-self
invariant_of-self g c =
    let m = c.args.self.now in
    let held = m.tables.files in
    let names = m.tables.overridden.items in
    let new = c.override_name.new.self in
    let clauses = c.override_name.ensures in
    let there = some_there (slice_get names c.args.place) c.requires.held in
    record {
      named = on_both c.override_name.result
          (on_ok_weaker c.override_name.result (λ over. override_named held names m.buckets new there.0 c.args.id m.named (overrides_by_label held names m.buckets new c.args.place there.0 c.as_usize-number.result c.args.id there.1 c.as_usize-number.ensures.value clauses.keyed over clauses.definitions) (one_there names c.args.place there.0 there.1) c.requires.id) clauses.overridden)
          (on_err_weaker c.override_name.result (λ same. same_named held names m.buckets new m.named (record { keyed = clauses.keyed; overridden = same; definitions = clauses.definitions })) clauses.err);
    }

pub returns-in_err-before-clause-err : goal.returns-in_err-before-clause-err
returns-in_err-before-clause-err g c =
    let m = c.args.self.now in
    let clauses = c.in_err-before.ensures in
    on_err_of c.from_residual.result (same_told m.tables.files m.tables.overridden.items m.buckets c.override_name.new.self (record { keyed = clauses.keyed; overridden = clauses.err; definitions = clauses.definitions }))

pub returns-clause-before : goal.returns-clause-before
returns-clause-before g c =
    let m = c.args.self.now in
    let held = m.tables.files in
    let names = m.tables.overridden.items in
    λ name is.
    let leads : leads_to (key_at held names) (Added c.args.place) (plain_key name) ≡ true = label_of_held held names c.args.place name is (plain_key name) ∙ key_itself (plain_key name) in
    c.symbol_of.ensures ∙ c.in_ok-before.ensures.before (plain_key name) leads ∙ mapped_told held names m.buckets m.named (plain_key name)

pub returns-clause-ok : goal.returns-clause-ok
returns-clause-ok g c =
    let m = c.args.self.now in
    let held = m.tables.files in
    let names = m.tables.overridden.items in
    let clauses = c.in_ok-before.ensures in
    λ name is. override_told held names m.buckets c.override_name.new.self name c.args.id
    (overrides_by_label held names m.buckets c.override_name.new.self c.args.place name c.as_usize-number.result c.args.id is c.as_usize-number.ensures.value clauses.keyed clauses.overridden clauses.definitions)

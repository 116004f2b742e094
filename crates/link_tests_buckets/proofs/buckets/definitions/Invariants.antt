use Rattle.std.proofs.Common.{ℕ}
use Rattle.std.specs.Prelude.{option_map, slice_get}
use Rattle.link_db_buckets.specs.declared.label.Label.TheVariants.{Plain, Versioned, Added}
use Rattle.link_db_buckets.specs.Buckets.{AreHashed}
use Rattle.link_tests_buckets.proofs.buckets.definitions.Given as goal

abbrev pub invariant-loop-entry : goal.invariant-loop-entry
invariant-loop-entry l =
    AreHashed (λ label. option_map (λ e. record { name = e.name; version = e.version }) (slice_get l.table.entries.items (elim label as (λ _. ℕ) [ Plain n ↦ n | Versioned n ↦ n | Added n ↦ n ]))) l.definitions.items

use Rattle.link_db_buckets.proofs.Growing.{buckets_kept, definitions_kept, overridden_kept, labels_kept}
use Rattle.link_db_buckets.proofs.laws.growing_tables_keep_buckets.Goals as goal

pub returns-clause-keyed : goal.returns-clause-keyed
returns-clause-keyed c = buckets_kept

pub returns-clause-definitions : goal.returns-clause-definitions
returns-clause-definitions c = definitions_kept

pub returns-clause-overridden : goal.returns-clause-overridden
returns-clause-overridden c = overridden_kept

pub returns-clause-labels : goal.returns-clause-labels
returns-clause-labels c = labels_kept

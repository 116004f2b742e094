use Rattle.link_db_buckets.proofs.Returning.{keyed_back, definitions_back, overridden_back, labels_back}
use Rattle.link_db_buckets.proofs.laws.tables_go_back.Goals as goal

pub returns-clause-keyed : goal.returns-clause-keyed
returns-clause-keyed c = keyed_back

pub returns-clause-definitions : goal.returns-clause-definitions
returns-clause-definitions c = definitions_back

pub returns-clause-overridden : goal.returns-clause-overridden
returns-clause-overridden c = overridden_back

pub returns-clause-labels : goal.returns-clause-labels
returns-clause-labels c = labels_back

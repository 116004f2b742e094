use Rattle.link_db_buckets.proofs.Scanning.{definitions_scanned, label_scanned, overridden_scanned}
use Rattle.link_db_buckets.proofs.laws.buckets_do_not_show.Goals as goal

pub returns-clause-definitions : goal.returns-clause-definitions
returns-clause-definitions c = definitions_scanned

pub returns-clause-overridden : goal.returns-clause-overridden
returns-clause-overridden c = overridden_scanned

pub returns-clause-labels : goal.returns-clause-labels
returns-clause-labels c = label_scanned

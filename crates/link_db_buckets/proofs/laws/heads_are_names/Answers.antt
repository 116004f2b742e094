use Rattle.link_db_buckets.specs.Buckets.{buckets_in}
use Rattle.link_db_buckets.proofs.Rounds.{labelled_at}
use Rattle.link_db_buckets.proofs.Walking.{head_is_name}
use Rattle.link_db_buckets.proofs.laws.heads_are_names.Goals as goal

pub returns-clause-labels : goal.returns-clause-labels
returns-clause-labels c = λ names bs asked. labelled_at names (buckets_in bs) asked

pub returns-clause-heads : goal.returns-clause-heads
returns-clause-heads c = head_is_name

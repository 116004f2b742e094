use Rattle.std.proofs.Common.{ap, []}
use Rattle.std.specs.Option.{option_map, option_map_or, option_and_then}
use Rattle.link_db_buckets.specs.Bucket.{heads_in}
use Rattle.link_db_buckets.specs.Heads.{ids_of}
use Rattle.link_db_buckets.proofs.Growing.{head_kept, keys_kept}
use Rattle.link_db_buckets.proofs.laws.growing_tables_keep_a_bucket.Goals as goal

pub returns-clause-keyed : goal.returns-clause-keyed
returns-clause-keyed c = λ old new b more keyed. keys_kept old new (heads_in b) more keyed

pub returns-clause-definitions : goal.returns-clause-definitions
returns-clause-definitions c = λ old new b asked more keyed. ap (λ o. option_map_or ids_of o []) (head_kept old new (heads_in b) asked more keyed)

pub returns-clause-overridden : goal.returns-clause-overridden
returns-clause-overridden c = λ old new b asked more keyed. ap (option_and_then (λ h. h.overridden)) (head_kept old new (heads_in b) asked more keyed)

pub returns-clause-labels : goal.returns-clause-labels
returns-clause-labels c = λ old new b asked more keyed. ap (option_map (λ h. h.label)) (head_kept old new (heads_in b) asked more keyed)

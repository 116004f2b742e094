use Rattle.std.proofs.Common.{◌<◌, ◌∙◌, ap, arith, length, map, sym}
use Rattle.std.proofs.lemmas.List.{length-map}
use Rattle.link_db_buckets.specs.declared.bucket.Bucket.{Bucket}
use Rattle.link_db_buckets.specs.Bucket.{heads_in}
use Rattle.link_db_buckets.specs.Heads.{first_alone}
use Rattle.link_db_buckets.proofs.Releasing.{alone_more}
use Rattle.link_db_buckets.proofs.buckets.release_all.Goals as goal

pub loop-bucket-preserved : goal.loop-bucket-preserved
loop-bucket-preserved c =
    let old = c.args.buckets.now in
    let bs = c.loop-bucket.buckets in
    let i = c.loop-bucket.bucket-index in
    let within : i < length (map heads_in old) = omega (arith, length-map old heads_in) in
    let inside : i < length bs = omega arith in
    alone_more old bs i c.bucket-item.result c.release_later.new.self within c.loop-bucket.invariant c.bucket-item.is inside (c.release_later.ensures.heads ∙ ap (λ (b : Bucket). map first_alone (heads_in b)) (sym c.bucket-item.is))

use Rattle.std.proofs.Common.{◌≡◌, [], None, rules}
use Rattle.link_db_buckets.specs.declared.bucket.Bucket.{Bucket}
use Rattle.link_db_buckets.specs.Bucket.{IsKeyed, definitions_in, hashes_in, overridden_in}
use Rattle.link_db_buckets.proofs.Rounds.{asked_of-push, each-push}
use Rattle.link_db_buckets.proofs.buckets.Buckets.new.Goals as goal

pub loop-preserved : goal.loop-preserved
loop-preserved c =
    let so_far = c.loop.invariant in
    let bs = c.loop.buckets.items in
    let b = c.new.result in
    record {
      filled = search rules;
      keyed = λ names. rw c.in_ok-push.ensures.items (each-push (λ (x : Bucket). IsKeyed names x) bs b (so_far.keyed names) (c.new.ensures.keyed names));
      empty = rw c.in_ok-push.ensures.items (each-push (λ (x : Bucket). hashes_in x ≡ []) bs b so_far.empty c.new.ensures.hashes);
      definitions = λ names asked. rw c.in_ok-push.ensures.items (asked_of-push (definitions_in names) [] bs b asked (so_far.definitions names asked) (c.new.ensures.definitions names asked));
      overridden = λ names asked. rw c.in_ok-push.ensures.items (asked_of-push (overridden_in names) None bs b asked (so_far.overridden names asked) (c.new.ensures.overridden names asked));
    }

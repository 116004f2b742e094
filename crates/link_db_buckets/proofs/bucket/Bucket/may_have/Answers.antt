use Rattle.std.proofs.Common.{◌∙◌, sym, subst}
use Rattle.link_db_buckets.specs.Heads.{has_hash}
use Rattle.link_db_buckets.proofs.Search.{AreLeft, left_start, left_step}
use Rattle.link_db_buckets.proofs.Unmapped.{hashed_only, untold_unmapped, walk_unmapped}
use Rattle.link_db_buckets.proofs.bucket.Bucket.may_have.Goals as goal

pub returns-then-not-may_have : goal.returns-then-not-may_have
returns-then-not-may_have c = λ _ names asked keyed hash.
    let b = c.args.self.now in
    untold_unmapped names b c.args.hash asked (sym c.may_have.ensures ∙ c.if-not-may_have.true) b.placed keyed hash

pub loop-place-init : goal.loop-place-init
loop-place-init c =
    let b = c.args.self.now in
    let p = has_hash c.args.hash in
    subst (AreLeft p b.heads.items) (sym (c.into_iter-place-iterator.ensures.into_iter_gives ∙ c.walk-place-items.ensures)) (left_start p b.heads.items b.places c.args.hash (hashed_only b.heads.items c.args.hash) b.placed)

pub loop-place-preserved : goal.loop-place-preserved
loop-place-preserved c =
    let p = has_hash c.args.hash in
    let heads = c.args.self.now.heads.items in
    left_step p heads c.in-Some.place c.in-Some.field-0-1 c.next.new.self (subst (AreLeft p heads) c.in-Some.ensures.steps c.loop-place.invariant) (sym c.has_hash.ensures ∙ c.if-has_hash.false)

pub returns : goal.returns
returns c = λ _ names asked keyed hash.
    let b = c.args.self.now in
    walk_unmapped names b c.args.hash asked (subst (AreLeft (has_hash c.args.hash) b.heads.items) c.in-None.ensures.steps.0 c.loop-place.invariant) keyed hash

use Rattle.std.proofs.Common.{◌∙◌, Bool, sym, subst}
use Rattle.link_db_buckets.specs.declared.head.Head.{Head}
use Rattle.link_db_buckets.specs.Heads.{is_labelled}
use Rattle.link_db_buckets.proofs.Search.{AreLeft, labelled_only, labelled_alone, left_start, left_step, left_end, walk_found}
use Rattle.link_db_buckets.proofs.bucket.Bucket.place_of_label.Goals as goal

pub loop-place-init : goal.loop-place-init
loop-place-init g c =
    let b = c.args.self.now in
    let p : Head → Bool = is_labelled (g.T.Names.key_at c.args.table.now) c.args.label in
    let only = labelled_only (g.T.Names.key_at c.args.table.now) b.heads.items c.args.label c.args.hash c.requires.keyed c.requires.hashed in
    subst (AreLeft p b.heads.items) (sym (c.into_iter-place-iterator.ensures.into_iter_gives ∙ c.walk-place-items.ensures)) (left_start p b.heads.items b.places c.args.hash only b.placed)

pub returns-then-is_labelled : goal.returns-then-is_labelled
returns-then-is_labelled g c =
    let heads = c.args.self.now.heads.items in
    let alone = labelled_alone (g.T.Names.key_at c.args.table.now) heads c.args.label c.args.hash c.requires.keyed c.requires.hashed in
    walk_found (is_labelled (g.T.Names.key_at c.args.table.now) c.args.label) heads c.in-Some.place alone (sym c.is_labelled.ensures ∙ c.if-is_labelled.true)

pub loop-place-preserved : goal.loop-place-preserved
loop-place-preserved g c =
    let p : Head → Bool = is_labelled (g.T.Names.key_at c.args.table.now) c.args.label in
    let heads = c.args.self.now.heads.items in
    left_step p heads c.in-Some.place c.in-Some.field-0-1 c.next.new.self (subst (AreLeft p heads) c.in-Some.ensures.steps c.loop-place.invariant) (sym c.is_labelled.ensures ∙ c.if-is_labelled.false)

pub returns : goal.returns
returns g c =
    let p : Head → Bool = is_labelled (g.T.Names.key_at c.args.table.now) c.args.label in
    let heads = c.args.self.now.heads.items in
    left_end p heads (subst (AreLeft p heads) c.in-None.ensures.steps.0 c.loop-place.invariant)

use Rattle.std.proofs.Common.{◌∙◌, Bool, sym, subst}
use Rattle.link_db_buckets.specs.declared.head.Head.{Head}
use Rattle.link_db_buckets.specs.Heads.{is_head}
use Rattle.link_db_buckets.specs.Keys.{key_of}
use Rattle.link_db_buckets.proofs.Search.{AreLeft, named_only, named_alone, left_start, left_step, left_end, walk_found}
use Rattle.link_db_buckets.proofs.bucket.Bucket.place_of.Goals as goal

pub loop-place-init : goal.loop-place-init
loop-place-init g c =
    let b = c.args.self.now in
    let p : Head → Bool = is_head (g.T.Names.key_at c.args.table.now) (key_of c.args.name.now c.args.version) in
    let only = named_only (g.T.Names.key_at c.args.table.now) b.heads.items (key_of c.args.name.now c.args.version) c.args.hash c.requires.keyed c.requires.hashed in
    subst (AreLeft p b.heads.items) (sym (c.into_iter-place-iterator.ensures.into_iter_gives ∙ c.walk-place-items.ensures)) (left_start p b.heads.items b.places c.args.hash only b.placed)

pub returns-then-is_named : goal.returns-then-is_named
returns-then-is_named g c =
    let heads = c.args.self.now.heads.items in
    let alone = named_alone (g.T.Names.key_at c.args.table.now) heads (key_of c.args.name.now c.args.version) c.requires.keyed in
    walk_found (is_head (g.T.Names.key_at c.args.table.now) (key_of c.args.name.now c.args.version)) heads c.in-Some.place alone (sym c.is_named.ensures ∙ c.if-is_named.true)

pub loop-place-preserved : goal.loop-place-preserved
loop-place-preserved g c =
    let p : Head → Bool = is_head (g.T.Names.key_at c.args.table.now) (key_of c.args.name.now c.args.version) in
    let heads = c.args.self.now.heads.items in
    left_step p heads c.in-Some.place c.in-Some.field-0-1 c.next.new.self (subst (AreLeft p heads) c.in-Some.ensures.steps c.loop-place.invariant) (sym c.is_named.ensures ∙ c.if-is_named.false)

pub returns : goal.returns
returns g c =
    let p : Head → Bool = is_head (g.T.Names.key_at c.args.table.now) (key_of c.args.name.now c.args.version) in
    let heads = c.args.self.now.heads.items in
    left_end p heads (subst (AreLeft p heads) c.in-None.ensures.steps.0 c.loop-place.invariant)

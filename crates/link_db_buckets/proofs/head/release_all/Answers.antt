use Rattle.std.proofs.Common.{◌∙◌, ap, set, sym}
use Rattle.std.proofs.lemmas.List.Edits.{map_over_more}
use Rattle.link_db_buckets.specs.declared.head.Head.{Head}
use Rattle.link_db_buckets.specs.Heads.{first_alone}
use Rattle.link_db_buckets.proofs.head.release_all.Goals as goal

pub loop-head-preserved : goal.loop-head-preserved
loop-head-preserved c =
    let heads = c.loop-head.heads in
    let i = c.loop-head.head-index in
    ap (set heads i) c.release_later.ensures
    ∙ ap (λ (h : Head). set heads i (first_alone h)) (sym c.head-item.is)
    ∙ map_over_more first_alone c.args.heads.now heads i c.head-item.result c.loop-head-test.true c.loop-head.invariant c.head-item.is

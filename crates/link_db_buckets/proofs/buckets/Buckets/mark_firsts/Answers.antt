use Rattle.std.proofs.Common.{slice_index_or, ◌∙◌, ◌%◌, ap, arith, length, List, subst, take, All}
use Rattle.std.proofs.lemmas.List.{take_all}
use Rattle.link_db_buckets.specs.declared.bucket.Bucket.{Bucket}
use Rattle.link_db_buckets.specs.declared.head.Head.{Head}
use Rattle.link_db_buckets.specs.Bucket.{heads_in}
use Rattle.link_db_buckets.specs.Heads.{IsMarked, ids_of}
use Rattle.link_db_buckets.specs.Keys.{hash_of}
use Rattle.link_db_buckets.proofs.Marking.{all-next, buckets-stay, grown-both, in-buckets}
use Rattle.link_db_buckets.proofs.buckets.Buckets.mark_firsts.Goals as goal

pub loop-bucket-preserved : goal.loop-bucket-preserved
loop-bucket-preserved c =
    let buckets = c.args.self.now.buckets.items in
    let i = c.loop-bucket.bucket-index in
    let marks = c.mark_firsts.new.marks in
    let P = λ (b : Bucket). All (λ (h : Head). IsMarked marks (ids_of h)) (heads_in b) in
    let at = c.bucket-item.is ∙ ap (λ (bs : List Bucket). slice_index_or bs i c.bucket-item.result) c.deref-bucket-items.ensures.value in
    record {
      grown = grown-both c.args.marks.now c.loop-bucket.marks marks c.loop-bucket.invariant.grown c.mark_firsts.ensures.grown;
      marked = all-next P buckets i c.bucket-item.result (omega (arith, c.loop-bucket-test.true, ap length c.deref-bucket-items.ensures.value))
          (buckets-stay c.loop-bucket.marks marks (take i buckets) c.mark_firsts.ensures.grown c.loop-bucket.invariant.marked)
          (subst P at (subst (λ hs. All (λ (h : Head). IsMarked marks (ids_of h)) hs) c.heads.ensures c.mark_firsts.ensures.marked));
    }

pub returns-clause-grown : goal.returns-clause-grown
returns-clause-grown c = c.loop-bucket.invariant.grown

pub returns-clause-marked : goal.returns-clause-marked
returns-clause-marked c = λ names asked.
    let buckets = c.args.self.now.buckets.items in
    let marks = c.loop-bucket.marks in
    let all = subst (All (λ (b : Bucket). All (λ (h : Head). IsMarked marks (ids_of h)) (heads_in b)))
    (take_all c.loop-bucket.bucket-index buckets (omega (arith, c.loop-bucket-test.false, ap length c.deref-bucket-items.ensures.value))) c.loop-bucket.invariant.marked in
    in-buckets marks names buckets (hash_of asked % length buckets) asked all

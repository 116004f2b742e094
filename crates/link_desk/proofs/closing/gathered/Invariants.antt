use Rattle.std.proofs.Common.{◌≡◌, ◌+◌, vec_len}
use Rattle.link_desk.specs.Passes.{calls_in, parts_in}
use Rattle.link_desk.proofs.closing.gathered.Given as goal

abbrev pub invariant-loop-pass : goal.invariant-loop-pass
invariant-loop-pass g l = record {
  total : l.book.total ≡ l.fn.book.total;
  amount : l.all.amount ≡ l.sum;
  calls : l.sum + calls_in l.passes.items ≡ calls_in l.fn.passes.items;
  parts : l.all.parts + parts_in l.passes.items ≡ parts_in l.fn.passes.items;
}

abbrev pub decreases-loop-pass : goal.decreases-loop-pass
decreases-loop-pass g l = vec_len l.passes

use Rattle.std.proofs.Common.{arith}
use Rattle.std.proofs.lemmas.List.FromFn.{length-map-range_with_len}
use Rattle.link_claim_pool.specs.Examples.{item_of}
use Rattle.link_tests_claim.proofs.pool.ScatteredReadable.read.Goals as goal

pub overflow_mul-result : goal.overflow_mul-result
overflow_mul-result c =
    let lt = c.requires in
    let e = length-map-range_with_len (item_of c.args.self.now.chain c.args.self.now.files) 0 c.args.self.now.files in
    let small = c.args.self.now.small in
    omega arith

pub overflow_add-result : goal.overflow_add-result
overflow_add-result c =
    let lt = c.requires in
    let e = length-map-range_with_len (item_of c.args.self.now.chain c.args.self.now.files) 0 c.args.self.now.files in
    let small = c.args.self.now.small in
    omega arith

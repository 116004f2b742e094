use Rattle.std.proofs.Common.{length, refl}
use Rattle.std.proofs.lemmas.Option.{slice_get_read}
use Rattle.link_db_buckets.proofs.Unmapped.{unmapped_here}
use Rattle.link_db_buckets.proofs.buckets.Buckets.may_have.Goals as goal

pub returns : goal.returns
returns c = λ none names asked keyed hash.
    let bs = c.args.self.now in
    let i = c.place_of.result in
    let b = c.index.result.now in
    let is = slice_get_read bs.buckets.items (length bs.buckets.items) i b refl c.place_of.ensures.within c.index.ensures in
    unmapped_here names bs c.args.hash i b asked c.place_of.ensures.place is hash (c.may_have.ensures none names asked (keyed.keyed i b is) hash)

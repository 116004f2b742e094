use Rattle.std.proofs.Common.{◌∙◌, ◌-◌, sym}
use Rattle.link_db_buckets.specs.Heads.{is_labelled}
use Rattle.link_db_buckets.proofs.Search.{labelled_alone, walk_found}
use Rattle.link_db_buckets.proofs.bucket.Bucket.place_by_guess.Goals as goal

pub returns-then-is_labelled : goal.returns-then-is_labelled
returns-then-is_labelled g c =
    let names = g.T.Names.key_at c.args.table.now in
    let heads = c.args.self.now.heads.items in
    let alone = labelled_alone names heads c.args.label c.args.hash c.requires.keyed c.requires.hashed in
    walk_found (is_labelled names c.args.label) heads (c.args.guess - 1) alone (sym c.is_labelled.ensures ∙ c.if-is_labelled.true)

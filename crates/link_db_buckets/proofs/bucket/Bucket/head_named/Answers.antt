use Rattle.std.proofs.Common.{◌∙◌, refl, sym, ap, Some, None, length}
use Rattle.std.proofs.lemmas.Option.{slice_get_read}
use Rattle.std.specs.Option.{option_map}
use Rattle.link_db_buckets.specs.Keys.{key_of}
use Rattle.link_db_buckets.specs.Heads.{is_head}
use Rattle.link_db_buckets.proofs.Changes.{found_at, none_found, place_within}
use Rattle.link_db_buckets.proofs.bucket.Bucket.head_named.Goals as goal

pub returns-in_err-place : goal.returns-in_err-place
returns-in_err-place g c =
    ap (option_map (λ h. h.now)) c.from_residual.ensures
    ∙ sym (none_found (is_head (g.T.Names.key_at c.args.table.now) (key_of c.args.name.now c.args.version)) c.args.self.now.heads.items None (c.in_err-place.ensures {u = tt}) refl)

pub index-requires : goal.index-requires
index-requires g c = rw c.args.self.now.heads.ok.0 (place_within (is_head (g.T.Names.key_at c.args.table.now) (key_of c.args.name.now c.args.version)) c.args.self.now.heads.items (Some c.in_ok-place.place) c.in_ok-place.place c.in_ok-place.ensures refl)

pub returns : goal.returns
returns g c =
    let heads = c.args.self.now.heads.items in
    let within = place_within (is_head (g.T.Names.key_at c.args.table.now) (key_of c.args.name.now c.args.version)) heads (Some c.in_ok-place.place) c.in_ok-place.place c.in_ok-place.ensures refl in
    let found = found_at (is_head (g.T.Names.key_at c.args.table.now) (key_of c.args.name.now c.args.version)) heads (Some c.in_ok-place.place) c.in_ok-place.place c.in_ok-place.ensures refl in
    sym (found ∙ slice_get_read heads (length heads) c.in_ok-place.place c.index.result.now refl within c.index.ensures)

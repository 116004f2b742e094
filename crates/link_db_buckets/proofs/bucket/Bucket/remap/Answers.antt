use Rattle.std.proofs.Common.{[], refl, sym, subst, Some, length}
use Rattle.std.proofs.lemmas.Option.{slice_get_read}
use Rattle.std.specs.Option.{option_map_or, option_and_then}
use Rattle.link_db_buckets.specs.declared.head.Head.{Head}
use Rattle.link_db_buckets.specs.Heads.{ids_of, is_head}
use Rattle.link_db_buckets.specs.Keys.{key_of, same_key}
use Rattle.link_db_buckets.specs.Walks.{HaveWalks}
use Rattle.link_db_buckets.proofs.Changes.{place_within, changed_key, reads_change, reads_same, label_read, reads_same, never_mapped, in_use, ids_in_use, overridden_in_use, found_used_key, keys-set}
use Rattle.link_db_buckets.proofs.Hashes.{hashes_of-set}
use Rattle.link_db_buckets.proofs.bucket.Bucket.remap.Goals as goal

pub index_mut-head-requires : goal.index_mut-head-requires
index_mut-head-requires g c =
    let names = g.T.Names.key_at c.args.table.now in
    rw c.args.self.now.heads.ok.0 (place_within (is_head names (key_of c.args.name.now c.args.version)) c.args.self.now.heads.items (Some c.in-Some.place) c.in-Some.place c.in-Some.ensures refl)

pub invariant_of-self : goal.invariant_of-self
invariant_of-self g c =
    let names = g.T.Names.key_at c.args.table.now in
    let heads = c.args.self.now.heads.items in
    let h = c.index_mut-head.result.now in
    let y : Head = record { label = h.label; hash = h.hash; definitions = h.definitions; overridden = Some c.args.id } in
    let within = place_within (is_head names (key_of c.args.name.now c.args.version)) heads (Some c.in-Some.place) c.in-Some.place c.in-Some.ensures refl in
    let is = slice_get_read heads (length heads) c.in-Some.place h refl within c.index_mut-head.ensures.value in
    record { placed = subst (HaveWalks c.args.self.now.places) (sym (hashes_of-set heads c.in-Some.place h y is refl)) c.args.self.now.placed }

pub returns-in-Some-clause-keyed : goal.returns-in-Some-clause-keyed
returns-in-Some-clause-keyed g c =
    let names = g.T.Names.key_at c.args.table.now in
    let heads = c.args.self.now.heads.items in
    let h = c.index_mut-head.result.now in
    let y : Head = record { label = h.label; hash = h.hash; definitions = h.definitions; overridden = Some c.args.id } in
    let within = place_within (is_head names (key_of c.args.name.now c.args.version)) heads (Some c.in-Some.place) c.in-Some.place c.in-Some.ensures refl in
    let is = slice_get_read heads (length heads) c.in-Some.place h refl within c.index_mut-head.ensures.value in
    keys-set names heads c.in-Some.place h y is (found_used_key names heads (key_of c.args.name.now c.args.version) c.in-Some.place h c.in-Some.ensures is) refl refl c.requires.keyed

pub returns-in-Some-clause-hashes : goal.returns-in-Some-clause-hashes
returns-in-Some-clause-hashes g c =
    let names = g.T.Names.key_at c.args.table.now in
    let heads = c.args.self.now.heads.items in
    let h = c.index_mut-head.result.now in
    let y : Head = record { label = h.label; hash = h.hash; definitions = h.definitions; overridden = Some c.args.id } in
    let within = place_within (is_head names (key_of c.args.name.now c.args.version)) heads (Some c.in-Some.place) c.in-Some.place c.in-Some.ensures refl in
    let is = slice_get_read heads (length heads) c.in-Some.place h refl within c.index_mut-head.ensures.value in
    hashes_of-set heads c.in-Some.place h y is refl

pub returns-in-Some-clause-overridden : goal.returns-in-Some-clause-overridden
returns-in-Some-clause-overridden g c =
    let names = g.T.Names.key_at c.args.table.now in
    let heads = c.args.self.now.heads.items in
    let h = c.index_mut-head.result.now in
    let y : Head = record { label = h.label; hash = h.hash; definitions = h.definitions; overridden = Some c.args.id } in
    let within = place_within (is_head names (key_of c.args.name.now c.args.version)) heads (Some c.in-Some.place) c.in-Some.place c.in-Some.ensures refl in
    let is = slice_get_read heads (length heads) c.in-Some.place h refl within c.index_mut-head.ensures.value in
    let changes = changed_key names heads (key_of c.args.name.now c.args.version) c.in-Some.place h y c.requires.keyed c.in-Some.ensures is refl in
    reads_change names heads _ (same_key (key_of c.args.name.now c.args.version)) (Some h) (in_use y) (option_and_then (λ x. x.overridden)) (λ _. Some c.args.id) changes (overridden_in_use y)

pub returns-in-Some-clause-definitions : goal.returns-in-Some-clause-definitions
returns-in-Some-clause-definitions g c =
    let names = g.T.Names.key_at c.args.table.now in
    let heads = c.args.self.now.heads.items in
    let h = c.index_mut-head.result.now in
    let y : Head = record { label = h.label; hash = h.hash; definitions = h.definitions; overridden = Some c.args.id } in
    let within = place_within (is_head names (key_of c.args.name.now c.args.version)) heads (Some c.in-Some.place) c.in-Some.place c.in-Some.ensures refl in
    let is = slice_get_read heads (length heads) c.in-Some.place h refl within c.index_mut-head.ensures.value in
    let changes = changed_key names heads (key_of c.args.name.now c.args.version) c.in-Some.place h y c.requires.keyed c.in-Some.ensures is refl in
    reads_same names heads _ (same_key (key_of c.args.name.now c.args.version)) (Some h) (in_use y) (λ o. option_map_or ids_of o []) changes (ids_in_use y)

pub returns-in-Some-clause-labels : goal.returns-in-Some-clause-labels
returns-in-Some-clause-labels g c =
    let names = g.T.Names.key_at c.args.table.now in
    let heads = c.args.self.now.heads.items in
    let h = c.index_mut-head.result.now in
    let y : Head = record { label = h.label; hash = h.hash; definitions = h.definitions; overridden = Some c.args.id } in
    let within = place_within (is_head names (key_of c.args.name.now c.args.version)) heads (Some c.in-Some.place) c.in-Some.place c.in-Some.ensures refl in
    let is = slice_get_read heads (length heads) c.in-Some.place h refl within c.index_mut-head.ensures.value in
    let changes = changed_key names heads (key_of c.args.name.now c.args.version) c.in-Some.place h y c.requires.keyed c.in-Some.ensures is refl in
    reads_same names heads _ (same_key (key_of c.args.name.now c.args.version)) (Some h) (in_use y) label_read changes refl

pub returns-in_default-clause-overridden : goal.returns-in_default-clause-overridden
returns-in_default-clause-overridden g c =
    let names = g.T.Names.key_at c.args.table.now in
    absurd (never_mapped names c.args.self.now.heads.items (key_of c.args.name.now c.args.version) c.place_of.result c.place_of.ensures c.in_default.not-Some c.requires.mapped)

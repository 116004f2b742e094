use Rattle.std.proofs.Common.{◌∙◌, [], refl, sym, ap, subst, inl, Some, None, length}
use Rattle.std.proofs.lemmas.Option.{slice_get_read}
use Rattle.std.specs.Option.{option_map_or, option_and_then, option_or}
use Rattle.std.specs.Prelude.{slice_get}
use Rattle.link_db_buckets.specs.declared.head.Head.{Head}
use Rattle.link_db_buckets.specs.Heads.{HaveKeys, ids_of, is_labelled}
use Rattle.link_db_buckets.specs.Keys.{leads_to}
use Rattle.link_db_buckets.specs.Walks.{HaveWalks}
use Rattle.link_db_buckets.proofs.Changes.{place_within, changed_label, added_label, reads_change, reads_same, was_there, label_read, in_use, ids_in_use, overridden_in_use, found_used, keys-set, keys-push}
use Rattle.link_db_buckets.proofs.Hashes.{hashes_of-set}
use Rattle.link_db_buckets.proofs.bucket.Bucket.override_name.Goals as goal

pub index_mut-head-requires : goal.index_mut-head-requires
index_mut-head-requires g c =
    let names = g.T.Names.key_at c.args.table.now in
    rw c.args.self.now.heads.ok.0 (place_within (is_labelled names c.args.label) c.args.self.now.heads.items (Some c.in-Some.place) c.in-Some.place c.in-Some.ensures refl)

pub invariant_of-self : goal.invariant_of-self
invariant_of-self g c =
    let names = g.T.Names.key_at c.args.table.now in
    let heads = c.args.self.now.heads.items in
    let h = c.index_mut-head.result.now in
    let y : Head = record { label = h.label; hash = h.hash; definitions = h.definitions; overridden = Some c.args.id } in
    let within = place_within (is_labelled names c.args.label) heads (Some c.in-Some.place) c.in-Some.place c.in-Some.ensures refl in
    let is = slice_get_read heads (length heads) c.in-Some.place h refl within c.index_mut-head.ensures.value in
    record { placed = subst (HaveWalks c.args.self.now.places) (sym (hashes_of-set heads c.in-Some.place h y is refl)) c.args.self.now.placed }

pub returns-in-Some-clause-keyed : goal.returns-in-Some-clause-keyed
returns-in-Some-clause-keyed g c =
    let names = g.T.Names.key_at c.args.table.now in
    let heads = c.args.self.now.heads.items in
    let h = c.index_mut-head.result.now in
    let y : Head = record { label = h.label; hash = h.hash; definitions = h.definitions; overridden = Some c.args.id } in
    let within = place_within (is_labelled names c.args.label) heads (Some c.in-Some.place) c.in-Some.place c.in-Some.ensures refl in
    let is = slice_get_read heads (length heads) c.in-Some.place h refl within c.index_mut-head.ensures.value in
    keys-set names heads c.in-Some.place h y is (found_used names heads c.args.label c.in-Some.place h c.in-Some.ensures is) refl refl c.requires.keyed

pub returns-in-Some-clause-hashes : goal.returns-in-Some-clause-hashes
returns-in-Some-clause-hashes g c =
    let names = g.T.Names.key_at c.args.table.now in
    let heads = c.args.self.now.heads.items in
    let h = c.index_mut-head.result.now in
    let y : Head = record { label = h.label; hash = h.hash; definitions = h.definitions; overridden = Some c.args.id } in
    let within = place_within (is_labelled names c.args.label) heads (Some c.in-Some.place) c.in-Some.place c.in-Some.ensures refl in
    let is = slice_get_read heads (length heads) c.in-Some.place h refl within c.index_mut-head.ensures.value in
    inl (hashes_of-set heads c.in-Some.place h y is refl)

pub returns-in-Some-clause-before : goal.returns-in-Some-clause-before
returns-in-Some-clause-before g c =
    let names = g.T.Names.key_at c.args.table.now in
    let heads = c.args.self.now.heads.items in
    let h = c.index_mut-head.result.now in
    let y : Head = record { label = h.label; hash = h.hash; definitions = h.definitions; overridden = Some c.args.id } in
    let within = place_within (is_labelled names c.args.label) heads (Some c.in-Some.place) c.in-Some.place c.in-Some.ensures refl in
    let is = slice_get_read heads (length heads) c.in-Some.place h refl within c.index_mut-head.ensures.value in
    let changes = changed_label names heads c.args.label c.args.hash c.in-Some.place h y c.requires.keyed c.requires.hashed c.in-Some.ensures is refl in
    λ asked here. c.mapped-before.ensures ∙ ap (λ o. option_or (option_and_then (λ x. x.overridden) o) (slice_get (option_map_or ids_of o []) 0)) (sym (was_there names heads _ (leads_to names c.args.label) (Some h) (in_use y) changes asked here))

pub returns-in-Some-clause-overridden : goal.returns-in-Some-clause-overridden
returns-in-Some-clause-overridden g c =
    let names = g.T.Names.key_at c.args.table.now in
    let heads = c.args.self.now.heads.items in
    let h = c.index_mut-head.result.now in
    let y : Head = record { label = h.label; hash = h.hash; definitions = h.definitions; overridden = Some c.args.id } in
    let within = place_within (is_labelled names c.args.label) heads (Some c.in-Some.place) c.in-Some.place c.in-Some.ensures refl in
    let is = slice_get_read heads (length heads) c.in-Some.place h refl within c.index_mut-head.ensures.value in
    let changes = changed_label names heads c.args.label c.args.hash c.in-Some.place h y c.requires.keyed c.requires.hashed c.in-Some.ensures is refl in
    reads_change names heads _ (leads_to names c.args.label) (Some h) (in_use y) (option_and_then (λ x. x.overridden)) (λ _. Some c.args.id) changes (overridden_in_use y)

pub returns-in-Some-clause-definitions : goal.returns-in-Some-clause-definitions
returns-in-Some-clause-definitions g c =
    let names = g.T.Names.key_at c.args.table.now in
    let heads = c.args.self.now.heads.items in
    let h = c.index_mut-head.result.now in
    let y : Head = record { label = h.label; hash = h.hash; definitions = h.definitions; overridden = Some c.args.id } in
    let within = place_within (is_labelled names c.args.label) heads (Some c.in-Some.place) c.in-Some.place c.in-Some.ensures refl in
    let is = slice_get_read heads (length heads) c.in-Some.place h refl within c.index_mut-head.ensures.value in
    let changes = changed_label names heads c.args.label c.args.hash c.in-Some.place h y c.requires.keyed c.requires.hashed c.in-Some.ensures is refl in
    reads_same names heads _ (leads_to names c.args.label) (Some h) (in_use y) (λ o. option_map_or ids_of o []) changes (ids_in_use y)

pub returns-in-Some-clause-labels : goal.returns-in-Some-clause-labels
returns-in-Some-clause-labels g c =
    let names = g.T.Names.key_at c.args.table.now in
    let heads = c.args.self.now.heads.items in
    let h = c.index_mut-head.result.now in
    let y : Head = record { label = h.label; hash = h.hash; definitions = h.definitions; overridden = Some c.args.id } in
    let within = place_within (is_labelled names c.args.label) heads (Some c.in-Some.place) c.in-Some.place c.in-Some.ensures refl in
    let is = slice_get_read heads (length heads) c.in-Some.place h refl within c.index_mut-head.ensures.value in
    let changes = changed_label names heads c.args.label c.args.hash c.in-Some.place h y c.requires.keyed c.requires.hashed c.in-Some.ensures is refl in
    reads_change names heads _ (leads_to names c.args.label) (Some h) (in_use y) label_read (λ o. option_or o (Some c.args.label)) changes refl

pub returns-in_ok-push_head-in-None-clause-keyed : goal.returns-in_ok-push_head-in-None-clause-keyed
returns-in_ok-push_head-in-None-clause-keyed g c =
    let names = g.T.Names.key_at c.args.table.now in
    let y : Head = record { label = c.args.label; hash = c.args.hash; definitions = None; overridden = Some c.args.id } in
    let heads = c.args.self.now.heads.items in
    subst (HaveKeys names) (sym c.in_ok-push_head-in-None.ensures.ok) (keys-push names heads y c.in-None.ensures c.requires.hashed c.requires.keyed)

pub returns-in_ok-push_head-in-None-clause-before : goal.returns-in_ok-push_head-in-None-clause-before
returns-in_ok-push_head-in-None-clause-before g c =
    let names = g.T.Names.key_at c.args.table.now in
    let y : Head = record { label = c.args.label; hash = c.args.hash; definitions = None; overridden = Some c.args.id } in
    let heads = c.args.self.now.heads.items in
    let changes = added_label names heads c.args.hash y refl c.requires.hashed c.in-None.ensures in
    λ asked here. ap (λ o. option_or (option_and_then (λ x. x.overridden) o) (slice_get (option_map_or ids_of o []) 0)) (sym (was_there names heads _ (leads_to names c.args.label) None (Some y) changes asked here))

pub returns-in_ok-push_head-in-None-clause-overridden : goal.returns-in_ok-push_head-in-None-clause-overridden
returns-in_ok-push_head-in-None-clause-overridden g c =
    let names = g.T.Names.key_at c.args.table.now in
    let y : Head = record { label = c.args.label; hash = c.args.hash; definitions = None; overridden = Some c.args.id } in
    let heads = c.args.self.now.heads.items in
    let changes = added_label names heads c.args.hash y refl c.requires.hashed c.in-None.ensures in
    λ asked. rw c.in_ok-push_head-in-None.ensures.ok (reads_change names heads _ (leads_to names c.args.label) None (Some y) (option_and_then (λ x. x.overridden)) (λ _. Some c.args.id) changes refl asked)

pub returns-in_ok-push_head-in-None-clause-labels : goal.returns-in_ok-push_head-in-None-clause-labels
returns-in_ok-push_head-in-None-clause-labels g c =
    let names = g.T.Names.key_at c.args.table.now in
    let y : Head = record { label = c.args.label; hash = c.args.hash; definitions = None; overridden = Some c.args.id } in
    let heads = c.args.self.now.heads.items in
    let changes = added_label names heads c.args.hash y refl c.requires.hashed c.in-None.ensures in
    λ asked. rw c.in_ok-push_head-in-None.ensures.ok (reads_change names heads _ (leads_to names c.args.label) None (Some y) label_read (λ o. option_or o (Some c.args.label)) changes refl asked)

pub returns-in_ok-push_head-in-None-clause-definitions : goal.returns-in_ok-push_head-in-None-clause-definitions
returns-in_ok-push_head-in-None-clause-definitions g c =
    let names = g.T.Names.key_at c.args.table.now in
    let y : Head = record { label = c.args.label; hash = c.args.hash; definitions = None; overridden = Some c.args.id } in
    let heads = c.args.self.now.heads.items in
    let changes = added_label names heads c.args.hash y refl c.requires.hashed c.in-None.ensures in
    λ asked. rw c.in_ok-push_head-in-None.ensures.ok (reads_same names heads _ (leads_to names c.args.label) None (Some y) (λ o. option_map_or ids_of o []) changes refl asked)

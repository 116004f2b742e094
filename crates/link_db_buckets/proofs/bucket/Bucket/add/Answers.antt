use Rattle.std.proofs.Common.{◌≡◌, ◌∙◌, ◌++◌, ◌∷◌, [], refl, sym, ap, subst, inl, Option, Some, None, ℕ, List, length, if◌then◌else◌}
use Rattle.std.proofs.lemmas.Option.{slice_get_read}
use Rattle.std.proofs.lemmas.Result.{on_ok_weaker, on_err_weaker}
use Rattle.std.specs.Option.{option_map_or, option_and_then, option_or}
use Rattle.link_db_buckets.specs.declared.head.Head.{Head}
use Rattle.link_db_buckets.specs.Heads.{HaveKeys, ids_of, head_of, is_labelled}
use Rattle.link_db_buckets.specs.Keys.{Key, leads_to}
use Rattle.link_db_buckets.specs.Walks.{HaveWalks}
use Rattle.link_db_buckets.proofs.Changes.{place_within, changed_label, added_label, reads_change, reads_same, label_read, in_use, ids_in_use, overridden_in_use, is_in_use, used_push, used_same, found_used, keys-set, keys-push, on_both}
use Rattle.link_db_buckets.proofs.Hashes.{hashes_of-set}
use Rattle.link_db_buckets.proofs.bucket.Bucket.add.Goals as goal

pub index_mut-head-requires : goal.index_mut-head-requires
index_mut-head-requires g c =
    let names = g.T.Names.key_at c.args.table.now in
    rw c.args.self.now.heads.ok.0 (place_within (is_labelled names c.args.label) c.args.self.now.heads.items (Some c.in-Some.place) c.in-Some.place c.in-Some.ensures refl)

pub invariant_of-self : goal.invariant_of-self
invariant_of-self g c =
    let names = g.T.Names.key_at c.args.table.now in
    let heads = c.args.self.now.heads.items in
    let h = c.index_mut-head.result.now in
    let y : Head = c.add.new.self in
    let within = place_within (is_labelled names c.args.label) heads (Some c.in-Some.place) c.in-Some.place c.in-Some.ensures refl in
    let is = slice_get_read heads (length heads) c.in-Some.place h refl within c.index_mut-head.ensures.value in
    record { placed = subst (HaveWalks c.args.self.now.places) (sym (hashes_of-set heads c.in-Some.place h y is (ap (λ (x : Head). x.hash) c.add.ensures.rest))) c.args.self.now.placed }

pub returns-in-Some-clause-keyed : goal.returns-in-Some-clause-keyed
returns-in-Some-clause-keyed g c =
    let names = g.T.Names.key_at c.args.table.now in
    let heads = c.args.self.now.heads.items in
    let h = c.index_mut-head.result.now in
    let y : Head = c.add.new.self in
    let within = place_within (is_labelled names c.args.label) heads (Some c.in-Some.place) c.in-Some.place c.in-Some.ensures refl in
    let is = slice_get_read heads (length heads) c.in-Some.place h refl within c.index_mut-head.ensures.value in
    keys-set names heads c.in-Some.place h y is (found_used names heads c.args.label c.in-Some.place h c.in-Some.ensures is) (ap (λ (x : Head). x.label) c.add.ensures.rest) (ap (λ (x : Head). x.hash) c.add.ensures.rest) c.requires.keyed

pub returns-in-Some-clause-hashes : goal.returns-in-Some-clause-hashes
returns-in-Some-clause-hashes g c =
    let names = g.T.Names.key_at c.args.table.now in
    let heads = c.args.self.now.heads.items in
    let h = c.index_mut-head.result.now in
    let y : Head = c.add.new.self in
    let within = place_within (is_labelled names c.args.label) heads (Some c.in-Some.place) c.in-Some.place c.in-Some.ensures refl in
    let is = slice_get_read heads (length heads) c.in-Some.place h refl within c.index_mut-head.ensures.value in
    inl (hashes_of-set heads c.in-Some.place h y is (ap (λ (x : Head). x.hash) c.add.ensures.rest))

pub returns-in-Some-clause-definitions : goal.returns-in-Some-clause-definitions
returns-in-Some-clause-definitions g c =
    let names = g.T.Names.key_at c.args.table.now in
    let heads = c.args.self.now.heads.items in
    let h = c.index_mut-head.result.now in
    let y : Head = c.add.new.self in
    let within = place_within (is_labelled names c.args.label) heads (Some c.in-Some.place) c.in-Some.place c.in-Some.ensures refl in
    let is = slice_get_read heads (length heads) c.in-Some.place h refl within c.index_mut-head.ensures.value in
    let changes = changed_label names heads c.args.label c.args.hash c.in-Some.place h y c.requires.keyed c.requires.hashed c.in-Some.ensures is (ap (λ (x : Head). x.label) c.add.ensures.rest) in
    on_ok_weaker c.add.result (λ ids. reads_change names heads _ (leads_to names c.args.label) (Some h) (in_use y) (λ o. option_map_or ids_of o []) (λ l. l ++ c.args.id ∷ []) changes (ids_in_use y ∙ ids)) c.add.ensures.ok

pub returns-in-Some-clause-err : goal.returns-in-Some-clause-err
returns-in-Some-clause-err g c =
    let names = g.T.Names.key_at c.args.table.now in
    let heads = c.args.self.now.heads.items in
    let h = c.index_mut-head.result.now in
    let y : Head = c.add.new.self in
    let within = place_within (is_labelled names c.args.label) heads (Some c.in-Some.place) c.in-Some.place c.in-Some.ensures refl in
    let is = slice_get_read heads (length heads) c.in-Some.place h refl within c.index_mut-head.ensures.value in
    let changes = changed_label names heads c.args.label c.args.hash c.in-Some.place h y c.requires.keyed c.requires.hashed c.in-Some.ensures is (ap (λ (x : Head). x.label) c.add.ensures.rest) in
    on_err_weaker c.add.result (λ ids. reads_same names heads _ (leads_to names c.args.label) (Some h) (in_use y) (λ o. option_map_or ids_of o []) changes (ids_in_use y ∙ ids)) c.add.ensures.err

pub returns-in-Some-clause-overridden : goal.returns-in-Some-clause-overridden
returns-in-Some-clause-overridden g c =
    let names = g.T.Names.key_at c.args.table.now in
    let heads = c.args.self.now.heads.items in
    let h = c.index_mut-head.result.now in
    let y : Head = c.add.new.self in
    let within = place_within (is_labelled names c.args.label) heads (Some c.in-Some.place) c.in-Some.place c.in-Some.ensures refl in
    let is = slice_get_read heads (length heads) c.in-Some.place h refl within c.index_mut-head.ensures.value in
    let changes = changed_label names heads c.args.label c.args.hash c.in-Some.place h y c.requires.keyed c.requires.hashed c.in-Some.ensures is (ap (λ (x : Head). x.label) c.add.ensures.rest) in
    reads_same names heads _ (leads_to names c.args.label) (Some h) (in_use y) (option_and_then (λ x. x.overridden)) changes (overridden_in_use y ∙ (ap (λ (x : Head). x.overridden) c.add.ensures.rest))

pub returns-in-Some-clause-labels : goal.returns-in-Some-clause-labels
returns-in-Some-clause-labels g c =
    let names = g.T.Names.key_at c.args.table.now in
    let heads = c.args.self.now.heads.items in
    let h = c.index_mut-head.result.now in
    let y : Head = c.add.new.self in
    let within = place_within (is_labelled names c.args.label) heads (Some c.in-Some.place) c.in-Some.place c.in-Some.ensures refl in
    let is = slice_get_read heads (length heads) c.in-Some.place h refl within c.index_mut-head.ensures.value in
    let changes = changed_label names heads c.args.label c.args.hash c.in-Some.place h y c.requires.keyed c.requires.hashed c.in-Some.ensures is (ap (λ (x : Head). x.label) c.add.ensures.rest) in
    on_ok_weaker c.add.result (λ ids. reads_change names heads _ (leads_to names c.args.label) (Some h) (in_use y) label_read (λ o. option_or o (Some c.args.label)) changes (ap label_read (is_in_use y (used_push y (ids_of h) c.args.id ids)) ∙ ap Some (ap (λ (x : Head). x.label) c.add.ensures.rest))) c.add.ensures.ok

pub returns-in-Some-clause-labels_err : goal.returns-in-Some-clause-labels_err
returns-in-Some-clause-labels_err g c =
    let names = g.T.Names.key_at c.args.table.now in
    let heads = c.args.self.now.heads.items in
    let h = c.index_mut-head.result.now in
    let y : Head = c.add.new.self in
    let within = place_within (is_labelled names c.args.label) heads (Some c.in-Some.place) c.in-Some.place c.in-Some.ensures refl in
    let is = slice_get_read heads (length heads) c.in-Some.place h refl within c.index_mut-head.ensures.value in
    let changes = changed_label names heads c.args.label c.args.hash c.in-Some.place h y c.requires.keyed c.requires.hashed c.in-Some.ensures is (ap (λ (x : Head). x.label) c.add.ensures.rest) in
    on_err_weaker c.add.result (λ ids. reads_same names heads _ (leads_to names c.args.label) (Some h) (in_use y) label_read changes (ap label_read (is_in_use y (used_same y h ids (ap (λ (x : Head). x.overridden) c.add.ensures.rest) (found_used names heads c.args.label c.in-Some.place h c.in-Some.ensures is))) ∙ ap Some (ap (λ (x : Head). x.label) c.add.ensures.rest))) c.add.ensures.err

pub returns-in-None-clause-keyed : goal.returns-in-None-clause-keyed
returns-in-None-clause-keyed g c =
    let names = g.T.Names.key_at c.args.table.now in
    let y : Head = record { label = c.args.label; hash = c.args.hash; definitions = Some c.one.result; overridden = None } in
    let heads = c.args.self.now.heads.items in
    on_both c.push_head.result
    (on_ok_weaker c.push_head.result (λ more. subst (HaveKeys names) (sym more) (keys-push names heads y c.in-None.ensures c.requires.hashed c.requires.keyed)) c.push_head.ensures.ok)
    (on_err_weaker c.push_head.result (λ same. subst (HaveKeys names) (sym same) c.requires.keyed) c.push_head.ensures.err)

pub returns-in-None-clause-definitions : goal.returns-in-None-clause-definitions
returns-in-None-clause-definitions g c =
    let names = g.T.Names.key_at c.args.table.now in
    let y : Head = record { label = c.args.label; hash = c.args.hash; definitions = Some c.one.result; overridden = None } in
    let heads = c.args.self.now.heads.items in
    let changes = added_label names heads c.args.hash y (used_push y [] c.args.id c.one.ensures) c.requires.hashed c.in-None.ensures in
    let read : Option Head → List ℕ = λ o. option_map_or ids_of o [] in
    let grown : List Head → Type 0 = λ new. (asked : Key) → read (head_of names new asked) ≡ (if leads_to names c.args.label asked then read (head_of names heads asked) ++ c.args.id ∷ [] else read (head_of names heads asked)) in
    on_ok_weaker c.push_head.result (λ more. subst grown (sym more) (reads_change names heads _ (leads_to names c.args.label) None (Some y) read (λ l. l ++ c.args.id ∷ []) changes c.one.ensures)) c.push_head.ensures.ok

pub returns-in-None-clause-overridden : goal.returns-in-None-clause-overridden
returns-in-None-clause-overridden g c =
    let names = g.T.Names.key_at c.args.table.now in
    let y : Head = record { label = c.args.label; hash = c.args.hash; definitions = Some c.one.result; overridden = None } in
    let heads = c.args.self.now.heads.items in
    let changes = added_label names heads c.args.hash y (used_push y [] c.args.id c.one.ensures) c.requires.hashed c.in-None.ensures in
    let read : Option Head → Option ℕ = option_and_then (λ x. x.overridden) in
    let same : List Head → Type 0 = λ new. (asked : Key) → read (head_of names new asked) ≡ read (head_of names heads asked) in
    on_both c.push_head.result
    (on_ok_weaker c.push_head.result (λ more. subst same (sym more) (reads_same names heads _ (leads_to names c.args.label) None (Some y) read changes refl)) c.push_head.ensures.ok)
    (on_err_weaker c.push_head.result (λ is. subst same (sym is) (λ asked. refl)) c.push_head.ensures.err)

pub returns-in-None-clause-labels : goal.returns-in-None-clause-labels
returns-in-None-clause-labels g c =
    let names = g.T.Names.key_at c.args.table.now in
    let y : Head = record { label = c.args.label; hash = c.args.hash; definitions = Some c.one.result; overridden = None } in
    let heads = c.args.self.now.heads.items in
    let changes = added_label names heads c.args.hash y (used_push y [] c.args.id c.one.ensures) c.requires.hashed c.in-None.ensures in
    let grown : List Head → Type 0 = λ new. (asked : Key) → label_read (head_of names new asked) ≡ (if leads_to names c.args.label asked then option_or (label_read (head_of names heads asked)) (Some c.args.label) else label_read (head_of names heads asked)) in
    on_ok_weaker c.push_head.result (λ more. subst grown (sym more) (reads_change names heads _ (leads_to names c.args.label) None (Some y) label_read (λ o. option_or o (Some c.args.label)) changes refl)) c.push_head.ensures.ok

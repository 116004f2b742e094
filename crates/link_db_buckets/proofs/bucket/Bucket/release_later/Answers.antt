use Rattle.std.proofs.Common.{◌∙◌, List, [], map, sym, ap, subst}
use Rattle.std.specs.Option.{option_and_then, option_map, option_map_or}
use Rattle.link_db_buckets.specs.declared.head.Head.{Head}
use Rattle.link_db_buckets.specs.Heads.{HaveKeys, hashes_of, first_alone, head_of, ids_of}
use Rattle.link_db_buckets.specs.Walks.{HaveWalks}
use Rattle.link_db_buckets.proofs.Releasing.{all_written, definitions_alone, hashes_alone, keys_alone, label_alone, overridden_alone}
use Rattle.link_db_buckets.proofs.bucket.Bucket.release_later.Goals as goal

pub invariant_of-self : goal.invariant_of-self
invariant_of-self c =
    let heads = c.args.self.now.heads.items in
    let is = all_written _ c.release_all.new.heads c.as_mut_slice.result.now heads c.args.self.now.heads.ok.0 c.as_mut_slice.ensures.value c.release_all.auto.heads ∙ c.release_all.ensures ∙ ap (map first_alone) c.as_mut_slice.ensures.value in
    record { placed = subst (HaveWalks c.args.self.now.places) (sym (ap hashes_of is ∙ hashes_alone heads)) c.args.self.now.placed }

pub returns-clause-keyed : goal.returns-clause-keyed
returns-clause-keyed c =
    let heads = c.args.self.now.heads.items in
    let is = all_written _ c.release_all.new.heads c.as_mut_slice.result.now heads c.args.self.now.heads.ok.0 c.as_mut_slice.ensures.value c.release_all.auto.heads ∙ c.release_all.ensures ∙ ap (map first_alone) c.as_mut_slice.ensures.value in
    λ names have. subst (HaveKeys names) (sym is) (keys_alone names heads have)

pub returns-clause-hashes : goal.returns-clause-hashes
returns-clause-hashes c =
    let heads = c.args.self.now.heads.items in
    let is = all_written _ c.release_all.new.heads c.as_mut_slice.result.now heads c.args.self.now.heads.ok.0 c.as_mut_slice.ensures.value c.release_all.auto.heads ∙ c.release_all.ensures ∙ ap (map first_alone) c.as_mut_slice.ensures.value in
    ap hashes_of is ∙ hashes_alone heads

pub returns-clause-definitions : goal.returns-clause-definitions
returns-clause-definitions c =
    let heads = c.args.self.now.heads.items in
    let is = all_written _ c.release_all.new.heads c.as_mut_slice.result.now heads c.args.self.now.heads.ok.0 c.as_mut_slice.ensures.value c.release_all.auto.heads ∙ c.release_all.ensures ∙ ap (map first_alone) c.as_mut_slice.ensures.value in
    λ names asked. ap (λ (l : List Head). option_map_or ids_of (head_of names l asked) []) is ∙ definitions_alone names heads asked

pub returns-clause-overridden : goal.returns-clause-overridden
returns-clause-overridden c =
    let heads = c.args.self.now.heads.items in
    let is = all_written _ c.release_all.new.heads c.as_mut_slice.result.now heads c.args.self.now.heads.ok.0 c.as_mut_slice.ensures.value c.release_all.auto.heads ∙ c.release_all.ensures ∙ ap (map first_alone) c.as_mut_slice.ensures.value in
    λ names asked. ap (λ (l : List Head). option_and_then (λ h. h.overridden) (head_of names l asked)) is ∙ overridden_alone names heads asked

pub returns-clause-labels : goal.returns-clause-labels
returns-clause-labels c =
    let heads = c.args.self.now.heads.items in
    let is = all_written _ c.release_all.new.heads c.as_mut_slice.result.now heads c.args.self.now.heads.ok.0 c.as_mut_slice.ensures.value c.release_all.auto.heads ∙ c.release_all.ensures ∙ ap (map first_alone) c.as_mut_slice.ensures.value in
    λ names asked. ap (λ (l : List Head). option_map (λ h. h.label) (head_of names l asked)) is ∙ label_alone names heads asked

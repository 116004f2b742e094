use Rattle.std.proofs.Common.{◌≡◌, ◌∙◌, ◌++◌, List, [], None, ap, drop, length, map, refl, take}
use Rattle.std.specs.Option.{option_and_then, option_map, option_map_or}
use Rattle.link_db_buckets.specs.declared.bucket.Bucket.{Bucket}
use Rattle.link_db_buckets.specs.declared.head.Head.{Head}
use Rattle.link_db_buckets.specs.Bucket.{heads_in}
use Rattle.link_db_buckets.specs.Heads.{first_alone, head_of, ids_of}
use Rattle.link_db_buckets.proofs.Releasing.{all_written, asked_alone, buckets_alone, definitions_alone, label_alone, overridden_alone}
use Rattle.link_db_buckets.specs.Keys.{hash_of}
use Rattle.link_db_buckets.proofs.buckets.Buckets.release_later.Goals as goal

pub returns-clause-keyed : goal.returns-clause-keyed
returns-clause-keyed c =
    let old = c.args.self.now.buckets.items in
    let new = take c.args.self.now.buckets.len (c.release_all.new.buckets ++ drop (length c.release_all.new.buckets) old) in
    let is : map heads_in new ≡ map (map first_alone) (map heads_in old) = ap (map heads_in) (all_written _ c.release_all.new.buckets c.as_mut_slice.result.now old c.args.self.now.buckets.ok.0 c.as_mut_slice.ensures.value c.release_all.auto.buckets) ∙ c.release_all.ensures
    ∙ ap (λ (l : List Bucket). map (map first_alone) (map heads_in l)) c.as_mut_slice.ensures.value in
    λ names keyed. buckets_alone names c.args.self.now _ is keyed

pub returns-clause-definitions : goal.returns-clause-definitions
returns-clause-definitions c =
    let old = c.args.self.now.buckets.items in
    let new = take c.args.self.now.buckets.len (c.release_all.new.buckets ++ drop (length c.release_all.new.buckets) old) in
    let is : map heads_in new ≡ map (map first_alone) (map heads_in old) = ap (map heads_in) (all_written _ c.release_all.new.buckets c.as_mut_slice.result.now old c.args.self.now.buckets.ok.0 c.as_mut_slice.ensures.value c.release_all.auto.buckets) ∙ c.release_all.ensures
    ∙ ap (λ (l : List Bucket). map (map first_alone) (map heads_in l)) c.as_mut_slice.ensures.value in
    λ names asked. asked_alone (λ (l : List Head). option_map_or ids_of (head_of names l asked) []) [] (take 1) old new is (λ heads. definitions_alone names heads asked) refl (hash_of asked)

pub returns-clause-overridden : goal.returns-clause-overridden
returns-clause-overridden c =
    let old = c.args.self.now.buckets.items in
    let new = take c.args.self.now.buckets.len (c.release_all.new.buckets ++ drop (length c.release_all.new.buckets) old) in
    let is : map heads_in new ≡ map (map first_alone) (map heads_in old) = ap (map heads_in) (all_written _ c.release_all.new.buckets c.as_mut_slice.result.now old c.args.self.now.buckets.ok.0 c.as_mut_slice.ensures.value c.release_all.auto.buckets) ∙ c.release_all.ensures
    ∙ ap (λ (l : List Bucket). map (map first_alone) (map heads_in l)) c.as_mut_slice.ensures.value in
    λ names asked. asked_alone (λ (l : List Head). option_and_then (λ h. h.overridden) (head_of names l asked)) None (λ o. o) old new is (λ heads. overridden_alone names heads asked) refl (hash_of asked)

pub returns-clause-labels : goal.returns-clause-labels
returns-clause-labels c =
    let old = c.args.self.now.buckets.items in
    let new = take c.args.self.now.buckets.len (c.release_all.new.buckets ++ drop (length c.release_all.new.buckets) old) in
    let is : map heads_in new ≡ map (map first_alone) (map heads_in old) = ap (map heads_in) (all_written _ c.release_all.new.buckets c.as_mut_slice.result.now old c.args.self.now.buckets.ok.0 c.as_mut_slice.ensures.value c.release_all.auto.buckets) ∙ c.release_all.ensures
    ∙ ap (λ (l : List Bucket). map (map first_alone) (map heads_in l)) c.as_mut_slice.ensures.value in
    λ names asked. asked_alone (λ (l : List Head). option_map (λ h. h.label) (head_of names l asked)) None (λ o. o) old new is (λ heads. label_alone names heads asked) refl (hash_of asked)

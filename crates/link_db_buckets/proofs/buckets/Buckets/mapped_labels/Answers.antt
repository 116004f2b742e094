use Rattle.std.proofs.Common.{◌≡◌, ◌≢◌, ◌∙◌, ℕ, List, Some, ap, subst, sym}
use Rattle.std.specs.Prelude.{All, AllPairs, Contains, IsSomeAnd}
use Rattle.std.specs.List.{flat_map}
use Rattle.link_db_buckets.specs.declared.bucket.Bucket.{Bucket}
use Rattle.link_db_buckets.specs.declared.label.Label.{Label}
use Rattle.link_db_buckets.specs.Bucket.{heads_in}
use Rattle.link_db_buckets.specs.Buckets.{mapped_at}
use Rattle.link_db_buckets.specs.Heads.{mapped_labels}
use Rattle.link_db_buckets.proofs.Labels.{labels_complete, labels_mapped, labels_once}
use Rattle.link_db_buckets.proofs.buckets.Buckets.mapped_labels.Goals as goal

pub returns-clause-mapped : goal.returns-clause-mapped
returns-clause-mapped c = λ names keyed.
    let are = c.new.ensures ∙ ap (λ (bs : List Bucket). mapped_labels (flat_map heads_in bs)) c.as_slice.ensures.value in
    subst (All (λ (pair : Label × ℕ). IsSomeAnd (names pair.0) (λ key. mapped_at names c.args.self.now key ≡ Some pair.1))) (sym are) (labels_mapped names c.args.self.now keyed)

pub returns-clause-complete : goal.returns-clause-complete
returns-clause-complete c = λ names key id keyed mapped.
    let are = c.new.ensures ∙ ap (λ (bs : List Bucket). mapped_labels (flat_map heads_in bs)) c.as_slice.ensures.value in
    subst (λ (pairs : List (Label × ℕ)). (label : Label) × (names label ≡ Some key) × Contains pairs (label, id)) (sym are) (labels_complete names c.args.self.now key id keyed mapped)

pub returns-clause-once : goal.returns-clause-once
returns-clause-once c = λ names keyed.
    let are = c.new.ensures ∙ ap (λ (bs : List Bucket). mapped_labels (flat_map heads_in bs)) c.as_slice.ensures.value in
    subst (AllPairs (λ (a b : Label × ℕ). names a.0 ≢ names b.0)) (sym are) (labels_once names c.args.self.now keyed)

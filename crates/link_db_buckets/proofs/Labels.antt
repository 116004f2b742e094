-- The labels of all heads in use.
use Rattle.std.proofs.Common.{◌≡◌, ◌∙◌, ◌%◌, ◌+◌, ℕ, true, [], length, take, Option, Some, None, refl, sym, ap, subst, arith}
use Rattle.std.specs.Prelude.{All, AllPairs, Contains, IsSomeAnd, slice_get}
use Rattle.std.specs.List.{flat_map}
use Rattle.std.specs.Option.{is_some, option_and_then, option_map, option_map_or, option_or}
use Rattle.std.proofs.lemmas.Option.{same_Some}
use Rattle.link_db_buckets.specs.declared.bucket.Bucket.{Bucket}
use Rattle.link_db_buckets.specs.declared.buckets.Buckets.{Buckets}
use Rattle.link_db_buckets.specs.declared.head.Head.{Head}
use Rattle.link_db_buckets.specs.declared.label.Label.{Label}
use Rattle.link_db_buckets.specs.Bucket.{heads_in}
use Rattle.link_db_buckets.specs.Buckets.{AreKeyed, all_heads, buckets_in, mapped_at}
use Rattle.link_db_buckets.specs.Heads.{head_of, ids_of, is_head, is_used, mapped_labels, mapped_of}
use Rattle.link_db_buckets.specs.Keys.{Key, leads_to, hash_of}
use Rattle.link_db_buckets.proofs.Changes.{find_passes}
use Rattle.link_db_buckets.proofs.Keys.{and-both, key_itself, leads_from, leads_there}
use Rattle.link_db_buckets.proofs.Made.{all_made, in_one_of, made_of, one_made, pairs_made}
use Rattle.link_db_buckets.proofs.Scanning.{definitions_scanned, found_somewhere, overridden_scanned}
use Rattle.link_db_buckets.proofs.Search.{labelled_head}
use Rattle.link_db_buckets.proofs.Walking.{head_alone, head_is_name, settled_head}

-- a head that is mapped to something is in use
used_head : (h : Head) (id : ℕ) → mapped_of h ≡ Some id → is_used h ≡ true
used_head h id e = ap (λ (o : Option ℕ). is_some o) e

-- a head in use is mapped to what its key is mapped to
head_mapped : (names : Label → Option Key) (bs : Buckets) (k : ℕ) (h : Head) (id : ℕ) → AreKeyed names bs → slice_get (all_heads bs) k ≡ Some h → mapped_of h ≡ Some id → IsSomeAnd (names h.label) (λ key. mapped_at names bs key ≡ Some id)
head_mapped names bs k h id keyed is mapped =
    let place = in_one_of heads_in (buckets_in bs) k h is in
    let name = head_is_name names bs place.0 place.1 place.2 h keyed place.3 place.4 (used_head h id mapped) in
    rw name.1 (rw (name.3, name.4) mapped)

-- each label leads to a key that is mapped to what comes with the label
pub labels_mapped : (names : Label → Option Key) (bs : Buckets) → AreKeyed names bs → All (λ pair. IsSomeAnd (names pair.0) (λ key. mapped_at names bs key ≡ Some pair.1)) (mapped_labels (all_heads bs))
labels_mapped names bs keyed = all_made (λ h. option_map (λ id. (h.label, id)) (mapped_of h)) (λ pair. IsSomeAnd (names pair.0) (λ key. mapped_at names bs key ≡ Some pair.1)) (all_heads bs)
    (λ k h pair is made.
    let id = made_of (λ id. (h.label, id)) (mapped_of h) pair made in
    subst (λ (p : Label × ℕ). IsSomeAnd (names p.0) (λ key. mapped_at names bs key ≡ Some p.1)) id.2 (head_mapped names bs k h id.0 keyed is id.1))

-- what a key is mapped to is what its head among all is mapped to
mapped_scanned : (names : Label → Option Key) (bs : Buckets) (key : Key) → AreKeyed names bs → mapped_at names bs key ≡ option_and_then mapped_of (head_of names (all_heads bs) key)
mapped_scanned names bs key keyed = rw (definitions_scanned names bs key keyed, overridden_scanned names bs key keyed) (by (head_of names (all_heads bs) key))
  where
    by : (o : Option Head) → option_or (option_and_then (λ h. h.overridden) o) (slice_get (option_map_or ids_of o []) 0) ≡ option_and_then mapped_of o
    by None = refl
    by (Some h) = refl

-- each key that is mapped to something has a label
pub labels_complete : (names : Label → Option Key) (bs : Buckets) (key : Key) (id : ℕ) → AreKeyed names bs → mapped_at names bs key ≡ Some id → (label : Label) × (names label ≡ Some key) × Contains (mapped_labels (all_heads bs)) (label, id)
labels_complete names bs key id keyed mapped = by (head_of names (all_heads bs) key) refl (sym (mapped_scanned names bs key keyed) ∙ mapped)
  where
    by : (o : Option Head) → head_of names (all_heads bs) key ≡ o → option_and_then mapped_of o ≡ Some id → (label : Label) × (names label ≡ Some key) × Contains (mapped_labels (all_heads bs)) (label, id)
    by None is e = absurd cc
    by (Some h) is e =
        let here = found_somewhere (is_head names key) (all_heads bs) h is in
        let leads = and-both (is_used h) (leads_to names h.label key) (find_passes (is_head names key) (all_heads bs) h is) in
        (h.label, leads_there names h.label key leads.1, one_made (λ g. option_map (λ n. (g.label, n)) (mapped_of g)) (all_heads bs) here.0 h (h.label, id) here.1 (ap (option_map (λ n. (h.label, n))) e))

-- two heads in use of one key are one
one_head : (names : Label → Option Key) (bs : Buckets) (i j : ℕ) (g h : Head) → AreKeyed names bs → slice_get (all_heads bs) i ≡ Some g → slice_get (all_heads bs) j ≡ Some h → is_used g ≡ true → is_used h ≡ true → names g.label ≡ names h.label → i ≡ j
one_head names bs i j g h keyed at_i at_j used_g used_h same =
    let p = in_one_of heads_in (buckets_in bs) i g at_i in
    let q = in_one_of heads_in (buckets_in bs) j h at_j in
    let of_g = head_alone names (heads_in p.1) p.2 g (keyed.keyed p.0 p.1 p.3) p.4 used_g in
    let of_h = head_alone names (heads_in q.1) q.2 h (keyed.keyed q.0 q.1 q.3) q.4 used_h in
    let one_key : of_h.0 ≡ of_g.0 = same_Some of_h.0 of_g.0 (sym of_h.1 ∙ sym same ∙ of_g.1) in
    let hash : h.hash ≡ g.hash = of_h.2 ∙ ap hash_of one_key ∙ sym of_g.2 in
    let bucket : q.0 ≡ p.0 = sym (settled_head bs q.0 q.1 q.2 h (keyed.settled q.0 q.1 q.3) q.4) ∙ ap (λ n. n % length (buckets_in bs)) hash ∙ settled_head bs p.0 p.1 p.2 g (keyed.settled p.0 p.1 p.3) p.4 in
    let same_bucket : q.1 ≡ p.1 = same_Some q.1 p.1 (sym q.3 ∙ ap (slice_get (buckets_in bs)) bucket ∙ p.3) in
    let there : slice_get (heads_in p.1) q.2 ≡ Some h = subst (λ (b : Bucket). slice_get (heads_in b) q.2 ≡ Some h) same_bucket q.4 in
    let leads : leads_to names h.label of_g.0 ≡ true = leads_from names h.label of_g.0 of_g.0 (sym same ∙ of_g.1) ∙ key_itself of_g.0 in
    let head : is_head names of_g.0 h ≡ true = rw (used_h, leads) refl in
    let at : p.2 ≡ q.2 = (keyed.keyed p.0 p.1 p.3).apart p.2 q.2 g h p.4 there used_g (labelled_head names g.label of_g.0 h of_g.1 ∙ head) in
    p.5 ∙ ap (λ n. length (flat_map heads_in (take n (buckets_in bs))) + p.2) (sym bucket) ∙ ap (λ n. length (flat_map heads_in (take q.0 (buckets_in bs))) + n) at ∙ sym q.5

-- no two labels lead to one key
pub labels_once : (names : Label → Option Key) (bs : Buckets) → AreKeyed names bs → AllPairs (λ a b. names a.0 ≡ names b.0 → ⊥) (mapped_labels (all_heads bs))
labels_once names bs keyed = pairs_made (λ h. option_map (λ id. (h.label, id)) (mapped_of h)) (λ a b. names a.0 ≡ names b.0 → ⊥) (all_heads bs)
    (λ i j g h v w less at_i at_j made_v made_w same.
    let a = made_of (λ id. (g.label, id)) (mapped_of g) v made_v in
    let b = made_of (λ id. (h.label, id)) (mapped_of h) w made_w in
    let labels : names g.label ≡ names h.label = ap (λ (p : Label × ℕ). names p.0) a.2 ∙ same ∙ ap (λ (p : Label × ℕ). names p.0) (sym b.2) in
    let place = one_head names bs i j g h keyed at_i at_j (used_head g a.0 a.1) (used_head h b.0 b.1) labels in
    absurd (omega arith))

-- What buckets say under tables that grow.
use Rattle.std.proofs.Common.{◌&&◌, ◌≡◌, ◌∙◌, ℕ, suc, true, List, [], ◌∷◌, Option, Some, None, refl, sym, ap, Bool, false}
use Rattle.std.specs.Prelude.{slice_get}
use Rattle.std.specs.Option.{option_map, option_map_or, option_and_then}
use Rattle.link_db_buckets.specs.declared.bucket.Bucket.{Bucket}
use Rattle.link_db_buckets.specs.declared.buckets.Buckets.{Buckets}
use Rattle.link_db_buckets.specs.declared.head.Head.{Head}
use Rattle.link_db_buckets.specs.declared.label.Label.{Label}
use Rattle.link_db_buckets.specs.Bucket.{definitions_in, heads_in, label_in, overridden_in}
use Rattle.link_db_buckets.specs.Buckets.{AreKeyed, buckets_in, definitions_at, label_at, overridden_at}
use Rattle.link_db_buckets.specs.Heads.{HaveKeys, head_of, ids_of, is_head, is_used}
use Rattle.link_db_buckets.specs.Keys.{Extends, Key, leads_to, number_of, hash_of}
use Rattle.link_db_buckets.proofs.Keys.{key_there, leads_from}
use Rattle.link_db_buckets.proofs.Search.{labelled_head}

-- a head leads where it led
same_lead : (old new : Label → Option Key) (label : Label) (hash : ℕ) (asked : Key) → Extends old new → number_of old label ≡ Some hash → leads_to new label asked ≡ leads_to old label asked
same_lead old new label hash asked more number =
    let there = key_there old label hash number in
    leads_from new label there.0 asked (more label there.0 there.1) ∙ sym (leads_from old label there.0 asked there.1)

-- a label leads to the hash number to which it led
same_number : (old new : Label → Option Key) (label : Label) (hash : ℕ) → Extends old new → number_of old label ≡ Some hash → number_of new label ≡ Some hash
same_number old new label hash more number =
    let there = key_there old label hash number in
    ap (option_map hash_of) (more label there.0 there.1 ∙ sym there.1) ∙ number

-- the same head is found by tests that say the same of each
pub same_found : (old new : Label → Option Key) (heads : List Head) (asked : Key) → ((k : ℕ) (h : Head) → slice_get heads k ≡ Some h → is_head new asked h ≡ is_head old asked h) → head_of new heads asked ≡ head_of old heads asked
same_found old new [] asked same = refl
same_found old new (h ∷ heads) asked same = rw (same 0 h refl, same_found old new heads asked (λ k g is. same (suc k) g is)) refl

-- a head in use is the head that it was
pub same_head : (old new : Label → Option Key) (asked : Key) (h : Head) → (is_used h ≡ true → leads_to new h.label asked ≡ leads_to old h.label asked) → is_head new asked h ≡ is_head old asked h
same_head old new asked h same = by (is_used h) same
  where
    by : (b : Bool) → (b ≡ true → leads_to new h.label asked ≡ leads_to old h.label asked) → (b && leads_to new h.label asked) ≡ (b && leads_to old h.label asked)
    by true e = ap (λ (t : Bool). true && t) (e refl)
    by false e = refl

-- each key has the head that it had
pub head_kept : (old new : Label → Option Key) (heads : List Head) (asked : Key) → Extends old new → HaveKeys old heads → head_of new heads asked ≡ head_of old heads asked
head_kept old new heads asked more have = same_found old new heads asked (λ k h is. same_head old new asked h (λ used. same_lead old new h.label h.hash asked more (have.numbered k h is used)))

-- heads have their keys
pub keys_kept : (old new : Label → Option Key) (heads : List Head) → Extends old new → HaveKeys old heads → HaveKeys new heads
keys_kept old new heads more have = record {
  numbered = λ k h is used. same_number old new h.label h.hash more (have.numbered k h is used);
  apart = λ a b g h at_a at_b used one.
      let there = key_there old g.label g.hash (have.numbered a g at_a used) in
      let is_h : is_head new there.0 h ≡ true = sym (labelled_head new g.label there.0 h (more g.label there.0 there.1)) ∙ one in
      let was_h : is_head old there.0 h ≡ true = sym (same_head old new there.0 h (λ used_h. same_lead old new h.label h.hash there.0 more (have.numbered b h at_b used_h))) ∙ is_h in
      have.apart a b g h at_a at_b used (labelled_head old g.label there.0 h there.1 ∙ was_h);
}

-- buckets say the same by words that say the same of each
pub same_asked : {X : Type 0} (old new : Bucket → Key → X) (none : X) (bs : List Bucket) (i : ℕ) (asked : Key) → ((k : ℕ) (b : Bucket) → slice_get bs k ≡ Some b → new b asked ≡ old b asked)
    → option_map_or (λ b. new b asked) (slice_get bs i) none ≡ option_map_or (λ b. old b asked) (slice_get bs i) none
same_asked {X} old new none bs i asked same = by (slice_get bs i) refl
  where
    by : (o : Option Bucket) → slice_get bs i ≡ o → option_map_or (λ b. new b asked) o none ≡ option_map_or (λ b. old b asked) o none
    by None is = refl
    by (Some b) is = same i b is

-- each key has the definitions that it had
pub definitions_kept : (old new : Label → Option Key) (bs : Buckets) (asked : Key) → Extends old new → AreKeyed old bs → definitions_at new bs asked ≡ definitions_at old bs asked
definitions_kept old new bs asked more keyed = same_asked (definitions_in old) (definitions_in new) [] (buckets_in bs) _ asked
    (λ k b is. ap (λ o. option_map_or ids_of o []) (head_kept old new (heads_in b) asked more (keyed.keyed k b is)))

-- each key is overridden as it was
pub overridden_kept : (old new : Label → Option Key) (bs : Buckets) (asked : Key) → Extends old new → AreKeyed old bs → overridden_at new bs asked ≡ overridden_at old bs asked
overridden_kept old new bs asked more keyed = same_asked (overridden_in old) (overridden_in new) None (buckets_in bs) _ asked
    (λ k b is. ap (option_and_then (λ h. h.overridden)) (head_kept old new (heads_in b) asked more (keyed.keyed k b is)))

-- each key has the label that it had
pub labels_kept : (old new : Label → Option Key) (bs : Buckets) (asked : Key) → Extends old new → AreKeyed old bs → label_at new bs asked ≡ label_at old bs asked
labels_kept old new bs asked more keyed = same_asked (label_in old) (label_in new) None (buckets_in bs) _ asked
    (λ k b is. ap (option_map (λ h. h.label)) (head_kept old new (heads_in b) asked more (keyed.keyed k b is)))

-- buckets have their keys
pub buckets_kept : (old new : Label → Option Key) (bs : Buckets) → Extends old new → AreKeyed old bs → AreKeyed new bs
buckets_kept old new bs more keyed = record { keyed = λ k b is. keys_kept old new (heads_in b) more (keyed.keyed k b is); settled = keyed.settled }

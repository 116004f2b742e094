-- What buckets say under tables that go back.
use Rattle.std.proofs.Common.{◌≡◌, ◌∙◌, ℕ, true, false, List, [], Option, Some, None, refl, sym, ap}
use Rattle.std.specs.Prelude.{slice_get}
use Rattle.std.specs.Option.{option_and_then, option_map, option_map_or}
use Rattle.std.proofs.lemmas.Option.{same_Some}
use Rattle.link_db_buckets.specs.declared.bucket.Bucket.{Bucket}
use Rattle.link_db_buckets.specs.declared.buckets.Buckets.{Buckets}
use Rattle.link_db_buckets.specs.declared.head.Head.{Head}
use Rattle.link_db_buckets.specs.declared.label.Label.{Label}
use Rattle.link_db_buckets.specs.Bucket.{definitions_in, heads_in, label_in, overridden_in}
use Rattle.link_db_buckets.specs.Buckets.{AreKeyed, asked_of, buckets_in, definitions_at, label_at, overridden_at}
use Rattle.link_db_buckets.specs.Heads.{HaveKeys, head_of, ids_of, is_head, is_used}
use Rattle.link_db_buckets.specs.Keys.{Extends, Key, have_one_key, leads_to, same_key, hash_of}
use Rattle.link_db_buckets.proofs.Keys.{and-both, leads_there}
use Rattle.link_db_buckets.proofs.Changes.{find_passes}
use Rattle.link_db_buckets.proofs.Growing.{labels_kept, same_found, same_head, same_asked}
use Rattle.link_db_buckets.proofs.Walking.{head_is_name}

-- the label of a key leads to it
label_leads : (names : Label → Option Key) (bs : List Bucket) (key : Key) (label : Label) → asked_of (label_in names) None bs key ≡ Some label → names label ≡ Some key
label_leads names bs key label e = in_bucket (slice_get bs _) e
  where
    of_head : (heads : List Head) (o : Option Head) → head_of names heads key ≡ o → option_map (λ h. h.label) o ≡ Some label → names label ≡ Some key
    of_head heads None is e = absurd cc
    of_head heads (Some h) is e =
        ap names (sym (same_Some h.label label e)) ∙ leads_there names h.label key (and-both (is_used h) (leads_to names h.label key) (find_passes (is_head names key) heads h is)).1

    in_bucket : (o : Option Bucket) → option_map_or (λ b. label_in names b key) o None ≡ Some label → names label ≡ Some key
    in_bucket None e = absurd cc
    in_bucket (Some b) e = of_head (heads_in b) (head_of names (heads_in b) key) refl e

-- labels of heads in use lead where they lead in the tables to which one goes back
leads_back : (fewer names : Label → Option Key) (before after : Buckets) → Extends fewer names → AreKeyed fewer before → AreKeyed names after → ((asked : Key) → label_at names after asked ≡ label_at names before asked)
    → (place : ℕ) (b : Bucket) → slice_get (buckets_in after) place ≡ Some b → (at : ℕ) (h : Head) → slice_get (heads_in b) at ≡ Some h → is_used h ≡ true → fewer h.label ≡ names h.label
leads_back fewer names before after more keyed_before keyed_after labels place b is_b at h is_h used =
    let name = head_is_name names after place b at h keyed_after is_b is_h used in
    let key = name.0 in
    let label : label_at fewer before key ≡ Some h.label = sym (labels_kept fewer names before key more keyed_before) ∙ sym (labels key) ∙ name.2 in
    label_leads fewer (buckets_in before) key h.label label ∙ sym name.1

-- heads whose labels lead where they led
keys_alike : (old new : Label → Option Key) (heads : List Head) → ((k : ℕ) (h : Head) → slice_get heads k ≡ Some h → is_used h ≡ true → new h.label ≡ old h.label) → HaveKeys old heads → HaveKeys new heads
keys_alike old new heads same have = record {
  numbered = λ k h is used. ap (option_map hash_of) (same k h is used) ∙ have.numbered k h is used;
  apart = λ a b g h at_a at_b used one.
      let both = and-both (is_used h) (have_one_key new h.label g.label) one in
      let first : have_one_key new h.label g.label ≡ option_map_or (leads_to new h.label) (old g.label) false = ap (λ (o : Option Key). option_map_or (leads_to new h.label) o false) (same a g at_a used) in
      let second : option_map_or (leads_to new h.label) (old g.label) false ≡ have_one_key old h.label g.label = ap (λ (o : Option Key). option_map_or (λ asked. option_map_or (λ own. same_key own asked) o false) (old g.label) false) (same b h at_b both.0) in
      have.apart a b g h at_a at_b used (rw (both.0, sym second ∙ sym first ∙ both.1) refl);
}

-- each key has the head that it had, where labels lead where they led
head_alike : (old new : Label → Option Key) (heads : List Head) (asked : Key) → ((k : ℕ) (h : Head) → slice_get heads k ≡ Some h → is_used h ≡ true → new h.label ≡ old h.label) → head_of new heads asked ≡ head_of old heads asked
head_alike old new heads asked same = same_found old new heads asked
    (λ k h is. same_head old new asked h (λ used. ap (λ (o : Option Key). option_map_or (λ own. same_key own asked) o false) (same k h is used)))

-- buckets have their keys in the tables to which one goes back
pub keyed_back : (fewer names : Label → Option Key) (before after : Buckets) → Extends fewer names → AreKeyed fewer before → AreKeyed names after → ((asked : Key) → label_at names after asked ≡ label_at names before asked) → AreKeyed fewer after
keyed_back fewer names before after more keyed_before keyed_after labels = record {
  keyed = λ k b is. keys_alike names fewer (heads_in b) (leads_back fewer names before after more keyed_before keyed_after labels k b is) (keyed_after.keyed k b is);
  settled = keyed_after.settled;
}

-- each key has the definitions that it has
pub definitions_back : (fewer names : Label → Option Key) (before after : Buckets) (asked : Key) → Extends fewer names → AreKeyed fewer before → AreKeyed names after → ((asked : Key) → label_at names after asked ≡ label_at names before asked)
    → definitions_at fewer after asked ≡ definitions_at names after asked
definitions_back fewer names before after asked more keyed_before keyed_after labels = same_asked (definitions_in names) (definitions_in fewer) [] (buckets_in after) _ asked
    (λ k b is. ap (λ o. option_map_or ids_of o []) (head_alike names fewer (heads_in b) asked (leads_back fewer names before after more keyed_before keyed_after labels k b is)))

-- each key is overridden as it is
pub overridden_back : (fewer names : Label → Option Key) (before after : Buckets) (asked : Key) → Extends fewer names → AreKeyed fewer before → AreKeyed names after → ((asked : Key) → label_at names after asked ≡ label_at names before asked)
    → overridden_at fewer after asked ≡ overridden_at names after asked
overridden_back fewer names before after asked more keyed_before keyed_after labels = same_asked (overridden_in names) (overridden_in fewer) None (buckets_in after) _ asked
    (λ k b is. ap (option_and_then (λ h. h.overridden)) (head_alike names fewer (heads_in b) asked (leads_back fewer names before after more keyed_before keyed_after labels k b is)))

-- each key has the label that it has
pub labels_back : (fewer names : Label → Option Key) (before after : Buckets) (asked : Key) → Extends fewer names → AreKeyed fewer before → AreKeyed names after → ((asked : Key) → label_at names after asked ≡ label_at names before asked)
    → label_at fewer after asked ≡ label_at names after asked
labels_back fewer names before after asked more keyed_before keyed_after labels = same_asked (label_in names) (label_in fewer) None (buckets_in after) _ asked
    (λ k b is. ap (option_map (λ h. h.label)) (head_alike names fewer (heads_in b) asked (leads_back fewer names before after more keyed_before keyed_after labels k b is)))

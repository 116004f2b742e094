-- Labels of which one leads to a name with a version, and the other to one without.
use Rattle.std.proofs.Common.{◌≡◌, ◌∙◌, Bool, true, false, Option, Some, None, refl, sym, ap}
use mathlib.Core.Bool.{beq, not}
use Rattle.std.specs.Option.{is_some, option_map, option_map_or}
use Rattle.link_db_buckets.specs.declared.label.Label.{Label}
use Rattle.link_db_buckets.specs.Keys.{Key, have_one_key, leads_to, same_key}
use Rattle.link_db_buckets.proofs.Keys.{keys_equal}

-- a test that can't hold
fails : (t : Bool) → (t ≡ true → true ≡ false) → t ≡ false
fails true never = never refl
fails false never = refl

-- names are apart where one has a version and the other none
pub keys_apart : (own asked : Key) (v w : Bool) → is_some own.version ≡ v → is_some asked.version ≡ w → (v ≡ w → true ≡ false) → same_key own asked ≡ false
keys_apart own asked v w is there apart = fails (same_key own asked) (λ same. apart (sym is ∙ ap (λ (k : Key). is_some k.version) (keys_equal own asked same) ∙ there))

-- a label doesn't lead to such a key
pub leads_apart : (names : Label → Option Key) (label : Label) (asked : Key) (v : Bool) → ((key : Key) → names label ≡ Some key → is_some key.version ≡ v) → (v ≡ is_some asked.version → true ≡ false) → leads_to names label asked ≡ false
leads_apart names label asked v is apart = by (names label) refl
  where
    by : (o : Option Key) → names label ≡ o → option_map_or (λ own. same_key own asked) o false ≡ false
    by None e = refl
    by (Some own) e = keys_apart own asked v (is_some asked.version) (is own e) refl apart

-- two labels don't lead to one key
pub labels_apart : (names : Label → Option Key) (a b : Label) (v w : Bool) → ((key : Key) → names a ≡ Some key → is_some key.version ≡ v) → ((key : Key) → names b ≡ Some key → is_some key.version ≡ w) → (v ≡ w → true ≡ false) → have_one_key names a b ≡ false
labels_apart names a b v w is there apart = by (names b) refl
  where
    by : (o : Option Key) → names b ≡ o → option_map_or (leads_to names a) o false ≡ false
    by None e = refl
    by (Some key) e = leads_apart names a key v is (λ same. apart (same ∙ there key e))

-- values that differ aren't equal
pub differ : (v w x : Bool) → not (beq v w) ≡ true → w ≡ x → v ≡ x → true ≡ false
differ v w x apart there same = by v w apart (same ∙ sym there)
  where
    by : (v w : Bool) → not (beq v w) ≡ true → v ≡ w → true ≡ false
    by true true e s = sym e
    by false false e s = sym e
    by true false e s = s
    by false true e s = sym s

-- what is made of something is something
pub still_some : {A B : Type 0} (f : A → B) (o : Option A) → is_some o ≡ is_some (option_map f o)
still_some f None = refl
still_some f (Some x) = refl

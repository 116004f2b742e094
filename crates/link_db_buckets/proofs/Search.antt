-- The place of a key, found by the walk of its hash number.
use Rattle.std.proofs.Common.{◌≡◌, ◌∙◌, ◌+◌, ◌<◌, ◌&&◌, inl, inr, ℕ, zero, suc, Bool, true, false, List, [], ◌∷◌, length, Option, Some, None, refl, sym, ap, arith}
use Rattle.std.specs.Prelude.{slice_get}
use Rattle.std.specs.Option.{option_map, option_map_or}
use Rattle.std.proofs.lemmas.Option.{same_Some, slice_get-map, slice_get_within}
use Rattle.link_db_buckets.specs.declared.head.Head.{Head}
use Rattle.link_db_buckets.specs.declared.label.Label.{Label}
use Rattle.link_db_buckets.specs.declared.places.Places.{Places}
use Rattle.link_db_buckets.specs.Heads.{HaveKeys, hashes_of, is_head, is_labelled, is_used}
use Rattle.link_db_buckets.specs.Keys.{Key, leads_to, number_of, hash_of}
use Rattle.link_db_buckets.specs.Places.{place_from}
use Rattle.link_db_buckets.specs.Walks.{HaveWalks, passes, walk_of}
use Rattle.link_db_buckets.proofs.Walks.{passes_either}
use Rattle.link_db_buckets.proofs.Keys.{and-both, leads_there, number_there, key_there, one_key_there}

-- ---- lists

-- the head at a place passes
abbrev pub passes_at : (Head → Bool) → List Head → ℕ → Bool
passes_at p heads i = option_map_or p (slice_get heads i) false

-- only heads with this hash number pass
abbrev pub IsOnly : (Head → Bool) → List Head → ℕ → Type 0
IsOnly p heads n = (k : ℕ) (h : Head) → slice_get heads k ≡ Some h → p h ≡ true → h.hash ≡ n

-- no two heads pass
abbrev pub IsAlone : (Head → Bool) → List Head → Type 0
IsAlone p heads = (a b : ℕ) (g h : Head) → slice_get heads a ≡ Some g → slice_get heads b ≡ Some h → p g ≡ true → p h ≡ true → a ≡ b

-- what does not pass fails
pub fails : (b : Bool) → (b ≡ true → ⊥) → b ≡ false
fails true never = absurd (never refl)
fails false never = refl

-- no place is found where no head passes
pub no_place : (p : Head → Bool) (heads : List Head) (at : ℕ) → ((k : ℕ) (h : Head) → slice_get heads k ≡ Some h → p h ≡ false) → None ≡ place_from p at heads
no_place p [] at never = refl
no_place p (h ∷ heads) at never = rw (never 0 h refl) (no_place p heads (at + 1) (λ k g is. never (suc k) g is))

-- the place of the only head that passes is found
only_place : (p : Head → Bool) (heads : List Head) (at i : ℕ) (h : Head) → slice_get heads i ≡ Some h → p h ≡ true → ((k : ℕ) (g : Head) → slice_get heads k ≡ Some g → p g ≡ true → k ≡ i) → Some (at + i) ≡ place_from p at heads
only_place p [] at i h is passes alone = absurd cc
only_place p (g ∷ heads) at zero h is passes alone = let here : p g ≡ true = ap p (same_Some g h is) ∙ passes in let e : at + 0 ≡ at = omega arith in rw (here, e) refl
only_place p (g ∷ heads) at (suc i) h is passes alone =
    let other : p g ≡ false = fails (p g) (λ one. let no : 0 ≡ suc i = alone 0 g refl one in absurd (omega (arith, no))) in
    let e : at + suc i ≡ at + 1 + i = omega arith in
    rw (other, e) (only_place p heads (at + 1) i h is passes (λ k f at_k one. let same : suc k ≡ suc i = alone (suc k) f at_k one in omega (arith, same)))

-- the head at a place in the list
head_at : (heads : List Head) (i : ℕ) → i < length heads → (h : Head) × (slice_get heads i ≡ Some h)
head_at [] i lt = absurd (omega (arith, lt))
head_at (h ∷ heads) zero lt = (h, refl)
head_at (h ∷ heads) (suc i) lt = let lower : i < length heads = omega (arith, lt) in head_at heads i lower

-- its hash number
pub hash_at : (heads : List Head) (i : ℕ) (h : Head) → slice_get heads i ≡ Some h → slice_get (hashes_of heads) i ≡ Some h.hash
hash_at heads i h is = slice_get-map (λ (g : Head). g.hash) heads i ∙ ap (option_map (λ (g : Head). g.hash)) is

-- ---- walks

-- each head that passes stands where the rest of a walk passes
pub record AreLeft (p : Head → Bool) (heads : List Head) (rest : List (ℕ × Bool)) : Type 0 where
  pub each : (i : ℕ) (h : Head) → slice_get heads i ≡ Some h → p h ≡ true → passes rest i ≡ true

-- all are left as the walk of their number begins
pub left_start : (p : Head → Bool) (heads : List Head) (places : Places) (n : ℕ) → IsOnly p heads n → HaveWalks places (hashes_of heads) → AreLeft p heads (walk_of places.slots.items places.forks.items n)
left_start p heads places n only walks = record {
  each = λ i h at one.
      let is : slice_get (hashes_of heads) i ≡ Some n = hash_at heads i h at ∙ ap Some (only i h at one) in
      walks.hung.passed i n (slice_get_within (hashes_of heads) i n is) is;
}

-- a walk goes on where the head at the place fails
pub left_step : (p : Head → Bool) (heads : List Head) (place : ℕ) (side : Bool) (rest : List (ℕ × Bool)) → AreLeft p heads ((place, side) ∷ rest) → passes_at p heads place ≡ false → AreLeft p heads rest
left_step p heads place side rest left failed = record {
  each = λ i h at one. elim (passes_either (place, side) rest i (left.each i h at one)) [
    | inl e ↦ let here : slice_get heads place ≡ Some h = ap (slice_get heads) e ∙ at in let passes : passes_at p heads place ≡ true = ap (λ (o : Option Head). option_map_or p o false) here ∙ one in absurd (differ (passes_at p heads place) passes failed)
    | inr later ↦ later
  ];
}
  where
    differ : (b : Bool) → b ≡ true → b ≡ false → ⊥
    differ true e f = absurd cc
    differ false e f = absurd cc

-- where a walk ends, no head passes
pub left_none : (p : Head → Bool) (heads : List Head) → AreLeft p heads [] → (i : ℕ) (h : Head) → slice_get heads i ≡ Some h → p h ≡ false
left_none p heads left i h at = fails (p h) (λ one. let no : passes [] i ≡ true = left.each i h at one in cc)

-- so nothing is found
pub left_end : (p : Head → Bool) (heads : List Head) → AreLeft p heads [] → None ≡ place_from p 0 heads
left_end p heads left = no_place p heads 0 (left_none p heads left)

-- what passes is found
pub walk_found : (p : Head → Bool) (heads : List Head) (place : ℕ) → IsAlone p heads → passes_at p heads place ≡ true → Some place ≡ place_from p 0 heads
walk_found p heads place alone passes = by (slice_get heads place) refl
  where
    by : (o : Option Head) → slice_get heads place ≡ o → Some place ≡ place_from p 0 heads
    by None is = let no : false ≡ true = ap (λ (o : Option Head). option_map_or p o false) (sym is) ∙ passes in absurd cc
    by (Some h) is =
        let one : p h ≡ true = ap (λ (o : Option Head). option_map_or p o false) (sym is) ∙ passes in
        let found : Some (0 + place) ≡ place_from p 0 heads = only_place p heads 0 place h is one (λ k g at other. alone k place g h at is other one) in
        let z : 0 + place ≡ place = omega arith in
        ap Some (sym z) ∙ found

-- ---- keys

-- only heads with the hash number of a key lead to it
pub named_only : (names : Label → Option Key) (heads : List Head) (key : Key) (n : ℕ) → HaveKeys names heads → n ≡ hash_of key → IsOnly (is_head names key) heads n
named_only names heads key n have number k h is head =
    let both = and-both (is_used h) (leads_to names h.label key) head in
    number_there names h.label key h.hash (have.numbered k h is both.0) both.1 ∙ sym number

-- what leads to the key of a label is what leads to the label's key
pub labelled_head : (names : Label → Option Key) (label : Label) (key : Key) (h : Head) → names label ≡ Some key → is_labelled names label h ≡ is_head names key h
labelled_head names label key h is = ap (λ (b : Bool). is_used h && b) (one_key_there names h.label label key is)

-- only heads with the hash number of a label lead to its key
pub labelled_only : (names : Label → Option Key) (heads : List Head) (label : Label) (n : ℕ) → HaveKeys names heads → number_of names label ≡ Some n → IsOnly (is_labelled names label) heads n
labelled_only names heads label n have number k h is one =
    let there = key_there names label n number in
    named_only names heads there.0 n have there.2 k h is (sym (labelled_head names label there.0 h there.1) ∙ one)

-- one head leads to a key
pub named_alone : (names : Label → Option Key) (heads : List Head) (key : Key) → HaveKeys names heads → IsAlone (is_head names key) heads
named_alone names heads key have a b g h at_a at_b one other =
    let both = and-both (is_used g) (leads_to names g.label key) one in
    let own : names g.label ≡ Some key = leads_there names g.label key both.1 in
    have.apart a b g h at_a at_b both.0 (labelled_head names g.label key h own ∙ other)

-- one head leads to the key of a label
pub labelled_alone : (names : Label → Option Key) (heads : List Head) (label : Label) (n : ℕ) → HaveKeys names heads → number_of names label ≡ Some n → IsAlone (is_labelled names label) heads
labelled_alone names heads label n have number a b g h at_a at_b one other =
    let there = key_there names label n number in
    named_alone names heads there.0 have a b g h at_a at_b (sym (labelled_head names label there.0 g there.1) ∙ one) (sym (labelled_head names label there.0 h there.1) ∙ other)

-- a head that is not in use leads to no key
pub unused : (names : Label → Option Key) (key : Key) (h : Head) → is_used h ≡ false → is_head names key h ≡ false
unused names key h not_used = rw not_used refl

-- nor to the key of a label
pub unused_label : (names : Label → Option Key) (label : Label) (h : Head) → is_used h ≡ false → is_labelled names label h ≡ false
unused_label names label h not_used = rw not_used refl

-- What keys find in a bucket, where one of its heads changes or one is added.
use Rattle.std.proofs.Common.{◌≡◌, ◌∙◌, ◌+◌, ◌<◌, ◌++◌, ◌&&◌, ◌⊎◌, inl, inr, ℕ, zero, suc, Bool, true, false, cond, List, [], ◌∷◌, length, Option, Some, None, refl, sym, ap, subst, arith, set, find, if◌then◌else◌}
use Rattle.std.specs.Prelude.{slice_get, Result, Ok, Err, OnOk, OnErr}
use Rattle.std.specs.Option.{is_some, option_and_then, option_map, option_map_or, option_or}
use Rattle.std.proofs.lemmas.List.Folds.{find-append}
use Rattle.std.proofs.lemmas.Option.{same_Some, slice_get_within}
use Rattle.link_db_buckets.specs.declared.head.Head.{Head}
use Rattle.link_db_buckets.specs.declared.label.Label.{Label}
use Rattle.link_db_buckets.specs.Heads.{HaveKeys, head_of, ids_of, is_head, is_labelled, is_used}
use Rattle.link_db_buckets.specs.Keys.{Key, leads_to, have_one_key, number_of, same_key}
use Rattle.link_db_buckets.specs.Places.{place_from}
use Rattle.link_db_buckets.proofs.Keys.{and-both, keys_equal, key_itself, key_there, leads_there, leads_from, one_key_there}
use Rattle.link_db_buckets.proofs.Search.{labelled_head}

-- ---- lists

-- the first that passes stands at the place of the first that passes
record IsFirst {A : Type 0} (p : A → Bool) (xs : List A) (at i : ℕ) : Type 0 where
  place : ℕ
  is_place : i ≡ at + place
  item : A
  here : slice_get xs place ≡ Some item
  passes : p item ≡ true
  found : find p xs ≡ Some item

-- there is such a place, where a place is found
is_first : {A : Type 0} (p : A → Bool) (xs : List A) (at i : ℕ) → place_from p at xs ≡ Some i → IsFirst p xs at i
is_first p [] at i e = absurd cc
is_first {A} p (x ∷ xs) at i e = by (p x) refl e (is_first p xs (at + 1) i)
  where
    by : (b : Bool) → p x ≡ b → cond b (Some at) (place_from p (at + 1) xs) ≡ Some i → (place_from p (at + 1) xs ≡ Some i → IsFirst p xs (at + 1) i) → IsFirst p (x ∷ xs) at i
    by true px is ih = record { place = 0; is_place = omega (arith, same_Some at i is); item = x; here = refl; passes = px; found = rw px refl }
    by false px is ih =
        let f = ih is in
        record { place = suc f.place; is_place = omega (arith, f.is_place); item = f.item; here = f.here; passes = f.passes; found = rw px f.found }

-- where no place is found, no item passes
none_first : {A : Type 0} (p : A → Bool) (xs : List A) (at : ℕ) → place_from p at xs ≡ None → ((k : ℕ) (x : A) → slice_get xs k ≡ Some x → p x ≡ false) × (find p xs ≡ None)
none_first p [] at e = ((λ k x is. absurd cc), refl)
none_first {A} p (x ∷ xs) at e = by (p x) refl e (none_first p xs (at + 1))
  where
    by : (b : Bool) → p x ≡ b → cond b (Some at) (place_from p (at + 1) xs) ≡ None → (place_from p (at + 1) xs ≡ None → ((k : ℕ) (y : A) → slice_get xs k ≡ Some y → p y ≡ false) × (find p xs ≡ None))
        → ((k : ℕ) (y : A) → slice_get (x ∷ xs) k ≡ Some y → p y ≡ false) × (find p (x ∷ xs) ≡ None)
    by true px is ih = absurd cc
    by false px is ih = (each, rw px (ih is).1)
      where
        each : (k : ℕ) (y : A) → slice_get (x ∷ xs) k ≡ Some y → p y ≡ false
        each zero y here = ap p (sym (same_Some x y here)) ∙ px
        each (suc k) y here = (ih is).0 k y here

-- what is found is the item at the place
pub found_at : {A : Type 0} (p : A → Bool) (xs : List A) (o : Option ℕ) (i : ℕ) → o ≡ place_from p 0 xs → o ≡ Some i → find p xs ≡ slice_get xs i
found_at p xs o i is some =
    let first = is_first p xs 0 i (sym is ∙ some) in
    let at : i ≡ first.place = omega (arith, first.is_place) in
    first.found ∙ sym first.here ∙ ap (slice_get xs) (sym at)

-- a place that is found is in the list
pub place_within : {A : Type 0} (p : A → Bool) (xs : List A) (o : Option ℕ) (i : ℕ) → o ≡ place_from p 0 xs → o ≡ Some i → i < length xs
place_within p xs o i is some =
    let first = is_first p xs 0 i (sym is ∙ some) in
    let at : i ≡ first.place = omega (arith, first.is_place) in
    let within : first.place < length xs = slice_get_within xs first.place first.item first.here in
    omega arith

-- nothing is found where there is no place
pub none_found : {A : Type 0} (p : A → Bool) (xs : List A) (o : Option ℕ) → o ≡ place_from p 0 xs → o ≡ None → find p xs ≡ None
none_found p xs o is none = (none_first p xs 0 (sym is ∙ none)).1

-- what is found where an item that fails is changed to one that fails
find-set_other : {A : Type 0} (p : A → Bool) (xs : List A) (i : ℕ) (x y : A) → slice_get xs i ≡ Some x → p x ≡ false → p y ≡ false → find p (set xs i y) ≡ find p xs
find-set_other p [] i x y is px py = refl
find-set_other p (z ∷ xs) zero x y is px py = let pz : p z ≡ false = ap p (same_Some z x is) ∙ px in rw (pz, py) refl
find-set_other p (z ∷ xs) (suc i) x y is px py = ap (cond (p z) (Some z)) (find-set_other p xs i x y is px py)

-- what is found passes
pub find_passes : {A : Type 0} (p : A → Bool) (xs : List A) (x : A) → find p xs ≡ Some x → p x ≡ true
find_passes p [] x e = absurd cc
find_passes {A} p (y ∷ xs) x e = by (p y) refl e (find_passes p xs x)
  where
    by : (b : Bool) → p y ≡ b → cond b (Some y) (find p xs) ≡ Some x → (find p xs ≡ Some x → p x ≡ true) → p x ≡ true
    by true py is rest = subst (λ (z : A). p z ≡ true) (same_Some y x is) py
    by false py is rest = rest is

-- where no item passes, none is found
none_else : {A : Type 0} (p : A → Bool) (xs : List A) → ((k : ℕ) (x : A) → slice_get xs k ≡ Some x → p x ≡ false) → find p xs ≡ None
none_else p [] never = refl
none_else p (x ∷ xs) never = rw (never 0 x refl) (none_else p xs (λ k y is. never (suc k) y is))

-- what is found where the only one that passes is changed
find-set_alone : {A : Type 0} (p : A → Bool) (xs : List A) (i : ℕ) (x y : A) → slice_get xs i ≡ Some x → ((k : ℕ) (z : A) → slice_get xs k ≡ Some z → p z ≡ true → k ≡ i) → find p (set xs i y) ≡ cond (p y) (Some y) None
find-set_alone p [] i x y is alone = absurd cc
find-set_alone {A} p (w ∷ xs) zero x y is alone = ap (cond (p y) (Some y)) (none_else p xs fails)
  where
    fails : (k : ℕ) (z : A) → slice_get xs k ≡ Some z → p z ≡ false
    fails k z at = by (p z) refl
      where
        by : (b : Bool) → p z ≡ b → p z ≡ false
        by true e = let no : suc k ≡ 0 = alone (suc k) z at e in absurd (omega arith)
        by false e = e
find-set_alone {A} p (w ∷ xs) (suc i) x y is alone = by (p w) refl (find-set_alone p xs i x y is (λ k z at pz. let e = alone (suc k) z at pz in omega arith))
  where
    by : (b : Bool) → p w ≡ b → find p (set xs i y) ≡ cond (p y) (Some y) None → cond b (Some w) (find p (set xs i y)) ≡ cond (p y) (Some y) None
    by true pw rest = let e : 0 ≡ suc i = alone 0 w refl pw in absurd (omega arith)
    by false pw rest = rest

-- an item of a list with one changed is the new one or stood there
pub get-set_cases : {A : Type 0} (xs : List A) (i k : ℕ) (y z : A) → slice_get (set xs i y) k ≡ Some z → ((k ≡ i) × (z ≡ y)) ⊎ (slice_get xs k ≡ Some z)
get-set_cases [] i k y z is = inr is
get-set_cases (x ∷ xs) zero zero y z is = inl (refl, sym (same_Some y z is))
get-set_cases (x ∷ xs) zero (suc k) y z is = inr is
get-set_cases (x ∷ xs) (suc i) zero y z is = inr is
get-set_cases (x ∷ xs) (suc i) (suc k) y z is = elim (get-set_cases xs i k y z is) [ inl w ↦ inl (ap suc w.0, w.1) | inr w ↦ inr w ]

-- an item of a list with one behind it is that one or stood there
get-push_cases : {A : Type 0} (xs : List A) (k : ℕ) (y z : A) → slice_get (xs ++ y ∷ []) k ≡ Some z → ((k ≡ length xs) × (z ≡ y)) ⊎ (slice_get xs k ≡ Some z)
get-push_cases [] zero y z is = inl (refl, sym (same_Some y z is))
get-push_cases [] (suc k) y z is = absurd cc
get-push_cases (x ∷ xs) zero y z is = inr is
get-push_cases (x ∷ xs) (suc k) y z is = elim (get-push_cases xs k y z is) [ inl w ↦ inl (ap suc w.0, w.1) | inr w ↦ inr w ]

-- ---- heads

-- a head whose label does not lead to a key is not its head
no_head : (names : Label → Option Key) (h : Head) (asked : Key) → leads_to names h.label asked ≡ false → is_head names asked h ≡ false
no_head names h asked e = rw e (by (is_used h))
  where
    by : (b : Bool) → (b && false) ≡ false
    by true = refl
    by false = refl

-- the head, where it is in use
abbrev pub in_use : Head → Option Head
in_use h = if is_used h then Some h else None

-- what is read of a head, and of none where it is not in use
pub ids_in_use : (h : Head) → option_map_or ids_of (in_use h) [] ≡ ids_of h
ids_in_use h = by (ids_of h) refl h.overridden refl
  where
    by : (ids : List ℕ) → ids_of h ≡ ids → (o : Option ℕ) → h.overridden ≡ o → option_map_or ids_of (cond (is_some (option_or h.overridden (slice_get (ids_of h) 0))) (Some h) None) [] ≡ ids_of h
    by [] e None f = rw (f, e) refl
    by (i ∷ ids) e None f = rw (f, e) e
    by ids e (Some i) f = rw f refl

-- a head that is not in use is not overridden
pub overridden_in_use : (h : Head) → option_and_then (λ g. g.overridden) (in_use h) ≡ h.overridden
overridden_in_use h = by (slice_get (ids_of h) 0) refl h.overridden refl
  where
    by : (first : Option ℕ) → slice_get (ids_of h) 0 ≡ first → (o : Option ℕ) → h.overridden ≡ o → option_and_then (λ g. g.overridden) (cond (is_some (option_or h.overridden (slice_get (ids_of h) 0))) (Some h) None) ≡ h.overridden
    by None e None f = rw (f, e) refl
    by (Some i) e None f = rw (f, e) refl
    by first e (Some i) f = rw f refl

-- a head in use is kept
pub is_in_use : (h : Head) → is_used h ≡ true → in_use h ≡ Some h
is_in_use h used = rw used refl

-- a head with a definition behind others is in use
pub used_push : (h : Head) (ids : List ℕ) (id : ℕ) → ids_of h ≡ ids ++ id ∷ [] → is_used h ≡ true
used_push h ids id e = by h.overridden refl ids e
  where
    by : (o : Option ℕ) → h.overridden ≡ o → (l : List ℕ) → ids_of h ≡ l ++ id ∷ [] → is_some (option_or h.overridden (slice_get (ids_of h) 0)) ≡ true
    by (Some i) f l e = rw f refl
    by None f [] e = rw (f, e) refl
    by None f (x ∷ l) e = rw (f, e) refl

-- a head that keeps its ids and what it was overridden with stays in use
pub used_same : (g h : Head) → ids_of g ≡ ids_of h → g.overridden ≡ h.overridden → is_used h ≡ true → is_used g ≡ true
used_same g h ids over used = rw (ids, over) used

-- After a change the head of the one key that passes the test is another than before, and other keys have the head that they had.
pub record Changes (names : Label → Option Key) (old new : List Head) (test : Key → Bool) (before after : Option Head) : Type 0 where
  key : Key
  is_key : (asked : Key) → test asked ≡ same_key key asked
  was : head_of names old key ≡ before
  here : head_of names new key ≡ after
  others : (asked : Key) → same_key key asked ≡ false → head_of names new asked ≡ head_of names old asked

-- what is read of heads, after a change
pub reads_change : {X : Type 0} (names : Label → Option Key) (old new : List Head) (test : Key → Bool) (before after : Option Head) (read : Option Head → X) (f : X → X) → Changes names old new test before after → read after ≡ f (read before)
    → (asked : Key) → read (head_of names new asked) ≡ (if test asked then f (read (head_of names old asked)) else read (head_of names old asked))
reads_change {X} names old new test before after read f changes change asked = rw (changes.is_key asked) (by (same_key changes.key asked) refl)
  where
    by : (t : Bool) → same_key changes.key asked ≡ t → read (head_of names new asked) ≡ cond t (f (read (head_of names old asked))) (read (head_of names old asked))
    by true e = subst (λ (k : Key). read (head_of names new k) ≡ f (read (head_of names old k))) (keys_equal changes.key asked e) (ap read changes.here ∙ change ∙ ap (λ (o : Option Head). f (read o)) (sym changes.was))
    by false e = ap read (changes.others asked e)

-- a choice between the same two
cond_alike : {X : Type 0} (b : Bool) (x : X) → cond b x x ≡ x
cond_alike true x = refl
cond_alike false x = refl

-- what a change leaves
pub reads_same : {X : Type 0} (names : Label → Option Key) (old new : List Head) (test : Key → Bool) (before after : Option Head) (read : Option Head → X) → Changes names old new test before after → read after ≡ read before
    → (asked : Key) → read (head_of names new asked) ≡ read (head_of names old asked)
reads_same {X} names old new test before after read changes same asked = reads_change names old new test before after read (λ x. x) changes same asked ∙ cond_alike (test asked) (read (head_of names old asked))

-- what the head of the key was
pub was_there : (names : Label → Option Key) (old new : List Head) (test : Key → Bool) (before after : Option Head) → Changes names old new test before after → (asked : Key) → test asked ≡ true → head_of names old asked ≡ before
was_there names old new test before after changes asked here = subst (λ (k : Key). head_of names old k ≡ before) (keys_equal changes.key asked (sym (changes.is_key asked) ∙ here)) changes.was

-- ---- labels

-- what is read of a head: what it is mapped to, and its label
abbrev pub mapped_read : Option Head → Option ℕ
mapped_read o = option_or (option_and_then (λ h. h.overridden) o) (slice_get (option_map_or ids_of o []) 0)

-- its label
abbrev pub label_read : Option Head → Option Label
label_read o = option_map (λ h. h.label) o

-- each head that is found is in use
pub labels_stay : (names : Label → Option Key) (heads : List Head) (asked : Key) → label_read (head_of names heads asked) ≡ (if is_some (mapped_read (head_of names heads asked)) then label_read (head_of names heads asked) else None)
labels_stay names heads asked = by (head_of names heads asked) refl
  where
    by : (o : Option Head) → head_of names heads asked ≡ o → label_read o ≡ cond (is_some (mapped_read o)) (label_read o) None
    by None e = refl
    by (Some h) e = let used : is_used h ≡ true = (and-both (is_used h) (leads_to names h.label asked) (find_passes (is_head names asked) heads h e)).0 in rw used refl

-- a key has a label exactly where it is mapped to something
pub labelled_in : (names : Label → Option Key) (heads : List Head) (asked : Key) → is_some (label_read (head_of names heads asked)) ≡ is_some (mapped_read (head_of names heads asked))
labelled_in names heads asked = by (head_of names heads asked) refl
  where
    by : (o : Option Head) → head_of names heads asked ≡ o → is_some (label_read o) ≡ is_some (mapped_read o)
    by None e = refl
    by (Some h) e = sym (and-both (is_used h) (leads_to names h.label asked) (find_passes (is_head names asked) heads h e)).0

-- after a change that leaves the label, a key has it where it is still mapped to something
pub labels_left : (names : Label → Option Key) (old new : List Head) (test : Key → Bool) (h y : Head) → Changes names old new test (Some h) (in_use y) → y.label ≡ h.label
    → (asked : Key) → label_read (head_of names new asked) ≡ (if is_some (mapped_read (head_of names new asked)) then label_read (head_of names old asked) else None)
labels_left names old new test h y changes label asked = by (same_key changes.key asked) refl
  where
    at_key : (t : Bool) → is_used y ≡ t → label_read (cond t (Some y) None) ≡ cond (is_some (mapped_read (cond t (Some y) None))) (label_read (Some h)) None
    at_key true used = rw (used, label) refl
    at_key false used = refl

    by : (t : Bool) → same_key changes.key asked ≡ t → label_read (head_of names new asked) ≡ cond (is_some (mapped_read (head_of names new asked))) (label_read (head_of names old asked)) None
    by true e = subst (λ (k : Key). label_read (head_of names new k) ≡ cond (is_some (mapped_read (head_of names new k))) (label_read (head_of names old k)) None) (keys_equal changes.key asked e) (rw (changes.here, changes.was) (at_key (is_used y) refl))
    by false e = rw (changes.others asked e) (labels_stay names old asked)

-- ---- a head that changes

-- the head of a key, after a change that leaves its label, by any test of the key
changed : (names : Label → Option Key) (heads : List Head) (test : Key → Bool) (key : Key) (i : ℕ) (h y : Head) → HaveKeys names heads → ((asked : Key) → test asked ≡ same_key key asked) → Some i ≡ place_from (is_head names key) 0 heads → slice_get heads i ≡ Some h → y.label ≡ h.label
    → Changes names heads (set heads i y) test (Some h) (in_use y)
changed names heads test key i h y have is_key place is label =
    let passes : is_head names key h ≡ true = find_passes (is_head names key) heads h (found_at (is_head names key) heads (Some i) i place refl ∙ is) in
    let both = and-both (is_used h) (leads_to names h.label key) passes in
    let own : names h.label ≡ Some key = leads_there names h.label key both.1 in
    let new_leads : leads_to names y.label key ≡ true = ap (λ (l : Label). leads_to names l key) label ∙ both.1 in
    record {
      key = key;
      is_key = is_key;
      was = found_at (is_head names key) heads (Some i) i place refl ∙ is;
      here = find-set_alone (is_head names key) heads i h y is (λ k g at head. sym (have.apart i k h g is at both.0 (labelled_head names h.label key g own ∙ head)))
          ∙ rw new_leads (and_true (is_used y));
      others = λ asked other. find-set_other (is_head names asked) heads i h y is
          (no_head names h asked (leads_from names h.label key asked own ∙ other))
          (no_head names y asked (ap (λ (l : Label). leads_to names l asked) label ∙ leads_from names h.label key asked own ∙ other));
    }
  where
    and_true : (b : Bool) → cond (b && true) (Some y) None ≡ cond b (Some y) None
    and_true true = refl
    and_true false = refl

-- the head of a key, after a change that leaves its label
pub changed_key : (names : Label → Option Key) (heads : List Head) (key : Key) (i : ℕ) (h y : Head) → HaveKeys names heads → Some i ≡ place_from (is_head names key) 0 heads → slice_get heads i ≡ Some h → y.label ≡ h.label
    → Changes names heads (set heads i y) (same_key key) (Some h) (in_use y)
changed_key names heads key i h y have place is label = changed names heads (same_key key) key i h y have (λ asked. refl) place is label

-- the place of a label's key
label_place : (names : Label → Option Key) (heads : List Head) (label : Label) (key : Key) (at : ℕ) → names label ≡ Some key → place_from (is_labelled names label) at heads ≡ place_from (is_head names key) at heads
label_place names [] label key at is = refl
label_place names (h ∷ heads) label key at is = rw (labelled_head names label key h is, label_place names heads label key (at + 1) is) refl

-- the head of a label's key, after a change that leaves its own label
pub changed_label : (names : Label → Option Key) (heads : List Head) (label : Label) (n i : ℕ) (h y : Head) → HaveKeys names heads → number_of names label ≡ Some n → Some i ≡ place_from (is_labelled names label) 0 heads → slice_get heads i ≡ Some h → y.label ≡ h.label
    → Changes names heads (set heads i y) (leads_to names label) (Some h) (in_use y)
changed_label names heads label n i h y have number place is same =
    let there = key_there names label n number in
    changed names heads (leads_to names label) there.0 i h y have (λ asked. leads_from names label there.0 asked there.1) (place ∙ label_place names heads label there.0 0 there.1) is same

-- the head at a place that was found is in use
pub found_used : (names : Label → Option Key) (heads : List Head) (label : Label) (i : ℕ) (h : Head) → Some i ≡ place_from (is_labelled names label) 0 heads → slice_get heads i ≡ Some h → is_used h ≡ true
found_used names heads label i h place is =
    (and-both (is_used h) (have_one_key names h.label label) (find_passes (is_labelled names label) heads h (found_at (is_labelled names label) heads (Some i) i place refl ∙ is))).0

-- the same of a place that was found by a key
pub found_used_key : (names : Label → Option Key) (heads : List Head) (key : Key) (i : ℕ) (h : Head) → Some i ≡ place_from (is_head names key) 0 heads → slice_get heads i ≡ Some h → is_used h ≡ true
found_used_key names heads key i h place is =
    (and-both (is_used h) (leads_to names h.label key) (find_passes (is_head names key) heads h (found_at (is_head names key) heads (Some i) i place refl ∙ is))).0

-- what a key that has no head reads, by any test of the key
reads_absent : {X : Type 0} (names : Label → Option Key) (heads : List Head) (test : Key → Bool) (key : Key) (o : Option ℕ) (read : Option Head → X) (f : X → X) → ((asked : Key) → test asked ≡ same_key key asked) → o ≡ place_from (is_head names key) 0 heads
    → ((i : ℕ) → o ≡ Some i → ⊥) → read None ≡ f (read None) → (asked : Key) → read (head_of names heads asked) ≡ (if test asked then f (read (head_of names heads asked)) else read (head_of names heads asked))
reads_absent {X} names heads test key o read f is_key place none same asked = rw (is_key asked) (by (same_key key asked) refl)
  where
    is_none : (p : Option ℕ) → ((i : ℕ) → p ≡ Some i → ⊥) → p ≡ None
    is_none None never = refl
    is_none (Some i) never = absurd (never i refl)

    absent : head_of names heads key ≡ None
    absent = none_found (is_head names key) heads o place (is_none o none)

    by : (t : Bool) → same_key key asked ≡ t → read (head_of names heads asked) ≡ cond t (f (read (head_of names heads asked))) (read (head_of names heads asked))
    by true e = subst (λ (k : Key). read (head_of names heads k) ≡ f (read (head_of names heads k))) (keys_equal key asked e) (ap read absent ∙ same ∙ ap (λ (h : Option Head). f (read h)) (sym absent))
    by false e = refl

-- a key that has no head is mapped to nothing
pub never_mapped : (names : Label → Option Key) (heads : List Head) (key : Key) (o : Option ℕ) → o ≡ place_from (is_head names key) 0 heads → ((i : ℕ) → o ≡ Some i → ⊥) → is_some (mapped_read (head_of names heads key)) ≡ true → ⊥
never_mapped names heads key None place none mapped = let absent : head_of names heads key ≡ None = none_found (is_head names key) heads None place refl in let no = rw absent at mapped in cc
never_mapped names heads key (Some i) place none mapped = none i refl

-- what a key that has no head reads, where nothing changes
pub reads_none : {X : Type 0} (names : Label → Option Key) (heads : List Head) (key : Key) (o : Option ℕ) (read : Option Head → X) (f : X → X) → o ≡ place_from (is_head names key) 0 heads → ((i : ℕ) → o ≡ Some i → ⊥) → read None ≡ f (read None)
    → (asked : Key) → read (head_of names heads asked) ≡ (if same_key key asked then f (read (head_of names heads asked)) else read (head_of names heads asked))
reads_none names heads key o read f place none same = reads_absent names heads (same_key key) key o read f (λ asked. refl) place none same

-- what the key of a label reads that has no head, where nothing changes
pub reads_none_label : {X : Type 0} (names : Label → Option Key) (heads : List Head) (label : Label) (n : ℕ) (o : Option ℕ) (read : Option Head → X) (f : X → X) → number_of names label ≡ Some n → o ≡ place_from (is_labelled names label) 0 heads
    → ((i : ℕ) → o ≡ Some i → ⊥) → read None ≡ f (read None) → (asked : Key) → read (head_of names heads asked) ≡ (if leads_to names label asked then f (read (head_of names heads asked)) else read (head_of names heads asked))
reads_none_label names heads label n o read f number place none same =
    let there = key_there names label n number in
    reads_absent names heads (leads_to names label) there.0 o read f (λ asked. leads_from names label there.0 asked there.1) (place ∙ label_place names heads label there.0 0 there.1) none same

-- ---- a head that is added

-- a value, or none else
pub option_or-none : {A : Type 0} (o : Option A) → option_or o None ≡ o
option_or-none None = refl
option_or-none (Some x) = refl

-- a head behind the others, for a label's key that none has
pub added_label : (names : Label → Option Key) (heads : List Head) (n : ℕ) (y : Head) → is_used y ≡ true → number_of names y.label ≡ Some n → None ≡ place_from (is_labelled names y.label) 0 heads
    → Changes names heads (heads ++ y ∷ []) (leads_to names y.label) None (Some y)
added_label names heads n y used number place =
    let there = key_there names y.label n number in
    let key = there.0 in
    let absent : head_of names heads key ≡ None = none_found (is_head names key) heads None (place ∙ label_place names heads y.label key 0 there.1) refl in
    record {
      key = key;
      is_key = λ asked. leads_from names y.label key asked there.1;
      was = absent;
      here = find-append (is_head names key) heads (y ∷ []) ∙ rw (absent, used, leads_from names y.label key key there.1, key_itself key) refl;
      others = λ asked other. find-append (is_head names asked) heads (y ∷ []) ∙ rw (no_head names y asked (leads_from names y.label key asked there.1 ∙ other)) (option_or-none (head_of names heads asked));
    }

-- ---- results

-- what holds on both outcomes holds
pub on_both : {T E P : Type 0} (r : Result T E) → OnOk r P → OnErr r P → P
on_both (Ok v) ok err = ok
on_both (Err e) ok err = err

-- ---- the keys of heads

-- heads keep their keys, where one that is in use changes and keeps its label and its hash number
pub keys-set : (names : Label → Option Key) (heads : List Head) (i : ℕ) (h y : Head) → slice_get heads i ≡ Some h → is_used h ≡ true → y.label ≡ h.label → y.hash ≡ h.hash → HaveKeys names heads → HaveKeys names (set heads i y)
keys-set names heads i h y is used label hash have = record {
  numbered = λ k g at in_use. let o = old k g at in_use in ap (number_of names) o.2 ∙ have.numbered k o.0 o.1 o.4 ∙ ap Some (sym o.3);
  apart = λ a b f g at_a at_b used_f one.
      let both = and-both (is_used g) (have_one_key names g.label f.label) one in
      let oa = old a f at_a used_f in
      let ob = old b g at_b both.0 in
      let first : have_one_key names ob.0.label f.label ≡ true = ap (λ (l : Label). have_one_key names l f.label) (sym ob.2) ∙ both.1 in
      let second : have_one_key names ob.0.label oa.0.label ≡ true = ap (λ (l : Label). have_one_key names ob.0.label l) (sym oa.2) ∙ first in
      have.apart a b oa.0 ob.0 oa.1 ob.1 oa.4 (rw (ob.4, second) refl);
}
  where
    -- what stood there has its label and its hash number
    old : (k : ℕ) (g : Head) → slice_get (set heads i y) k ≡ Some g → is_used g ≡ true → (o : Head) × (slice_get heads k ≡ Some o) × (g.label ≡ o.label) × (g.hash ≡ o.hash) × (is_used o ≡ true)
    old k g at in_use = elim (get-set_cases heads i k y g at) [
      | inl w ↦ (h, subst (λ (j : ℕ). slice_get heads j ≡ Some h) (sym w.0) is, ap (λ (x : Head). x.label) w.1 ∙ label, ap (λ (x : Head). x.hash) w.1 ∙ hash, used)
      | inr w ↦ (g, w, refl, refl, in_use)
    ]

-- two labels lead to one key, in either order
one_key-turned : (names : Label → Option Key) (a b : Label) → have_one_key names a b ≡ true → have_one_key names b a ≡ true
one_key-turned names a b one = by (names b) refl one
  where
    by : (o : Option Key) → names b ≡ o → option_map_or (leads_to names a) o false ≡ true → have_one_key names b a ≡ true
    by None is e = absurd cc
    by (Some key) is e = one_key_there names b a key (leads_there names a key e) ∙ leads_from names b key key is ∙ key_itself key

-- heads keep their keys, where one of another key is added
pub keys-push : (names : Label → Option Key) (heads : List Head) (y : Head) → None ≡ place_from (is_labelled names y.label) 0 heads → number_of names y.label ≡ Some y.hash → HaveKeys names heads → HaveKeys names (heads ++ y ∷ [])
keys-push names heads y none number have = record {
  numbered = λ k g at used. elim (get-push_cases heads k y g at) [
    | inl w ↦ subst (λ (x : Head). number_of names x.label ≡ Some x.hash) (sym w.1) number
    | inr w ↦ have.numbered k g w used
  ];
  apart = λ a b f g at_a at_b used one. elim (get-push_cases heads a y f at_a) [
    | inl v ↦ elim (get-push_cases heads b y g at_b) [
      | inl w ↦ v.0 ∙ sym w.0
      | inr w ↦ absurd (apart_from b g w (subst (λ (x : Head). is_labelled names x.label g ≡ true) v.1 one))
    ]
    | inr v ↦ elim (get-push_cases heads b y g at_b) [
      | inl w ↦
          let turned : have_one_key names f.label g.label ≡ true = one_key-turned names g.label f.label (and-both (is_used g) (have_one_key names g.label f.label) one).1 in
          let from_y : have_one_key names f.label y.label ≡ true = subst (λ (x : Head). have_one_key names f.label x.label ≡ true) w.1 turned in
          absurd (apart_from a f v (rw (used, from_y) refl))
      | inr w ↦ have.apart a b f g v w used one
    ]
  ];
}
  where
    apart_from : (k : ℕ) (g : Head) → slice_get heads k ≡ Some g → is_labelled names y.label g ≡ true → ⊥
    apart_from k g is one = let never = (none_first (is_labelled names y.label) heads 0 (sym none)).0 k g is in cc

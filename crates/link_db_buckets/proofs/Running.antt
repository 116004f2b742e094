-- Buckets, and runs of them, to which definitions are added one after another, and from which they are taken back.
use Rattle.std.proofs.Common.{◌≡◌, ◌∙◌, ◌+◌, ◌-◌, ◌%◌, ◌<◌, ◌≤◌, ◌++◌, ◌⊎◌, inl, inr, ℕ, zero, suc, Bool, true, false, cond, List, [], ◌∷◌, length, Option, Some, None, Result, Ok, Err, refl, sym, ap, subst, arith, map, filter, find, set, take, take_all, append_assoc, if◌then◌else◌, length-set, get_or}
use Rattle.std.specs.Prelude.{All, OnErr, OnOk, slice_get}
use Rattle.std.specs.Option.{is_some, option_and_then, option_map, option_map_or, option_or}
use Rattle.std.proofs.lemmas.List.{append-nil, length-append, length-map, length-take-le, map-append, take-take, take_at}
use Rattle.std.proofs.lemmas.List.Elements.{All-push, filter-append}
use Rattle.std.proofs.lemmas.List.Folds.{find-append}
use Rattle.std.proofs.lemmas.Option.{same_Some, slice_get-map, slice_get_within}
use Rattle.link_db_buckets.specs.declared.bucket.Bucket.{Bucket}
use Rattle.link_db_buckets.specs.declared.definition.Definition.{Definition}
use Rattle.link_db_buckets.specs.declared.head.Head.{Head}
use Rattle.link_db_buckets.specs.declared.label.Label.{Label}
use Rattle.link_db_buckets.specs.Bucket.{IsKeyed, definitions_in, hashes_in, heads_in, label_in, mapped_in, overridden_in}
use Rattle.link_db_buckets.specs.Buckets.{first_label, ids_with}
use Rattle.link_db_buckets.specs.Heads.{HaveKeys, hashes_of, head_of, ids_of, without_last}
use Rattle.link_db_buckets.specs.Keys.{Key, leads_to, number_of, hash_of}
use Rattle.link_db_buckets.specs.Runs.{AreGrown, AreOwn, AreTaken, IsGrown, IsOwn, IsTaken}
use Rattle.link_db_buckets.proofs.Changes.{labelled_in, labels_stay}
use Rattle.link_db_buckets.proofs.Keys.{number_there}

-- what follows from two facts of an outcome
pub on_ok_two : {T E A B P : Type 0} (r : Result T E) → (A → B → P) → OnOk r A → OnOk r B → OnOk r P
on_ok_two (Ok v) f a b = f a b
on_ok_two (Err e) f a b = tt

pub on_err_two : {T E A B P : Type 0} (r : Result T E) → (A → B → P) → OnErr r A → OnErr r B → OnErr r P
on_err_two (Ok v) f a b = tt
on_err_two (Err e) f a b = f a b

-- a fact of one outcome, where it came
pub ok_at : {T E P : Type 0} (r : Result T E) (v : T) → r ≡ Ok v → OnOk r P → P
ok_at (Ok w) v is p = p
ok_at (Err e) v is p = absurd cc

pub err_at : {T E P : Type 0} (r : Result T E) (e : E) → r ≡ Err e → OnErr r P → P
err_at (Ok w) e is p = absurd cc
err_at (Err f) e is p = p

-- what is a fact is one of an outcome
pub on_err_always : {T E P : Type 0} (r : Result T E) → P → OnErr r P
on_err_always (Ok v) p = tt
on_err_always (Err e) p = p

-- ---- ids and labels of definitions

-- the ids of definitions and of others behind them
pub ids_with-append : (names : Label → Option Key) (some others : List Definition) (asked : Key) → ids_with names (some ++ others) asked ≡ ids_with names some asked ++ ids_with names others asked
ids_with-append names some others asked =
    let p : Definition → Bool = λ x. leads_to names x.label asked in
    let id : Definition → ℕ = λ x. x.id in
    ap (map id) (filter-append p some others) ∙ map-append id (filter p some) (filter p others)

-- the first label of definitions and of others behind them
pub first_label-append : (names : Label → Option Key) (some others : List Definition) (asked : Key) → first_label names (some ++ others) asked ≡ option_or (first_label names some asked) (first_label names others asked)
first_label-append names some others asked =
    let p : Definition → Bool = λ x. leads_to names x.label asked in
    ap (option_map (λ (x : Definition). x.label)) (find-append p some others) ∙ by (find p some) (find p others)
  where
    by : (o q : Option Definition) → option_map (λ (x : Definition). x.label) (option_or o q) ≡ option_or (option_map (λ (x : Definition). x.label) o) (option_map (λ (x : Definition). x.label) q)
    by (Some x) q = refl
    by None q = refl

-- the first of one
pub or_none : (a : Option Label) → option_or a None ≡ a
or_none (Some l) = refl
or_none None = refl

-- the first of three
or_assoc : (a b c : Option Label) → option_or (option_or a b) c ≡ option_or a (option_or b c)
or_assoc (Some l) b c = refl
or_assoc None b c = refl

-- ids that are taken away one after another
without_both : (n m : ℕ) (ids : List ℕ) → without_last m (without_last n ids) ≡ without_last (n + m) ids
without_both n m ids =
    let k : length ids - n ≤ length ids = omega arith in
    let len : length (take (length ids - n) ids) ≡ length ids - n = length-take-le (length ids - n) ids k in
    let fewer : length (take (length ids - n) ids) - m ≡ length ids - (n + m) = omega arith in
    let less : length ids - (n + m) ≤ length ids - n = omega arith in
    ap (λ (i : ℕ). take i (take (length ids - n) ids)) fewer ∙ take-take (length ids - (n + m)) (length ids - n) ids less

-- what was added is taken back
pub taken_back : (first added old new : List ℕ) → old ≡ first ++ added → new ≡ without_last (length added) old → new ≡ first
taken_back first added old new grown taken =
    let len : length first ≡ length (first ++ added) - length added = omega (arith, length-append first added) in
    taken ∙ ap (without_last (length added)) grown ∙ take_at first added (length (first ++ added) - length added) len

-- the label after all was taken back
pub labelled_back : (old grown new first : Option Label) (mapped : Option ℕ) → is_some old ≡ is_some mapped → grown ≡ option_or old first → new ≡ (if is_some mapped then grown else None) → new ≡ old
labelled_back None grown new first mapped labelled is left = rw (← labelled) at left
labelled_back (Some l) grown new first mapped labelled is left = let l_is : new ≡ grown = rw (← labelled) at left in l_is ∙ is

-- ---- one bucket

-- a bucket that stays
pub grown_none : (names : Label → Option Key) (count place : ℕ) (b : Bucket) → IsOwn names count place b → IsGrown names count place [] b b
grown_none names count place b own = record {
  own = own;
  definitions = λ asked at. sym (append-nil (definitions_in names b asked));
  overridden = λ asked. refl;
  labels = λ asked at. sym (or_none (label_in names b asked));
}

-- definitions that are added one after another
pub grown_both : (names : Label → Option Key) (count place : ℕ) (xs ys : List Definition) (a b c : Bucket) → IsGrown names count place xs a b → IsGrown names count place ys b c → IsGrown names count place (xs ++ ys) a c
grown_both names count place xs ys a b c first second = record {
  own = second.own;
  definitions = λ asked at.
      second.definitions asked at ∙ ap (λ (l : List ℕ). l ++ ids_with names ys asked) (first.definitions asked at)
      ∙ append_assoc (definitions_in names a asked) (ids_with names xs asked) (ids_with names ys asked)
      ∙ ap (λ (l : List ℕ). definitions_in names a asked ++ l) (sym (ids_with-append names xs ys asked));
  overridden = λ asked. second.overridden asked ∙ first.overridden asked;
  labels = λ asked at.
      second.labels asked at ∙ ap (λ (o : Option Label). option_or o (first_label names ys asked)) (first.labels asked at)
      ∙ or_assoc (label_in names a asked) (first_label names xs asked) (first_label names ys asked)
      ∙ ap (option_or (label_in names a asked)) (sym (first_label-append names xs ys asked));
}

-- a key's bucket is that of the hash number of each label that leads to it
leads_elsewhere : (names : Label → Option Key) (count place hash : ℕ) (label : Label) (asked : Key) → number_of names label ≡ Some hash → (hash % count ≡ place → ⊥) → hash_of asked % count ≡ place → leads_to names label asked ≡ false
leads_elsewhere names count place hash label asked number apart at = fails (leads_to names label asked) (λ leads. apart (ap (λ (n : ℕ). n % count) (number_there names label asked hash number leads) ∙ at))
  where
    fails : (t : Bool) → (t ≡ true → ⊥) → t ≡ false
    fails true never = absurd (never refl)
    fails false never = refl

-- a definition of another bucket
pub grown_past : (names : Label → Option Key) (count place : ℕ) (d : Definition) (b : Bucket) → IsOwn names count place b → number_of names d.label ≡ Some d.hash → (d.hash % count ≡ place → ⊥) → IsGrown names count place (d ∷ []) b b
grown_past names count place d b own number apart = record {
  own = own;
  definitions = λ asked at. let no = leads_elsewhere names count place d.hash d.label asked number apart at in rw no (sym (append-nil (definitions_in names b asked)));
  overridden = λ asked. refl;
  labels = λ asked at. let no = leads_elsewhere names count place d.hash d.label asked number apart at in rw no (sym (or_none (label_in names b asked)));
}

-- hash numbers, where one more came or none
settled_more : (count place hash : ℕ) (old new : List ℕ) → hash % count ≡ place → (new ≡ old) ⊎ (new ≡ old ++ hash ∷ []) → All (λ n. n % count ≡ place) old → All (λ n. n % count ≡ place) new
settled_more count place hash old new at change settled = elim change [
  | inl e ↦ subst (λ (l : List ℕ). All (λ n. n % count ≡ place) l) (sym e) settled
  | inr e ↦ subst (λ (l : List ℕ). All (λ n. n % count ≡ place) l) (sym e) (All-push (λ n. n % count ≡ place) old hash settled at)
]

-- a definition of this bucket
pub grown_one : (names : Label → Option Key) (count place : ℕ) (d : Definition) (b c : Bucket) → IsOwn names count place b → d.hash % count ≡ place → IsKeyed names c → (hashes_in c ≡ hashes_in b) ⊎ (hashes_in c ≡ hashes_in b ++ d.hash ∷ [])
    → ((asked : Key) → definitions_in names c asked ≡ (if leads_to names d.label asked then definitions_in names b asked ++ d.id ∷ [] else definitions_in names b asked))
    → ((asked : Key) → overridden_in names c asked ≡ overridden_in names b asked)
    → ((asked : Key) → label_in names c asked ≡ (if leads_to names d.label asked then option_or (label_in names b asked) (Some d.label) else label_in names b asked))
    → IsGrown names count place (d ∷ []) b c
grown_one names count place d b c own at keyed hashes definitions overridden labels = record {
  own = record { keyed = keyed; settled = settled_more count place d.hash (hashes_in b) (hashes_in c) at hashes own.settled };
  definitions = λ asked there. definitions asked ∙ ids (leads_to names d.label asked) (definitions_in names b asked);
  overridden = overridden;
  labels = λ asked there. labels asked ∙ label (leads_to names d.label asked) (label_in names b asked);
}
  where
    ids : (t : Bool) (l : List ℕ) → cond t (l ++ d.id ∷ []) l ≡ l ++ map (λ (x : Definition). x.id) (cond t (d ∷ []) [])
    ids true l = refl
    ids false l = sym (append-nil l)

    label : (t : Bool) (o : Option Label) → cond t (option_or o (Some d.label)) o ≡ option_or o (option_map (λ (x : Definition). x.label) (cond t (Some d) None))
    label true o = refl
    label false o = sym (or_none o)

-- a bucket that says what it said
pub grown_same : (names : Label → Option Key) (count place hash : ℕ) (b c : Bucket) → IsOwn names count place b → hash % count ≡ place → IsKeyed names c → (hashes_in c ≡ hashes_in b) ⊎ (hashes_in c ≡ hashes_in b ++ hash ∷ [])
    → ((asked : Key) → definitions_in names c asked ≡ definitions_in names b asked) → ((asked : Key) → overridden_in names c asked ≡ overridden_in names b asked) → ((asked : Key) → label_in names c asked ≡ label_in names b asked)
    → IsGrown names count place [] b c
grown_same names count place hash b c own at keyed hashes definitions overridden labels = record {
  own = record { keyed = keyed; settled = settled_more count place hash (hashes_in b) (hashes_in c) at hashes own.settled };
  definitions = λ asked there. definitions asked ∙ sym (append-nil (definitions_in names b asked));
  overridden = overridden;
  labels = λ asked there. labels asked ∙ sym (or_none (label_in names b asked));
}

-- ---- one bucket, from which definitions are taken

-- a bucket that stays
pub taken_none : (names : Label → Option Key) (count place : ℕ) (b : Bucket) → IsOwn names count place b → IsTaken names count place [] b b
taken_none names count place b own = record {
  own = own;
  definitions = λ asked at. sym (take_all (length (definitions_in names b asked) - 0) (definitions_in names b asked) (omega arith));
  overridden = λ asked. refl;
  labels = λ asked at. labels_stay names (heads_in b) asked;
}

-- a list that has a first item in part has one
still_first : (n : ℕ) (ids : List ℕ) → is_some (slice_get (take n ids) 0) ≡ true → is_some (slice_get ids 0) ≡ true
still_first zero ids e = absurd cc
still_first (suc n) [] e = absurd cc
still_first (suc n) (x ∷ ids) e = refl

-- a key that is mapped where some of its definitions are gone was mapped before
still_mapped : (n : ℕ) (old new : List ℕ) (old_over new_over : Option ℕ) → new ≡ without_last n old → new_over ≡ old_over → is_some (option_or new_over (slice_get new 0)) ≡ true → is_some (option_or old_over (slice_get old 0)) ≡ true
still_mapped n old new old_over new_over ids over mapped = by old_over (rw (over, ids) at mapped)
  where
    by : (o : Option ℕ) → is_some (option_or o (slice_get (without_last n old) 0)) ≡ true → is_some (option_or o (slice_get old 0)) ≡ true
    by (Some i) e = refl
    by None e = still_first (length old - n) old e

-- the label after more was taken back
label_less : (n : ℕ) (mid_ids new_ids : List ℕ) (mid_over new_over : Option ℕ) (first mid new : Option Label) → new_ids ≡ without_last n mid_ids → new_over ≡ mid_over
    → mid ≡ (if is_some (option_or mid_over (slice_get mid_ids 0)) then first else None) → new ≡ (if is_some (option_or new_over (slice_get new_ids 0)) then mid else None)
    → new ≡ (if is_some (option_or new_over (slice_get new_ids 0)) then first else None)
label_less n mid_ids new_ids mid_over new_over first mid new ids over so_far change = by (is_some (option_or new_over (slice_get new_ids 0))) refl change
  where
    by : (b : Bool) → is_some (option_or new_over (slice_get new_ids 0)) ≡ b → new ≡ cond b mid None → new ≡ cond b first None
    by true e c =
        let before : is_some (option_or mid_over (slice_get mid_ids 0)) ≡ true = still_mapped n mid_ids new_ids mid_over new_over ids over e in
        c ∙ so_far ∙ rw before refl
    by false e c = c

-- definitions that are taken one after another
pub taken_both : (names : Label → Option Key) (count place : ℕ) (xs ys : List Definition) (a b c : Bucket) → IsTaken names count place xs a b → IsTaken names count place ys b c → IsTaken names count place (xs ++ ys) a c
taken_both names count place xs ys a b c first second = record {
  own = second.own;
  definitions = λ asked at.
      let m : length (ids_with names xs asked) + length (ids_with names ys asked) ≡ length (ids_with names (xs ++ ys) asked) =
      sym (ap (λ (l : List ℕ). length l) (ids_with-append names xs ys asked) ∙ length-append (ids_with names xs asked) (ids_with names ys asked)) in
      second.definitions asked at ∙ ap (without_last (length (ids_with names ys asked))) (first.definitions asked at)
      ∙ without_both (length (ids_with names xs asked)) (length (ids_with names ys asked)) (definitions_in names a asked)
      ∙ ap (λ (k : ℕ). without_last k (definitions_in names a asked)) m;
  overridden = λ asked. second.overridden asked ∙ first.overridden asked;
  labels = λ asked at.
      label_less (length (ids_with names ys asked)) (definitions_in names b asked) (definitions_in names c asked) (overridden_in names b asked) (overridden_in names c asked)
      (label_in names a asked) (label_in names b asked) (label_in names c asked) (second.definitions asked at) (second.overridden asked) (first.labels asked at) (second.labels asked at);
}

-- a definition of another bucket
pub taken_past : (names : Label → Option Key) (count place : ℕ) (d : Definition) (b : Bucket) → IsOwn names count place b → number_of names d.label ≡ Some d.hash → (d.hash % count ≡ place → ⊥) → IsTaken names count place (d ∷ []) b b
taken_past names count place d b own number apart = record {
  own = own;
  definitions = λ asked at. let no = leads_elsewhere names count place d.hash d.label asked number apart at in rw no (sym (take_all (length (definitions_in names b asked) - 0) (definitions_in names b asked) (omega arith)));
  overridden = λ asked. refl;
  labels = λ asked at. labels_stay names (heads_in b) asked;
}

-- a definition of this bucket
pub taken_one : (names : Label → Option Key) (count place : ℕ) (d : Definition) (b c : Bucket) → IsOwn names count place b → IsKeyed names c → hashes_in c ≡ hashes_in b
    → ((asked : Key) → definitions_in names c asked ≡ (if leads_to names d.label asked then without_last 1 (definitions_in names b asked) else definitions_in names b asked))
    → ((asked : Key) → overridden_in names c asked ≡ overridden_in names b asked)
    → ((asked : Key) → label_in names c asked ≡ (if is_some (mapped_in names c asked) then label_in names b asked else None))
    → IsTaken names count place (d ∷ []) b c
taken_one names count place d b c own keyed hashes definitions overridden labels = record {
  own = record { keyed = keyed; settled = subst (λ (l : List ℕ). All (λ n. n % count ≡ place) l) (sym hashes) own.settled };
  definitions = λ asked there. definitions asked ∙ ids (leads_to names d.label asked) (definitions_in names b asked);
  overridden = overridden;
  labels = λ asked there. labels asked;
}
  where
    ids : (t : Bool) (l : List ℕ) → cond t (without_last 1 l) l ≡ without_last (length (map (λ (x : Definition). x.id) (cond t (d ∷ []) []))) l
    ids true l = refl
    ids false l = sym (take_all (length l - 0) l (omega arith))

-- what was added is taken back
pub grown_back : (names : Label → Option Key) (count place : ℕ) (xs : List Definition) (a b c : Bucket) → IsGrown names count place xs a b → IsTaken names count place xs b c → IsGrown names count place [] a c
grown_back names count place xs a b c grown taken = record {
  own = taken.own;
  definitions = λ asked at. ids asked at ∙ sym (append-nil (definitions_in names a asked));
  overridden = over;
  labels = λ asked at.
      let mapped : mapped_in names c asked ≡ mapped_in names a asked = rw (ids asked at, over asked) refl in
      labelled_back (label_in names a asked) (label_in names b asked) (label_in names c asked) (first_label names xs asked) (mapped_in names a asked)
      (labelled_in names (heads_in a) asked) (grown.labels asked at) (taken.labels asked at ∙ ap (λ (o : Option ℕ). if is_some o then label_in names b asked else None) mapped)
      ∙ sym (or_none (label_in names a asked));
}
  where
    ids : (asked : Key) → hash_of asked % count ≡ place → definitions_in names c asked ≡ definitions_in names a asked
    ids asked at = taken_back (definitions_in names a asked) (ids_with names xs asked) (definitions_in names b asked) (definitions_in names c asked) (grown.definitions asked at) (taken.definitions asked at)

    over : (asked : Key) → overridden_in names c asked ≡ overridden_in names a asked
    over asked = taken.overridden asked ∙ grown.overridden asked

-- ---- runs

-- a list that is as long has an item at each place
pub beside : {A : Type 0} (xs ys : List A) (k : ℕ) (x : A) → length ys ≡ length xs → slice_get xs k ≡ Some x → (y : A) × (slice_get ys k ≡ Some y)
beside [] ys k x same is = absurd cc
beside (z ∷ xs) [] k x same is = absurd cc
beside (z ∷ xs) (y ∷ ys) zero x same is = (y, refl)
beside (z ∷ xs) (y ∷ ys) (suc k) x same is = let e : length ys ≡ length xs = omega (arith, same) in beside xs ys k x e is

-- a run that stays
pub run_grown_none : (names : Label → Option Key) (count first : ℕ) (run : List Bucket) → AreOwn names count first run → AreGrown names count first [] run run
run_grown_none names count first run own = record {
  len = refl;
  each = λ k b c is there. let e : b ≡ c = same_Some b c (sym is ∙ there) in subst (λ (x : Bucket). IsGrown names count (first + k) [] b x) e (grown_none names count (first + k) b (own k b is));
}

pub run_taken_none : (names : Label → Option Key) (count first : ℕ) (run : List Bucket) → AreOwn names count first run → AreTaken names count first [] run run
run_taken_none names count first run own = record {
  len = refl;
  each = λ k b c is there. let e : b ≡ c = same_Some b c (sym is ∙ there) in subst (λ (x : Bucket). IsTaken names count (first + k) [] b x) e (taken_none names count (first + k) b (own k b is));
}

-- what is added to a run, and then to what it became
pub run_grown_both : (names : Label → Option Key) (count first : ℕ) (xs ys : List Definition) (a b c : List Bucket) → AreGrown names count first xs a b → AreGrown names count first ys b c → AreGrown names count first (xs ++ ys) a c
run_grown_both names count first xs ys a b c one two = record {
  len = two.len ∙ one.len;
  each = λ k x z is there.
      let m = beside a b k x one.len is in
      grown_both names count (first + k) xs ys x m.0 z (one.each k x m.0 is m.1) (two.each k m.0 z m.1 there);
}

pub run_taken_both : (names : Label → Option Key) (count first : ℕ) (xs ys : List Definition) (a b c : List Bucket) → AreTaken names count first xs a b → AreTaken names count first ys b c → AreTaken names count first (xs ++ ys) a c
run_taken_both names count first xs ys a b c one two = record {
  len = two.len ∙ one.len;
  each = λ k x z is there.
      let m = beside a b k x one.len is in
      taken_both names count (first + k) xs ys x m.0 z (one.each k x m.0 is m.1) (two.each k m.0 z m.1 there);
}

-- what was added to a run, and then nothing
pub run_stays : (names : Label → Option Key) (count first : ℕ) (xs : List Definition) (a b c : List Bucket) → AreGrown names count first xs a b → AreGrown names count first [] b c → AreGrown names count first xs a c
run_stays names count first xs a b c one two = subst (λ (l : List Definition). AreGrown names count first l a c) (append-nil xs) (run_grown_both names count first xs [] a b c one two)

-- what was added to a run is taken back
pub run_back : (names : Label → Option Key) (count first : ℕ) (xs : List Definition) (a b c : List Bucket) → AreGrown names count first xs a b → AreTaken names count first xs b c → AreGrown names count first [] a c
run_back names count first xs a b c one two = record {
  len = two.len ∙ one.len;
  each = λ k x z is there.
      let m = beside a b k x one.len is in
      grown_back names count (first + k) xs x m.0 z (one.each k x m.0 is m.1) (two.each k m.0 z m.1 there);
}

-- a run that grew is one of these names
pub run_own : (names : Label → Option Key) (count first : ℕ) (xs : List Definition) (a b : List Bucket) → AreGrown names count first xs a b → AreOwn names count first b
run_own names count first xs a b grown k y is = let m = beside b a k y (sym grown.len) is in (grown.each k m.0 y m.1 is).own

pub run_taken_own : (names : Label → Option Key) (count first : ℕ) (xs : List Definition) (a b : List Bucket) → AreTaken names count first xs a b → AreOwn names count first b
run_taken_own names count first xs a b taken k y is = let m = beside b a k y (sym taken.len) is in (taken.each k m.0 y m.1 is).own

-- a definition of a bucket that is none of the run
pub run_grown_past : (names : Label → Option Key) (count first : ℕ) (d : Definition) (run : List Bucket) → AreOwn names count first run → number_of names d.label ≡ Some d.hash
    → ((at : ℕ) → at < length run → d.hash % count ≡ first + at → ⊥) → AreGrown names count first (d ∷ []) run run
run_grown_past names count first d run own number apart = record {
  len = refl;
  each = λ k b c is there.
      let e : b ≡ c = same_Some b c (sym is ∙ there) in
      subst (λ (x : Bucket). IsGrown names count (first + k) (d ∷ []) b x) e (grown_past names count (first + k) d b (own k b is) number (apart k (slice_get_within run k b is)));
}

pub run_taken_past : (names : Label → Option Key) (count first : ℕ) (d : Definition) (run : List Bucket) → AreOwn names count first run → number_of names d.label ≡ Some d.hash
    → ((at : ℕ) → at < length run → d.hash % count ≡ first + at → ⊥) → AreTaken names count first (d ∷ []) run run
run_taken_past names count first d run own number apart = record {
  len = refl;
  each = λ k b c is there.
      let e : b ≡ c = same_Some b c (sym is ∙ there) in
      subst (λ (x : Bucket). IsTaken names count (first + k) (d ∷ []) b x) e (taken_past names count (first + k) d b (own k b is) number (apart k (slice_get_within run k b is)));
}

-- what stands in a run, one of whose buckets changed
changed_or_not : (run : List Bucket) (at k : ℕ) (y x z : Bucket) → slice_get run k ≡ Some x → slice_get (set run at y) k ≡ Some z → ((k ≡ at) × (z ≡ y)) ⊎ ((k ≡ at → ⊥) × (x ≡ z))
changed_or_not [] at k y x z is there = absurd cc
changed_or_not (b ∷ run) zero zero y x z is there = inl (refl, sym (same_Some y z there))
changed_or_not (b ∷ run) zero (suc k) y x z is there = inr ((λ e. absurd (omega (arith, e))), same_Some x z (sym is ∙ there))
changed_or_not (b ∷ run) (suc at) zero y x z is there = inr ((λ e. absurd (omega (arith, e))), same_Some x z (sym is ∙ there))
changed_or_not (b ∷ run) (suc at) (suc k) y x z is there = elim (changed_or_not run at k y x z is there) [
  | inl w ↦ inl (ap suc w.0, w.1)
  | inr w ↦ inr ((λ e. w.0 (omega (arith, e))), w.1)
]

-- a definition of one bucket of the run, which took it
pub run_grown_one : (names : Label → Option Key) (count first at : ℕ) (d : Definition) (run : List Bucket) (b c : Bucket) → AreOwn names count first run → number_of names d.label ≡ Some d.hash
    → d.hash % count ≡ first + at → slice_get run at ≡ Some b → IsGrown names count (first + at) (d ∷ []) b c → AreGrown names count first (d ∷ []) run (set run at c)
run_grown_one names count first at d run b c own number place is grown = record {
  len = length-set run at c;
  each = λ k x z was there. elim (changed_or_not run at k c x z was there) [
    | inl w ↦
        let same : b ≡ x = same_Some b x (sym is ∙ ap (slice_get run) (sym w.0) ∙ was) in
        subst (λ (j : ℕ). IsGrown names count (first + j) (d ∷ []) x z) (sym w.0) (subst (λ (y : Bucket). IsGrown names count (first + at) (d ∷ []) x y) (sym w.1) (subst (λ (y : Bucket). IsGrown names count (first + at) (d ∷ []) y c) same grown))
    | inr w ↦
        subst (λ (y : Bucket). IsGrown names count (first + k) (d ∷ []) x y) w.1 (grown_past names count (first + k) d x (own k x was) number (λ e. w.0 (omega (arith, e, place))))
  ];
}

-- the bucket that was to take it stayed as it was
pub run_grown_same : (names : Label → Option Key) (count first at : ℕ) (run : List Bucket) (b c : Bucket) → AreOwn names count first run → slice_get run at ≡ Some b → IsGrown names count (first + at) [] b c → AreGrown names count first [] run (set run at c)
run_grown_same names count first at run b c own is grown = record {
  len = length-set run at c;
  each = λ k x z was there. elim (changed_or_not run at k c x z was there) [
    | inl w ↦
        let same : b ≡ x = same_Some b x (sym is ∙ ap (slice_get run) (sym w.0) ∙ was) in
        subst (λ (j : ℕ). IsGrown names count (first + j) [] x z) (sym w.0) (subst (λ (y : Bucket). IsGrown names count (first + at) [] x y) (sym w.1) (subst (λ (y : Bucket). IsGrown names count (first + at) [] y c) same grown))
    | inr w ↦ subst (λ (y : Bucket). IsGrown names count (first + k) [] x y) w.1 (grown_none names count (first + k) x (own k x was))
  ];
}

-- a definition of one bucket of the run, which gave it up
pub run_taken_one : (names : Label → Option Key) (count first at : ℕ) (d : Definition) (run : List Bucket) (b c : Bucket) → AreOwn names count first run → number_of names d.label ≡ Some d.hash
    → d.hash % count ≡ first + at → slice_get run at ≡ Some b → IsTaken names count (first + at) (d ∷ []) b c → AreTaken names count first (d ∷ []) run (set run at c)
run_taken_one names count first at d run b c own number place is taken = record {
  len = length-set run at c;
  each = λ k x z was there. elim (changed_or_not run at k c x z was there) [
    | inl w ↦
        let same : b ≡ x = same_Some b x (sym is ∙ ap (slice_get run) (sym w.0) ∙ was) in
        subst (λ (j : ℕ). IsTaken names count (first + j) (d ∷ []) x z) (sym w.0) (subst (λ (y : Bucket). IsTaken names count (first + at) (d ∷ []) x y) (sym w.1) (subst (λ (y : Bucket). IsTaken names count (first + at) (d ∷ []) y c) same taken))
    | inr w ↦
        subst (λ (y : Bucket). IsTaken names count (first + k) (d ∷ []) x y) w.1 (taken_past names count (first + k) d x (own k x was) number (λ e. w.0 (omega (arith, e, place))))
  ];
}

-- ---- runs that are cut

-- what stands in front of a cut stands in the whole
at_front : {A : Type 0} (xs ys : List A) (k : ℕ) (x : A) → slice_get xs k ≡ Some x → slice_get (xs ++ ys) k ≡ Some x
at_front [] ys k x is = absurd cc
at_front (z ∷ xs) ys zero x is = is
at_front (z ∷ xs) ys (suc k) x is = at_front xs ys k x is

-- so does what stands behind it
at_back : {A : Type 0} (xs ys : List A) (k : ℕ) (x : A) → slice_get ys k ≡ Some x → slice_get (xs ++ ys) (length xs + k) ≡ Some x
at_back [] ys k x is = let e : 0 + k ≡ k = omega arith in ap (slice_get ys) e ∙ is
at_back (z ∷ xs) ys k x is = let e : suc (length xs) + k ≡ suc (length xs + k) = omega arith in ap (slice_get (z ∷ xs ++ ys)) e ∙ at_back xs ys k x is

-- what stands in the whole stands in front of the cut or behind it
at_either : {A : Type 0} (xs ys : List A) (k : ℕ) (x : A) → slice_get (xs ++ ys) k ≡ Some x → (slice_get xs k ≡ Some x) ⊎ ((j : ℕ) × ((k ≡ length xs + j) × (slice_get ys j ≡ Some x)))
at_either [] ys k x is = let e : k ≡ 0 + k = omega arith in inr (k, (e, is))
at_either (z ∷ xs) ys zero x is = inl is
at_either (z ∷ xs) ys (suc k) x is = elim (at_either xs ys k x is) [
  | inl w ↦ inl w
  | inr w ↦ let e : suc k ≡ suc (length xs) + w.0 = omega (arith, w.1.0) in inr (w.0, (e, w.1.1))
]

-- the front of a run
pub front_own : (names : Label → Option Key) (count first : ℕ) (run low high : List Bucket) → run ≡ low ++ high → AreOwn names count first run → AreOwn names count first low
front_own names count first run low high cut own k b is = own k b (ap (λ (l : List Bucket). slice_get l k) cut ∙ at_front low high k b is)

-- what is behind it
pub back_own : (names : Label → Option Key) (count first next : ℕ) (run low high : List Bucket) → run ≡ low ++ high → next ≡ first + length low → AreOwn names count first run → AreOwn names count next high
back_own names count first next run low high cut at own k b is =
    let place : first + (length low + k) ≡ next + k = omega (arith, at) in
    subst (λ (n : ℕ). IsOwn names count n b) place (own (length low + k) b (ap (λ (l : List Bucket). slice_get l (length low + k)) cut ∙ at_back low high k b is))

-- both parts of a run grew
pub run_grown_parts : (names : Label → Option Key) (count first next : ℕ) (xs : List Definition) (run low high low' high' : List Bucket) → run ≡ low ++ high → next ≡ first + length low
    → AreGrown names count first xs low low' → AreGrown names count next xs high high' → AreGrown names count first xs run (low' ++ high')
run_grown_parts names count first next xs run low high low' high' cut at front back = record {
  len = length-append low' high' ∙ ap (λ (n : ℕ). n + length high') front.len ∙ ap (λ (n : ℕ). length low + n) back.len ∙ sym (length-append low high) ∙ sym (ap (λ (l : List Bucket). length l) cut);
  each = λ k x z is there. elim (at_either low high k x (ap (λ (l : List Bucket). slice_get l k) (sym cut) ∙ is)) [
    | inl w ↦
        let m = beside low low' k x front.len w in
        let same : m.0 ≡ z = same_Some m.0 z (sym (at_front low' high' k m.0 m.1) ∙ there) in
        subst (λ (y : Bucket). IsGrown names count (first + k) xs x y) same (front.each k x m.0 w m.1)
    | inr w ↦
        let j = w.0 in
        let m = beside high high' j x back.len w.1.1 in
        let here : length low' + j ≡ k = omega (arith, front.len, w.1.0) in
        let same : m.0 ≡ z = same_Some m.0 z (sym (at_back low' high' j m.0 m.1) ∙ ap (λ (n : ℕ). slice_get (low' ++ high') n) here ∙ there) in
        let place : next + j ≡ first + k = omega (arith, at, w.1.0) in
        subst (λ (n : ℕ). IsGrown names count n xs x z) place (subst (λ (y : Bucket). IsGrown names count (next + j) xs x y) same (back.each j x m.0 w.1.1 m.1))
  ];
}

-- a run whose heads stay
pub run_same_heads : (names : Label → Option Key) (count first : ℕ) (a b : List Bucket) → map heads_in b ≡ map heads_in a → AreOwn names count first a → AreGrown names count first [] a b
run_same_heads names count first a b same own = record {
  len = sym (length-map b heads_in) ∙ ap length same ∙ length-map a heads_in;
  each = λ k x z is there.
      let e : heads_in x ≡ heads_in z = same_Some (heads_in x) (heads_in z) (ap (option_map heads_in) (sym is) ∙ sym (slice_get-map heads_in a k) ∙ ap (λ (l : List (List Head)). slice_get l k) (sym same) ∙ slice_get-map heads_in b k ∙ ap (option_map heads_in) there) in
      one (first + k) x z e (own k x is);
}
  where
    one : (place : ℕ) (x z : Bucket) → heads_in x ≡ heads_in z → IsOwn names count place x → IsGrown names count place [] x z
    one place x z e own_x = record {
      own = record { keyed = subst (HaveKeys names) e own_x.keyed; settled = subst (λ (l : List Head). All (λ n. n % count ≡ place) (hashes_of l)) e own_x.settled };
      definitions = λ asked at. ap (λ (l : List Head). option_map_or ids_of (head_of names l asked) []) (sym e) ∙ sym (append-nil (definitions_in names x asked));
      overridden = λ asked. ap (λ (l : List Head). option_and_then (λ h. h.overridden) (head_of names l asked)) (sym e);
      labels = λ asked at. ap (λ (l : List Head). option_map (λ h. h.label) (head_of names l asked)) (sym e) ∙ sym (or_none (label_in names x asked));
    }

-- heads stay where those of the bucket that changed stay
pub heads_set : (run : List Bucket) (at : ℕ) (z c : Bucket) → heads_in c ≡ heads_in (get_or run at z) → map heads_in (set run at c) ≡ map heads_in run
heads_set [] at z c same = refl
heads_set (b ∷ run) zero z c same = ap (λ (l : List Head). l ∷ map heads_in run) same
heads_set (b ∷ run) (suc at) z c same = ap (λ (l : List (List Head)). heads_in b ∷ l) (heads_set run at z c same)

-- A link has one explanation, whose reasons lead back to what is loaded without a reference.
use Rattle.std.proofs.Common.{◌≡◌, ℕ, zero, suc, ◌+◌, ◌<◌, List, [], ◌∷◌, length, map, Bool, true, false, refl, sym, ◌∙◌, ap, subst, arith, Some, None, Option, Contains, slice_get}
use Rattle.std.specs.Prelude.{◌&&◌, ◌||◌, IsTrue, is_some}
use Rattle.std.specs.List.{enumerate_from, list_any, range_with_len}
use Rattle.std.proofs.lemmas.Bool.{eqb-true, eq-eqb}
use Rattle.std.proofs.lemmas.List.Elements.{All-contains}
use Rattle.link_closure.specs.Closure.{IsLeastClosed, is_marked}
use Rattle.link_closure.proofs.Layers.{level-of-same, marked-within, one-level}
use Rattle.link_closure.proofs.Least.{least_of_same}
use Rattle.link_closure.proofs.Reaching.{chain-in_closed, level-of-marked}
use Rattle.link_input.specs.Symbols.{Symbol, object_in}
use Rattle.link_rules.specs.declared.explanation.Explanation.{Explanation}
use Rattle.link_rules.specs.declared.explanation.FoundRoot.{FoundRoot}
use Rattle.link_rules.specs.declared.explanation.LoadedReason.{LoadedReason}
use Rattle.link_rules.specs.declared.explanation.Reason.{Reason}
use Rattle.link_rules.specs.declared.explanation.Reason.TheVariants.{Required, Root, Reference}
use Rattle.link_rules.specs.Places.{Bytes, is_number}
use Rattle.link_rules.specs.Selection.{Selection}
use Rattle.link_rules.specs.Reasons.{AreReasons, HasLevel, IsFirstReason, IsLeastReference, IsReason, LeadBack, Loads, asked_for, is_mandatory, is_rooted, root_name_of}
use Rattle.link_rules.specs.Explained.{Explains}
use Rattle.link_rules.proofs.Settled.{here, there, none_some, some_same, both_true}
use Rattle.link_rules.proofs.Members.{at_place, placed, map_from, kept_in, range_in, numbered_in}
use Rattle.link_rules.proofs.Twice.{numbered_at}
use Rattle.link_rules.proofs.Rounds.{any-found, found-any}

-- it is a number, which is this one
pub is_number-true : (o : Option ℕ) (n : ℕ) → is_number o n ≡ true → o ≡ Some n
is_number-true None n is = absurd cc
is_number-true (Some m) n is = ap (λ (k : ℕ). Some k) (eqb-true m n is)

-- this number is it
pub true-is_number : (o : Option ℕ) (n : ℕ) → o ≡ Some n → is_number o n ≡ true
true-is_number None n is = absurd (none_some n is)
true-is_number (Some m) n is = eq-eqb m n (some_same m n is)

-- both tests hold together
pub and-both : (a b : Bool) → a ≡ true → b ≡ true → (a && b) ≡ true
and-both true b first second = second
and-both false b first second = absurd cc

-- parts of a disjunction that doesn't hold
or-false : (a b : Bool) → (a || b) ≡ false → (a ≡ false) × (b ≡ false)
or-false true b is = absurd cc
or-false false b is = (refl, is)

-- what has a part has the disjunction
pub or-right : (a b : Bool) → b ≡ true → (a || b) ≡ true
or-right true b is = refl
or-right false b is = is

pub or-left : (a b : Bool) → a ≡ true → (a || b) ≡ true
or-left true b is = refl
or-left false b is = absurd cc

true-false : (b : Bool) → b ≡ true → b ≡ false → ⊥
true-false b is not = absurd (let both : true ≡ false = sym is ∙ not in cc)

module _ (l : Selection) (roots : List FoundRoot) where
  -- ---- one explanation

  -- two references of the least id are one, and so is their object
  one-reference : (n m f s s' o o' : ℕ) → HasLevel l roots (n + 1) f → HasLevel l roots (m + 1) f
      → IsLeastReference l roots n f s o → IsLeastReference l roots m f s' o' → (s ≡ s') × (o ≡ o')
  one-reference n m f s s' o o' level level' a b =
      let same : n + 1 ≡ m + 1 = one-level (λ g. IsTrue (is_rooted l.stage roots g)) (Loads l) (n + 1) (m + 1) f level level' in
      let equal : m ≡ n = omega arith in
      let to = a.least s' o' b.asks (subst (λ k. HasLevel l roots k o') equal b.level) in
      let from = b.least s o a.asks (subst (λ k. HasLevel l roots k o) (sym equal) a.level) in
      let ids : s ≡ s' = omega arith in
      let symbol : a.asks.0 ≡ b.asks.0 = some_same a.asks.0 b.asks.0 (sym a.asks.1 ∙ ap (slice_get l.stage.symbols) ids ∙ b.asks.1) in
      (ids, some_same o o' (sym a.asks.2 ∙ ap (λ (u : Symbol). object_in u.origin) symbol ∙ b.asks.2))

  -- an object has one reason
  one-reason : (f : ℕ) (a b : Reason) → IsReason l roots f a → IsReason l roots f b → a ≡ b
  one-reason f Required Required p q = refl
  one-reason f Required (Root name) p q = absurd (true-false (is_mandatory l.stage f) p q.0)
  one-reason f Required (Reference s o) p q = absurd (true-false (is_mandatory l.stage f) p (or-false (is_mandatory l.stage f) _ q.0).0)
  one-reason f (Root name) Required p q = absurd (true-false (is_mandatory l.stage f) q p.0)
  one-reason f (Root name) (Root other) p q = ap (λ (n : Bytes). Root n) (some_same name other (sym p.1 ∙ q.1))
  one-reason f (Root name) (Reference s o) p q =
      absurd (true-false (is_some (root_name_of roots f)) (ap is_some p.1) (or-false (is_mandatory l.stage f) _ q.0).1)
  one-reason f (Reference s o) Required p q = absurd (true-false (is_mandatory l.stage f) q (or-false (is_mandatory l.stage f) _ p.0).0)
  one-reason f (Reference s o) (Root name) p q =
      absurd (true-false (is_some (root_name_of roots f)) (ap is_some q.1) (or-false (is_mandatory l.stage f) _ p.0).1)
  one-reason f (Reference s o) (Reference s' o') p q =
      let same = one-reference p.1 q.1 f s s' o o' p.2 q.2 p.3 q.3 in
      ap (λ (k : ℕ). Reference k o) same.0 ∙ ap (λ (k : ℕ). Reference s' k) same.1

  -- lists of reasons of the same objects are one
  same-reasons : (xs ys : List LoadedReason) → map (λ (r : LoadedReason). r.object) xs ≡ map (λ (r : LoadedReason). r.object) ys
      → ((r : LoadedReason) → Contains xs r → IsReason l roots r.object r.reason) → ((r : LoadedReason) → Contains ys r → IsReason l roots r.object r.reason) → xs ≡ ys
  same-reasons [] [] same p q = refl
  same-reasons [] (y ∷ ys) same p q = absurd cc
  same-reasons (x ∷ xs) [] same p q = absurd cc
  same-reasons (x ∷ xs) (y ∷ ys) same p q =
      let first : x.object ≡ y.object = cc in
      let others : map (λ (r : LoadedReason). r.object) xs ≡ map (λ (r : LoadedReason). r.object) ys = cc in
      let reason : x.reason ≡ y.reason = one-reason x.object x.reason y.reason (p x (here x xs))
      (subst (λ f. IsReason l roots f y.reason) (sym first) (q y (here y ys))) in
      let one : x ≡ y = ap (λ (f : ℕ). record { object = f; reason = x.reason }) first ∙ ap (λ (r : Reason). record { object = y.object; reason = r }) reason in
      let rest = same-reasons xs ys others (λ r within. p r (there x xs r within)) (λ r within. q r (there y ys r within)) in
      ap (λ (r : LoadedReason). r ∷ xs) one ∙ ap (λ (rs : List LoadedReason). y ∷ rs) rest

  pub one-list : (a b : List LoadedReason) → AreReasons l roots a → AreReasons l roots b → a ≡ b
  one-list a b p q = same-reasons a b (p.each ∙ sym q.each)
      (λ r within. All-contains (λ (r : LoadedReason). IsReason l roots r.object r.reason) a r p.reason within)
      (λ r within. All-contains (λ (r : LoadedReason). IsReason l roots r.object r.reason) b r q.reason within)

  pub one-explanation : (a b : Explanation) → Explains l roots a → Explains l roots b → a ≡ b
  one-explanation a b p q =
      let reasons = one-list a.reasons b.reasons p.reasons q.reasons in
      let choices = p.choices ∙ sym q.choices in
      ap (λ (rs : List LoadedReason). record { reasons = rs; choices = a.choices }) reasons
      ∙ ap (λ (cs : _). record { reasons = b.reasons; choices = cs }) choices

  -- ---- levels

  -- a reference of f asks for g, as a test
  abbrev asks : ℕ → ℕ → ℕ × Symbol → Bool
  asks f g q = is_number (object_in q.1.origin) f && is_number (asked_for l q.0 q.1) g

  abbrev leads : ℕ → ℕ → Bool
  leads f g = list_any (asks f g) (enumerate_from 0 l.stage.symbols)

  loads-leads : (f g : ℕ) → Loads l f g → IsTrue (leads f g)
  loads-leads f g (s, (u, at, in_it, is)) =
      let same : s ≡ 0 + s = omega arith in
      let place = placed (enumerate_from 0 l.stage.symbols) (s, u) (numbered_in 0 l.stage.symbols s s u at same) in
      found-any (asks f g) (enumerate_from 0 l.stage.symbols) place.0 (s, u) place.1
      (and-both (is_number (object_in u.origin) f) (is_number (asked_for l s u) g) (true-is_number (object_in u.origin) f in_it) (true-is_number (asked_for l s u) g is))

  leads-loads : (f g : ℕ) → IsTrue (leads f g) → Loads l f g
  leads-loads f g is =
      let it = any-found (asks f g) (enumerate_from 0 l.stage.symbols) is in
      let q : ℕ × Symbol = it.1 in
      let stands = numbered_at 0 l.stage.symbols q (at_place (enumerate_from 0 l.stage.symbols) it.0 q it.2) in
      let same : stands.0 ≡ q.0 = let h = stands.2 in omega arith in
      let both = both_true (is_number (object_in q.1.origin) f) (is_number (asked_for l q.0 q.1) g) it.3 in (
        q.0,
        (
          q.1,
          subst (λ k. slice_get l.stage.symbols k ≡ Some q.1) same stands.1,
          is_number-true (object_in q.1.origin) f both.0,
          is_number-true (asked_for l q.0 q.1) g both.1,
        ),
      )

  module _ (least : IsLeastClosed (λ g. IsTrue (is_rooted l.stage roots g)) (Loads l) (length l.stage.objects) l.marks) where
    -- each loaded object has a level
    pub level-of-loaded : (f : ℕ) → IsTrue (is_marked l.marks f) → (n : ℕ) × (n < length l.stage.objects) × HasLevel l roots n f
    level-of-loaded f marked =
        let tested = least_of_same (λ g. IsTrue (is_rooted l.stage roots g)) (λ g. IsTrue (is_rooted l.stage roots g)) (Loads l) (λ g h. IsTrue (leads g h)) (length l.stage.objects) l.marks
        (λ g. (λ is. is, λ is. is)) (λ g h. (loads-leads g h, leads-loads g h)) least in
        let it = level-of-marked (λ g. is_rooted l.stage roots g) leads (length l.stage.objects) l.marks tested f marked in (
          it.0,
          it.1,
          level-of-same (λ g. IsTrue (is_rooted l.stage roots g)) (λ g. IsTrue (is_rooted l.stage roots g)) (λ g h. IsTrue (leads g h)) (Loads l)
              (λ g. (λ is. is, λ is. is)) (λ g h. (leads-loads g h, loads-leads g h)) it.0 f it.2,
        )

    module _ (reasons : List LoadedReason) (are : AreReasons l roots reasons) where
      -- an object with a level has a reason
      entry : (n f : ℕ) → HasLevel l roots n f → (r : LoadedReason) × Contains reasons r × (r.object ≡ f) × IsReason l roots f r.reason
      entry n f level =
          let marked : is_marked l.marks f ≡ true = chain-in_closed (λ g. IsTrue (is_rooted l.stage roots g)) (Loads l) (is_marked l.marks) least.closed n f level.chain in
          let inside : f < length l.stage.objects = let within = marked-within l.marks f marked in omega (arith, least.each) in
          let place = kept_in (is_marked l.marks) (range_with_len 0 (length l.stage.objects)) f (range_in (length l.stage.objects) f inside) marked in
          let from = map_from (λ (r : LoadedReason). r.object) reasons f (subst (λ (xs : List ℕ). Contains xs f) (sym are.each) place) in (
            from.0,
            from.1,
            from.2,
            subst (λ k. IsReason l roots k from.0.reason) from.2 (All-contains (λ (r : LoadedReason). IsReason l roots r.object r.reason) reasons from.0 are.reason from.1),
          )

      -- an object that is loaded without a reference is of level 0
      level-of-root : (f : ℕ) → is_rooted l.stage roots f ≡ true → HasLevel l roots 0 f
      level-of-root f is = record { chain = is; least = λ m chain. omega arith }

      one : (n m f : ℕ) → HasLevel l roots n f → HasLevel l roots m f → n ≡ m
      one n m f a b = one-level (λ g. IsTrue (is_rooted l.stage roots g)) (Loads l) n m f a b

      -- by the reason of the object
      by-reason : (n f : ℕ) → ((m o : ℕ) → n ≡ m + 1 → HasLevel l roots m o → LeadBack reasons m o) → HasLevel l roots n f
          → (r : LoadedReason) → Contains reasons r → r.object ≡ f → (reason : Reason) → r.reason ≡ reason → IsReason l roots f reason → LeadBack reasons n f
      by-reason n f further level r within is Required same holds =
          subst (λ k. LeadBack reasons k f) (one 0 n f (level-of-root f (or-left (is_mandatory l.stage f) _ holds)) level)
          (r, within, is, subst IsFirstReason (sym same) tt)
      by-reason n f further level r within is (Root name) same holds =
          subst (λ k. LeadBack reasons k f) (one 0 n f (level-of-root f (or-right (is_mandatory l.stage f) (is_some (root_name_of roots f)) (ap is_some holds.1))) level)
          (r, within, is, subst IsFirstReason (sym same) tt)
      by-reason n f further level r within is (Reference s o) same holds =
          let before : n ≡ holds.1 + 1 = one n (holds.1 + 1) f level holds.2 in
          let whole : LeadBack reasons (suc holds.1) f = (r, within, is, s, o, same, further holds.1 o before holds.3.level) in
          subst (λ k. LeadBack reasons k f) (let e : suc holds.1 ≡ n = omega arith in e) whole

      pub leads-back : (n f : ℕ) → HasLevel l roots n f → LeadBack reasons n f
      leads-back zero f level =
          let it = entry 0 f level in
          by-reason 0 f (λ m o same. absurd (omega arith)) level it.0 it.1 it.2 it.0.reason refl it.3
      leads-back (suc n) f level =
          let it = entry (suc n) f level in
          by-reason (suc n) f (λ m o same before.
          let equal : m ≡ n = omega arith in
          subst (λ k. LeadBack reasons k o) (sym equal) (leads-back n o (subst (λ k. HasLevel l roots k o) equal before)))
          level it.0 it.1 it.2 it.0.reason refl it.3

      -- from each object that has a reason the reasons lead back
      pub each-back : (r : LoadedReason) → Contains reasons r → (n : ℕ) × LeadBack reasons n r.object
      each-back r within = by r.reason (All-contains (λ (q : LoadedReason). IsReason l roots q.object q.reason) reasons r are.reason within)
        where
          by : (reason : Reason) → IsReason l roots r.object reason → (n : ℕ) × LeadBack reasons n r.object
          by Required holds = (0, leads-back 0 r.object (level-of-root r.object (or-left (is_mandatory l.stage r.object) _ holds)))
          by (Root name) holds =
              (0, leads-back 0 r.object (level-of-root r.object (or-right (is_mandatory l.stage r.object) (is_some (root_name_of roots r.object)) (ap is_some holds.1))))
          by (Reference s o) holds = (holds.1 + 1, leads-back (holds.1 + 1) r.object holds.2)

-- The groups of objects that a batch loads, where those that earlier batches had loaded were checked then.
use Rattle.std.proofs.Common.{◌≡◌, ◌∙◌, ◌+◌, ◌≤◌, ◌++◌, ℕ, zero, suc, Bool, true, false, List, [], ◌∷◌, Option, None, Some, arith, Err, Ok, Result, cond, get_or, length, filter, refl, sym, ap, subst}
use Rattle.std.specs.Prelude.{◌&&◌, filter_map, not, option_map}
use Rattle.std.specs.List.{cons_option, enumerate_from, flat_map}
use Rattle.std.specs.Result.{IsErr, IsErrAnd}
use Rattle.std.proofs.lemmas.List.{get_or_past}
use Rattle.link_closure.specs.Closure.{is_marked}
use Rattle.link_input.specs.ObjectFile.{ObjectFile}
use Rattle.link_db_texts.specs.Causes.{TellsCause}
use Rattle.link_rules.specs.Comdat.{loaded_regular}
use Rattle.link_rules.specs.Places.{each_from, first_of, is_empty}
use Rattle.link_rules.specs.Refusals.{first_repeated, group_cause}
use Rattle.link_rules.specs.World.{Stage}
use Rattle.link_rules.specs.declared.refusal.LinkError.{LinkError}
use Rattle.link_rules.specs.declared.refusal.LinkError.TheVariants.{SectionInTwoGroups}
use Rattle.link_input.specs.declared.object.SectionGroup.{SectionGroup}
use Rattle.link_resolve_discarded.specs.Checked.{WereGroupsFine, grouped_among, has_groups, is_new}
use Rattle.link_resolve_discarded.specs.Regular.{regular_among}

-- where there is no first one, there is none
first-none : {X : Type 0} (xs : List X) → first_of xs ≡ None → xs ≡ []
first-none [] none = refl
first-none (x ∷ xs) none = absurd (cc)

module _ {A B : Type 0} (cause : A → Option B) (p q r : A → Bool) (each : (x : A) → q x ≡ (p x && not (r x))) where
  -- one element more, by its tests and its cause
  step : (a b d : Bool) (o : Option B) (x : A) (xs : List A) → cause x ≡ o → d ≡ (b && not a)
      → filter_map cause (cond a (x ∷ filter r xs) (filter r xs)) ≡ []
      → (filter_map cause (filter r xs) ≡ [] → filter_map cause (filter p xs) ≡ filter_map cause (filter q xs))
      → filter_map cause (cond b (x ∷ filter p xs) (filter p xs)) ≡ filter_map cause (cond d (x ∷ filter q xs) (filter q xs))
  step false false d o x xs is same none rest = rest none ∙ ap (λ t. filter_map cause (cond t (x ∷ filter q xs) (filter q xs))) (sym same)
  step false true d o x xs is same none rest = ap (λ l. cons_option (cause x) l) (rest none) ∙ ap (λ t. filter_map cause (cond t (x ∷ filter q xs) (filter q xs))) (sym same)
  step true false d None x xs is same none rest =
      let others : filter_map cause (filter r xs) ≡ [] = ap (λ c. cons_option c (filter_map cause (filter r xs))) (sym is) ∙ none in
      rest others ∙ ap (λ t. filter_map cause (cond t (x ∷ filter q xs) (filter q xs))) (sym same)
  step true true d None x xs is same none rest =
      let others : filter_map cause (filter r xs) ≡ [] = ap (λ c. cons_option c (filter_map cause (filter r xs))) (sym is) ∙ none in
      ap (λ c. cons_option c (filter_map cause (filter p xs))) is ∙ (rest others ∙ ap (λ t. filter_map cause (cond t (x ∷ filter q xs) (filter q xs))) (sym same))
  step true b d (Some y) x xs is same none rest =
      let some : y ∷ filter_map cause (filter r xs) ≡ [] = ap (λ c. cons_option c (filter_map cause (filter r xs))) (sym is) ∙ none in
      absurd (cc)

  -- causes are told by those alone that weren't tested before, where these were none
  pub new-causes : (xs : List A) → filter_map cause (filter r xs) ≡ [] → filter_map cause (filter p xs) ≡ filter_map cause (filter q xs)
  new-causes [] none = refl
  new-causes (x ∷ xs) none = step (r x) (p x) (q x) (cause x) x xs refl (each x) none (new-causes xs)

-- the mark of an object among those of the new ones
new-mark : (earlier : List Bool) (n : ℕ) (xs : List Bool) (f : ℕ) → get_or (each_from (is_new earlier) n xs) f false ≡ (get_or xs f false && not (is_marked earlier (n + f)))
new-mark earlier n [] f = refl
new-mark earlier n (x ∷ xs) zero = let same : n ≡ n + 0 = omega arith in ap (λ k. x && not (is_marked earlier k)) same
new-mark earlier n (x ∷ xs) (suc f) =
    let next : n + 1 + f ≡ n + suc f = omega arith in
    new-mark earlier (n + 1) xs f ∙ ap (λ k. get_or xs f false && not (is_marked earlier k)) next

-- a mark that is new, and another test
by-regular : (m e t : Bool) → ((m && not e) && t) ≡ ((m && t) && not (e && t))
by-regular true true true = refl
by-regular true true false = refl
by-regular true false true = refl
by-regular true false false = refl
by-regular false true true = refl
by-regular false true false = refl
by-regular false false true = refl
by-regular false false false = refl

-- the cause that the objects of a batch tell is that of those that are newly loaded
pub newly-told : (w : Stage) (earlier loaded : List Bool) (objects : List ObjectFile) → w.objects ≡ objects → w.earlier.loaded ≡ earlier → WereGroupsFine w
    → first_of (filter_map group_cause (loaded_regular w loaded)) ≡ first_of (filter_map group_cause (regular_among (each_from (is_new earlier) 0 loaded) objects))
newly-told w earlier loaded objects same before fine =
    ap (λ (cs : List LinkError). first_of cs)
    (new-causes group_cause
    (λ o. is_marked loaded o.0 && not o.1.object.is_dynamic) (λ o. is_marked (each_from (is_new earlier) 0 loaded) o.0 && not o.1.object.is_dynamic)
    (λ o. is_marked w.earlier.loaded o.0 && not o.1.object.is_dynamic)
    (λ o.
    let zero_add : 0 + o.0 ≡ o.0 = omega arith in
    ap (λ m. m && not o.1.object.is_dynamic) (new-mark earlier 0 loaded o.0 ∙ ap (λ k. is_marked loaded o.0 && not (is_marked earlier k)) zero_add)
    ∙ (ap (λ (es : List Bool). (is_marked loaded o.0 && not (is_marked es o.0)) && not o.1.object.is_dynamic) (sym before)
    ∙ by-regular (is_marked loaded o.0) (is_marked w.earlier.loaded o.0) (not o.1.object.is_dynamic)))
    (enumerate_from 0 w.objects) (first-none (filter_map group_cause (loaded_regular w w.earlier.loaded)) fine)
    ∙ ap (λ (os : List ObjectFile). filter_map group_cause (regular_among (each_from (is_new earlier) 0 loaded) os)) same)

-- an object without groups lists no section twice
no-groups : (o : ℕ × ObjectFile) → has_groups o ≡ false → group_cause o ≡ None
no-groups o none = by o.1.object.groups refl
  where
    by : (groups : List SectionGroup) → o.1.object.groups ≡ groups → group_cause o ≡ None
    by [] is = ap (λ (gs : List SectionGroup). option_map (λ section. SectionInTwoGroups o.1.input section) (first_repeated [] (flat_map (λ g. g.members) gs))) is
    by (g ∷ gs) is = let some : true ≡ false = sym (ap (λ (gs : List SectionGroup). not (is_empty gs)) is) ∙ none in absurd (cc)

-- causes are told by those that pass a test, where those that fail it have none
module _ {A B : Type 0} (cause : A → Option B) (p q : A → Bool) (without : (x : A) → q x ≡ false → cause x ≡ None) where
  one-more : (a b : Bool) (x : A) (xs : List A) → q x ≡ b → filter_map cause (filter p xs) ≡ filter_map cause (filter (λ y. p y && q y) xs)
      → filter_map cause (cond a (x ∷ filter p xs) (filter p xs)) ≡ filter_map cause (cond (a && b) (x ∷ filter (λ y. p y && q y) xs) (filter (λ y. p y && q y) xs))
  one-more false b x xs is rest = rest
  one-more true true x xs is rest = ap (λ l. cons_option (cause x) l) rest
  one-more true false x xs is rest = ap (λ c. cons_option c (filter_map cause (filter p xs))) (without x is) ∙ rest

  pub tested-causes : (xs : List A) → filter_map cause (filter p xs) ≡ filter_map cause (filter (λ x. p x && q x) xs)
  tested-causes [] = refl
  tested-causes (x ∷ xs) = one-more (p x) (q x) x xs refl (tested-causes xs)

-- the cause that regular objects tell is that of those that have groups
pub grouped-told : (marks : List Bool) (objects : List ObjectFile)
    → first_of (filter_map group_cause (regular_among marks objects)) ≡ first_of (filter_map group_cause (grouped_among marks objects))
grouped-told marks objects =
    ap (λ (cs : List LinkError). first_of cs)
    (tested-causes group_cause (λ o. is_marked marks o.0 && not o.1.object.is_dynamic) has_groups no-groups (enumerate_from 0 objects))

-- objects behind the last mark are not loaded
past-marks : (marks : List Bool) (n : ℕ) (objects : List ObjectFile) → length marks ≤ n → filter (λ o. is_marked marks o.0 && not o.1.object.is_dynamic) (enumerate_from n objects) ≡ []
past-marks marks n [] past = refl
past-marks marks n (o ∷ os) past =
    ap (λ m. cond (m && not o.object.is_dynamic) ((n, o) ∷ filter (λ x. is_marked marks x.0 && not x.1.object.is_dynamic) (enumerate_from (n + 1) os)) (filter (λ x. is_marked marks x.0 && not x.1.object.is_dynamic) (enumerate_from (n + 1) os)))
    (get_or_past marks n false past)
    ∙ past-marks marks (n + 1) os (omega (arith, past))

-- with objects behind those that are marked the loaded regular ones are the same
pub regular-more : (marks : List Bool) (objects more : List ObjectFile) → length marks ≤ length objects → regular_among marks (objects ++ more) ≡ regular_among marks objects
regular-more marks objects more few = let all : length marks ≤ 0 + length objects = omega (arith, few) in by 0 objects all
  where
    is_regular : ℕ × ObjectFile → Bool
    is_regular o = is_marked marks o.0 && not o.1.object.is_dynamic

    by : (n : ℕ) (os : List ObjectFile) → length marks ≤ n + length os → filter is_regular (enumerate_from n (os ++ more)) ≡ filter is_regular (enumerate_from n os)
    by n [] few = past-marks marks n more (omega (arith, few))
    by n (o ∷ os) few =
        ap (λ l. cond (is_regular (n, o)) ((n, o) ∷ l) l) (by (n + 1) os (omega (arith, few)))

-- a refusal that is handed on tells what it told
pub told-through : (cause other : Option LinkError) (e : LinkError) (r : Result (Unit {0}) LinkError) → cause ≡ other → IsErr r → IsErrAnd r (λ x. x ≡ e)
    → TellsCause {A = Unit {0}} other (Err e) → TellsCause cause r
told-through cause other e (Ok x) same is handed told = absurd (let wrong = is in cc)
told-through cause other e (Err x) same is handed told =
    subst (λ (y : LinkError). TellsCause {A = Unit {0}} cause (Err y)) (sym handed) (subst (λ (o : Option LinkError). TellsCause {A = Unit {0}} o (Err e)) (sym same) told)

-- Layer after layer gets its level.
use Rattle.std.proofs.Common.{◌≡◌, ◌↔◌, ℕ, zero, suc, ◌+◌, ◌<◌, ◌≤◌, ◌⊎◌, List, [], ◌∷◌, ◌++◌, length, get_or, cond, Option, Some, None, Bool, true, false, Vec, Global, refl, sym, ◌∙◌, ap, subst, inl, inr, arith, length-append}
use Rattle.std.specs.Prelude.{count_by, is_none, is_some, replicate}
use Rattle.std.specs.List.{Contains, slice_get, slice_set}
use Rattle.std.proofs.lemmas.Bool.{cases_eq, cases_lt}
use Rattle.std.proofs.lemmas.Option.{slice_get_within, slice_get-get_or, get_or_from_slice_get}
use Rattle.std.proofs.lemmas.List.Sums.{sum_by-set}
use Rattle.std.proofs.lemmas.List.Elements.{Contains-push, Contains-push_cases, Contains-append_left}
use Rattle.link_closure.specs.Levels.{HasChain, IsLevel, HasLevel, HasNoLevel, AreLevels, Layered}
use Rattle.link_closure.specs.Closure.{is_marked}
use Rattle.link_closure.specs.Graph.{Graph, IsMarked, Leads}
use Rattle.link_closure.proofs.Turn.{either, some-inj}
use Rattle.link_closure.proofs.Rows.{set-same, set-other}

-- nothing is in an empty list
pub nothing-in : (f : ℕ) → Contains {X = ℕ} [] f → ⊥
nothing-in f has = absurd (omega (arith, has.1))

-- a number with a level is not one without
pub not-both : (levels : List (Option ℕ)) (f n : ℕ) → HasLevel levels f n → HasNoLevel levels f → ⊥
not-both levels f n has none = absurd (let both : Some (Some n) ≡ Some None = sym has ∙ none in cc)

-- a number has one level in a list
pub one-listed : (levels : List (Option ℕ)) (f n m : ℕ) → HasLevel levels f n → HasLevel levels f m → n ≡ m
one-listed levels f n m a b = some-inj (some-inj (sym a ∙ b))

-- an option is nothing, or something
is-nothing : (o : Option ℕ) → is_some o ≡ false → o ≡ None
is-nothing None is = refl
is-nothing (Some n) is = absurd cc

-- an option is something
is-something : (o : Option ℕ) → is_some o ≡ true → (n : ℕ) × (o ≡ Some n)
is-something None is = absurd cc
is-something (Some n) is = (n, refl)

-- where nothing is read, the number has no level
pub read-none : (levels : List (Option ℕ)) (k : ℕ) → k < length levels → is_some (get_or levels k None) ≡ false → HasNoLevel levels k
read-none levels k inside is = slice_get-get_or levels k None inside ∙ ap (λ (o : Option ℕ). Some o) (is-nothing (get_or levels k None) is)

-- where something is read, it has one
pub read-some : (levels : List (Option ℕ)) (k : ℕ) → k < length levels → is_some (get_or levels k None) ≡ true → (n : ℕ) × HasLevel levels k n
read-some levels k inside is =
    let it = is-something (get_or levels k None) is in
    (it.0, slice_get-get_or levels k None inside ∙ ap (λ (o : Option ℕ). Some o) it.1)

-- ---- one number gets a level

-- a level that is set is one number fewer without
fewer-set : (levels : List (Option ℕ)) (i v : ℕ) → HasNoLevel levels i → count_by is_none (slice_set levels i (Some v)) + 1 ≡ count_by is_none levels
fewer-set levels i v none =
    let at : get_or levels i None ≡ None = get_or_from_slice_get levels i None None none in
    let h = rw at at (sum_by-set (λ (o : Option ℕ). cond (is_none o) 1 0) levels i (Some v) None (slice_get_within levels i None none)) in
    omega arith

-- as many stand there
set-length : (levels : List (Option ℕ)) (i : ℕ) (v : Option ℕ) → length (slice_set levels i v) ≡ length levels
set-length [] i v = refl
set-length (l ∷ levels) zero v = refl
set-length (l ∷ levels) (suc i) v = ap suc (set-length levels i v)

-- a number without a level gets this one, and stands in the layer
pub layered-new : (number level : ℕ) (levels : List (Option ℕ)) (layer : List ℕ) → HasNoLevel levels number
    → Layered (λ g. g ≡ number) level levels (slice_set levels number (Some level)) layer (layer ++ number ∷ [])
layered-new number level levels layer none =
    let inside : number < length levels = slice_get_within levels number None none in
    let here : HasLevel (slice_set levels number (Some level)) number level = set-same levels number (Some level) inside in
    record {
      each = set-length levels number (Some level);
      kept = λ f n has. either (cases_eq f number)
          (λ same. absurd (not-both levels number n (subst (λ k. HasLevel levels k n) same has) none))
          (λ differs. set-other levels number f (Some level) differs ∙ has);
      reached = λ f is. (level, subst (λ k. HasLevel (slice_set levels number (Some level)) k level) (sym is) here);
      only = λ f n has. either (cases_eq f number)
          (λ same. inr (
            same,
            one-listed (slice_set levels number (Some level)) number n level (subst (λ k. HasLevel (slice_set levels number (Some level)) k n) same has) here,
            subst (HasNoLevel levels) (sym same) none,
            subst (Contains (layer ++ number ∷ [])) (sym same) (Contains-push layer number),
          ))
          (λ differs. inl (sym (set-other levels number f (Some level) differs) ∙ has));
      not_yet = λ f no. either (cases_eq f number)
          (λ same. subst (HasNoLevel levels) (sym same) none)
          (λ differs. sym (set-other levels number f (Some level) differs) ∙ no);
      waiting = λ f has. Contains-append_left layer (number ∷ []) f has;
      listed = λ f has. either (Contains-push_cases layer number f has) inl
          (λ is. inr (subst (HasNoLevel levels) is none, subst (λ k. HasLevel (slice_set levels number (Some level)) k level) is here));
      fewer = let one = fewer-set levels number level none in let many = length-append layer (number ∷ []) in omega arith;
    }

-- a number that has a level keeps it
pub layered-old : (number level n : ℕ) (levels : List (Option ℕ)) (layer : List ℕ) → HasLevel levels number n
    → Layered (λ g. g ≡ number) level levels levels layer layer
layered-old number level n levels layer has = record {
  each = refl;
  kept = λ f m is. is;
  reached = λ f is. (n, subst (λ k. HasLevel levels k n) (sym is) has);
  only = λ f m is. inl is;
  not_yet = λ f no. no;
  waiting = λ f is. is;
  listed = λ f is. inl is;
  fewer = refl;
}

-- ---- one kind after another

-- where there is nothing of a kind, all stays
pub layered-none : (Kind : ℕ → Type 0) (level : ℕ) (levels : List (Option ℕ)) (layer : List ℕ) → ((f : ℕ) → Kind f → ⊥) → Layered Kind level levels levels layer layer
layered-none Kind level levels layer nothing = record {
  each = refl;
  kept = λ f m is. is;
  reached = λ f of_kind. absurd (nothing f of_kind);
  only = λ f m is. inl is;
  not_yet = λ f no. no;
  waiting = λ f is. is;
  listed = λ f is. inl is;
  fewer = refl;
}

-- a kind, and then another, is both
pub layered-then : (Kind Next Both : ℕ → Type 0) (level : ℕ) (a b c : List (Option ℕ)) (first second third : List ℕ)
    → ((f : ℕ) → Kind f → Both f) → ((f : ℕ) → Next f → Both f) → ((f : ℕ) → Both f → Kind f ⊎ Next f)
    → Layered Kind level a b first second → Layered Next level b c second third → Layered Both level a c first third
layered-then Kind Next Both level a b c first second third left right cases one two = record {
  each = two.each ∙ one.each;
  kept = λ f n has. two.kept f n (one.kept f n has);
  reached = λ f both. either (cases f both) (λ kind. let it = one.reached f kind in (it.0, two.kept f it.0 it.1)) (two.reached f);
  only = λ f n has. either (two.only f n has)
      (λ before. either (one.only f n before) inl (λ new. inr (left f new.0, new.1, new.2, two.waiting f new.3)))
      (λ new. inr (right f new.0, new.1, one.not_yet f new.2, new.3));
  not_yet = λ f no. one.not_yet f (two.not_yet f no);
  waiting = λ f is. two.waiting f (one.waiting f is);
  listed = λ f is. either (two.listed f is)
      (λ before. either (one.listed f before) inl (λ new. inr (new.0, two.kept f level new.1)))
      (λ new. inr (one.not_yet f new.0, new.1));
  fewer = two.fewer ∙ one.fewer;
}

-- the same of a kind said in another way
pub layered-same : (Kind Same : ℕ → Type 0) (level : ℕ) (a b : List (Option ℕ)) (first second : List ℕ)
    → ((f : ℕ) → Kind f → Same f) → ((f : ℕ) → Same f → Kind f) → Layered Kind level a b first second → Layered Same level a b first second
layered-same Kind Same level a b first second to from one = record {
  each = one.each;
  kept = one.kept;
  reached = λ f same. one.reached f (from f same);
  only = λ f n has. either (one.only f n has) inl (λ new. inr (to f new.0, new.1, new.2, new.3));
  not_yet = one.not_yet;
  waiting = one.waiting;
  listed = one.listed;
  fewer = one.fewer;
}

-- ---- layer after layer

module _ (Root : ℕ → Type 0) (Leads : ℕ → ℕ → Type 0) where
  -- a number has one level
  pub one-level : (n m f : ℕ) → IsLevel Root Leads n f → IsLevel Root Leads m f → n ≡ m
  one-level n m f a b = let to = a.least m b.chain in let from = b.least n a.chain in omega arith

  -- what is of a level has an edge from what is of the level before
  pub level-leads : (n f : ℕ) → IsLevel Root Leads (suc n) f → (e : ℕ) × IsLevel Root Leads n e × Leads e f
  level-leads n f level =
      let chain : HasChain Root Leads (suc n) f = level.chain in
      (chain.0, record { chain = chain.1; least = λ m other. let both = level.least (suc m) (chain.0, other, chain.2) in omega arith }, chain.2)

  -- all up to a level have it, and those of this level stand in the layer
  pub record AreUpTo (level : ℕ) (levels : List (Option ℕ)) (layer : List ℕ) : Type 0 where
    pub right : (f n : ℕ) → HasLevel levels f n → IsLevel Root Leads n f × (n ≤ level)
    pub done : (n f : ℕ) → HasChain Root Leads n f → n ≤ level → (m : ℕ) × HasLevel levels f m
    pub in_layer : (f : ℕ) → Contains layer f → HasLevel levels f level
    pub of_level : (f : ℕ) → HasLevel levels f level → Contains layer f

  -- the roots are of level 0
  pub up-to-roots : (none levels : List (Option ℕ)) (layer : List ℕ) → ((f n : ℕ) → HasLevel none f n → ⊥)
      → Layered Root 0 none levels [] layer → AreUpTo 0 levels layer
  up-to-roots none levels layer empty step = record {
    right = λ f n has. either (step.only f n has) (λ old. absurd (empty f n old))
        (λ new. (subst (λ k. IsLevel Root Leads k f) (sym new.1) (record { chain = new.0; least = λ m chain. omega arith }), let is = new.1 in omega arith));
    done = roots;
    in_layer = λ f has. either (step.listed f has) (λ old. absurd (nothing-in f old)) (λ new. new.1);
    of_level = λ f has. either (step.only f 0 has) (λ old. absurd (empty f 0 old)) (λ new. new.3);
  }
    where
      roots : (n f : ℕ) → HasChain Root Leads n f → n ≤ 0 → (m : ℕ) × HasLevel levels f m
      roots zero f chain within = step.reached f chain
      roots (suc n) f chain within = absurd (omega arith)

  -- what the layer leads to is of the next level
  pub up-to-next : (level : ℕ) (a b : List (Option ℕ)) (layer next : List ℕ) → AreUpTo level a layer
      → Layered (λ g. (f : ℕ) × Contains layer f × Leads f g) (level + 1) a b [] next → AreUpTo (level + 1) b next
  up-to-next level a b layer next known step = record {
    right = λ f n has. either (step.only f n has)
        (λ old. let it = known.right f n old in (it.0, let h = it.1 in omega arith))
        (λ new. (subst (λ k. IsLevel Root Leads k f) (let is = new.1 in let e : suc level ≡ n = omega arith in e) (fresh f new.0 new.2), let is = new.1 in omega arith));
    done = all;
    in_layer = λ f has. either (step.listed f has) (λ old. absurd (nothing-in f old)) (λ new. new.1);
    of_level = λ f has. either (step.only f (level + 1) has)
        (λ old. absurd (let h = (known.right f (level + 1) old).1 in omega arith)) (λ new. new.3);
  }
    where
      fresh : (f : ℕ) → ((e : ℕ) × Contains layer e × Leads e f) → HasNoLevel a f → IsLevel Root Leads (suc level) f
      fresh f from none = record {
        chain = (from.0, (known.right from.0 level (known.in_layer from.0 from.1)).0.chain, from.2);
        least = λ m chain. either (cases_lt m (suc level))
            (λ below. absurd (let it = known.done m f chain (omega arith) in not-both a f it.0 it.1 none)) (λ past. past);
      }

      step_on : (e f : ℕ) → Leads e f → ((k : ℕ) × HasLevel a e k) → (m : ℕ) × HasLevel b f m
      step_on e f leads at =
          let it = known.right e at.0 at.1 in
          either (cases_eq at.0 level)
          (λ same. step.reached f (e, known.of_level e (subst (HasLevel a e) same at.1), leads))
          (λ differs. let earlier = known.done (suc at.0) f (e, it.0.chain, leads) (let h = it.1 in omega arith) in (earlier.0, step.kept f earlier.0 earlier.1))

      all : (n f : ℕ) → HasChain Root Leads n f → n ≤ level + 1 → (m : ℕ) × HasLevel b f m
      all zero f chain within = let it = known.done 0 f chain (omega arith) in (it.0, step.kept f it.0 it.1)
      all (suc n) f chain within = step_on chain.0 f chain.2 (known.done n chain.0 chain.1 (omega arith))

  -- where a layer is empty, all levels are known
  pub levels-known : (count level : ℕ) (levels : List (Option ℕ)) → length levels ≡ count → AreUpTo level levels [] → AreLevels Root Leads count levels
  levels-known count level levels each known = record {
    each = each;
    level = λ f n. (
      λ has. (known.right f n has).0,
      λ is.
          let it = all n f is.chain in
          subst (HasLevel levels f) (one-level it.0 n f (known.right f it.0 it.1).0 is) it.1,
    );
  }
    where
      all : (n f : ℕ) → HasChain Root Leads n f → (m : ℕ) × HasLevel levels f m
      all zero f chain = known.done 0 f chain (omega arith)
      all (suc n) f chain =
          let at = all n chain.0 chain.1 in
          let it = known.right chain.0 at.0 at.1 in
          either (cases_eq at.0 level)
          (λ same. absurd (nothing-in chain.0 (known.of_level chain.0 (subst (HasLevel levels chain.0) same at.1))))
          (λ differs. known.done (suc at.0) f (chain.0, it.0.chain, chain.2) (let h = it.1 in omega arith))

-- ---- roots and edges said in another way

-- a chain is one of whatever roots and edges follow
chain-along : (Root Root' : ℕ → Type 0) (Leads Leads' : ℕ → ℕ → Type 0) → ((f : ℕ) → Root f → Root' f) → ((f g : ℕ) → Leads f g → Leads' f g)
    → (n f : ℕ) → HasChain Root Leads n f → HasChain Root' Leads' n f
chain-along Root Root' Leads Leads' roots edges zero f root = roots f root
chain-along Root Root' Leads Leads' roots edges (suc n) f (e, chain, leads) = (e, chain-along Root Root' Leads Leads' roots edges n e chain, edges e f leads)

-- levels are those of any roots and edges which are the same
pub level-of-same : (Root Root' : ℕ → Type 0) (Leads Leads' : ℕ → ℕ → Type 0) → ((f : ℕ) → Root f ↔ Root' f) → ((f g : ℕ) → Leads f g ↔ Leads' f g)
    → (n f : ℕ) → IsLevel Root Leads n f → IsLevel Root' Leads' n f
level-of-same Root Root' Leads Leads' roots edges n f level = record {
  chain = chain-along Root Root' Leads Leads' (λ g. (roots g).0) (λ g k. (edges g k).0) n f level.chain;
  least = λ m chain. level.least m (chain-along Root' Root Leads' Leads (λ g. (roots g).1) (λ g k. (edges g k).1) m f chain);
}

-- so are lists of them
pub levels-of-same : (Root Root' : ℕ → Type 0) (Leads Leads' : ℕ → ℕ → Type 0) (count : ℕ) (levels : List (Option ℕ))
    → ((f : ℕ) → Root f ↔ Root' f) → ((f g : ℕ) → Leads f g ↔ Leads' f g) → AreLevels Root Leads count levels → AreLevels Root' Leads' count levels
levels-of-same Root Root' Leads Leads' count levels roots edges known = record {
  each = known.each;
  level = λ f n. (
    λ has. level-of-same Root Root' Leads Leads' roots edges n f ((known.level f n).0 has),
    λ is. (known.level f n).1 (level-of-same Root' Root Leads' Leads (λ g. ((roots g).1, (roots g).0)) (λ g k. ((edges g k).1, (edges g k).0)) n f is),
  );
}

-- ---- the kinds of the loops

-- the numbers of a list, and one more
pub layered-push : (xs : List ℕ) (x level : ℕ) (a b c : List (Option ℕ)) (first second third : List ℕ)
    → Layered (Contains xs) level a b first second → Layered (λ g. g ≡ x) level b c second third → Layered (Contains (xs ++ x ∷ [])) level a c first third
layered-push xs x level a b c first second third one two = layered-then (Contains xs) (λ g. g ≡ x) (Contains (xs ++ x ∷ [])) level a b c first second third
    (λ f has. Contains-append_left xs (x ∷ []) f has)
    (λ f is. subst (Contains (xs ++ x ∷ [])) (sym is) (Contains-push xs x))
    (λ f has. either (Contains-push_cases xs x f has) inl (λ is. inr (sym is)))
    one two

-- what numbers of a list lead to, and what one more leads to
pub layered-row : (graph : Graph) (xs : List ℕ) (x : ℕ) (row : Vec ℕ Global) (level : ℕ) (a b c : List (Option ℕ)) (first second third : List ℕ)
    → slice_get graph x ≡ Some row
    → Layered (λ g. (f : ℕ) × Contains xs f × Leads graph f g) level a b first second → Layered (Contains row.items) level b c second third
    → Layered (λ g. (f : ℕ) × Contains (xs ++ x ∷ []) f × Leads graph f g) level a c first third
layered-row graph xs x row level a b c first second third at one two =
    layered-then (λ g. (f : ℕ) × Contains xs f × Leads graph f g) (Contains row.items) (λ g. (f : ℕ) × Contains (xs ++ x ∷ []) f × Leads graph f g) level a b c first second third
    (λ g from. (from.0, Contains-append_left xs (x ∷ []) from.0 from.1, from.2))
    (λ g has. (x, Contains-push xs x, (row, at, has)))
    (λ g from. either (Contains-push_cases xs x from.0 from.1)
    (λ before. inl (from.0, before, from.2))
    (λ is. inr (let P : Vec ℕ Global → Type 0 = λ r. Contains r.items g in
    subst P (some-inj (sym from.2.1 ∙ ap (slice_get graph) (sym is) ∙ at)) from.2.2)))
    one two

-- a root more
pub layered-root : (roots : List Bool) (i level : ℕ) (a b c : List (Option ℕ)) (first second third : List ℕ) → is_marked roots i ≡ true
    → Layered (λ f. (f < i) × IsMarked roots f) level a b first second → Layered (λ g. g ≡ i) level b c second third
    → Layered (λ f. (f < i + 1) × IsMarked roots f) level a c first third
layered-root roots i level a b c first second third marked one two =
    layered-then (λ f. (f < i) × IsMarked roots f) (λ g. g ≡ i) (λ f. (f < i + 1) × IsMarked roots f) level a b c first second third
    (λ f it. (let h = it.0 in omega arith, it.1))
    (λ f is. (omega arith, subst (IsMarked roots) (sym is) marked))
    (λ f it. either (cases_eq f i) inr (λ differs. inl (let h = it.0 in omega arith, it.1)))
    one two

-- a number that is no root
pub layered-no_root : (roots : List Bool) (i level : ℕ) (a b : List (Option ℕ)) (first second : List ℕ) → is_marked roots i ≡ false
    → Layered (λ f. (f < i) × IsMarked roots f) level a b first second → Layered (λ f. (f < i + 1) × IsMarked roots f) level a b first second
layered-no_root roots i level a b first second unmarked one =
    layered-same (λ f. (f < i) × IsMarked roots f) (λ f. (f < i + 1) × IsMarked roots f) level a b first second
    (λ f it. (let h = it.0 in omega arith, it.1))
    (λ f it. either (cases_eq f i)
    (λ same. absurd (let both : true ≡ false = sym it.1 ∙ ap (is_marked roots) same ∙ unmarked in cc))
    (λ differs. (let h = it.0 in omega arith, it.1)))
    one

-- what is marked is among the marks
pub marked-within : (marks : List Bool) (f : ℕ) → IsMarked marks f → f < length marks
marked-within [] f marked = absurd cc
marked-within (m ∷ marks) zero marked = omega arith
marked-within (m ∷ marks) (suc f) marked = let within = marked-within marks f marked in omega arith

-- in a list of nothing, nothing has a level
pub none-listed : (k f n : ℕ) → HasLevel (replicate k None) f n → ⊥
none-listed zero f n has = absurd cc
none-listed (suc k) zero n has = absurd cc
none-listed (suc k) (suc f) n has = none-listed k f n has

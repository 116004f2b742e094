-- What the seats hold of the core's lists, as seats step, come and go.
use mathlib.Core.Option.{some, some-injective, some-ne-none}
use mathlib.Core.Logic.{dite}
use native.Mathlib.Decide.{ℕ_discrete}
use lib.ListN.{get_elem?}
use Rattle.std.proofs.Common.{◌⊎◌, inl, inr, ⊎_elim, ne_eqb, eq-eqb, zero, suc, ◌≡◌, ◌≢◌, ℕ, List, [], ◌∷◌, ◌++◌, sym, refl, ap, ◌∙◌, subst, set, map, cond, get_or-set_same, get_or-set_other}
use Rattle.std.specs.Prelude.{◌==◌, IsPermutation, Contains}
use Rattle.std.specs.List.{filter}
use Rattle.std.proofs.lemmas.List.Sorted.{IsPermutation-refl, IsPermutation-sym, IsPermutation-cons, IsPermutation-trans, IsPermutation-append, IsPermutation-middle}
use Rattle.link_closure.specs.declared.workload.Workload.{Workload}
use Rattle.link_claim.specs.declared.view.View.{View}
use Rattle.link_claim.specs.Rule.{seat_at, held}
use Rattle.link_claim.specs.Views.{first_view}
use Rattle.link_closure.proofs.Joins.{contains_here, contains_later, contains_cases, contains_none}
use Rattle.link_claim.proofs.Views.{index_of}

-- ---- the seat of a number

-- a view by its number
pub seat_is : (w : Workload) (vs : List View) (id : ℕ) (v : View) → get_elem? vs id ≡ some v → seat_at w vs id ≡ v
seat_is w [] id v at = absurd (some-ne-none v (sym at))
seat_is w (x ∷ xs) zero v at = some-injective x v at
seat_is w (x ∷ xs) (suc id) v at = seat_is w xs id v at

-- the seats after one changes
pub seat_set : (w : Workload) (vs : List View) (id : ℕ) (v u : View) → get_elem? vs id ≡ some v → (j : ℕ) → ((j ≡ id) × (seat_at w (set vs id u) j ≡ u)) ⊎ ((j ≢ id) × (seat_at w (set vs id u) j ≡ seat_at w vs j))
seat_set w vs id v u at j = dite (ℕ_discrete j id)
    (λ (e : j ≡ id). inl (e, ap (seat_at w (set vs id u)) e ∙ get_or-set_same vs id u (first_view w) (index_of vs id v at)))
    (λ (ne : j ≢ id). inr (ne, get_or-set_other vs id j u (first_view w) ne))

-- the seats after one came
pub seat_snoc : (w : Workload) (vs : List View) (u : View) (j : ℕ) → (seat_at w (vs ++ u ∷ []) j ≡ seat_at w vs j) ⊎ ((seat_at w (vs ++ u ∷ []) j ≡ u) × (seat_at w vs j ≡ first_view w))
seat_snoc w [] u zero = inr (refl, refl)
seat_snoc w [] u (suc j) = inl refl
seat_snoc w (x ∷ xs) u zero = inl refl
seat_snoc w (x ∷ xs) u (suc j) = seat_snoc w xs u j

-- what two lists hold is the same, if the second is
same_list : {X : Type 0} (xs ys zs : List X) → IsPermutation xs ys → ys ≡ zs → IsPermutation xs zs
same_list xs ys zs p e = subst (IsPermutation xs) e p

-- who holds what once the seat `id` takes over from another
abbrev pub passed_on : (id other : ℕ) → (ℕ → ℕ) → ℕ → ℕ
passed_on id other holder k = cond (holder k == other) id (holder k)

-- what the other held passes on
pub passed_other : (id other : ℕ) (holder : ℕ → ℕ) (k : ℕ) → holder k ≡ other → passed_on id other holder k ≡ id
passed_other id other holder k is = ap (λ b. cond b id (holder k)) (eq-eqb (holder k) other is)

-- the rest stays
pub passed_else : (id other : ℕ) (holder : ℕ → ℕ) (k : ℕ) → holder k ≢ other → passed_on id other holder k ≡ holder k
passed_else id other holder k apart = ap (λ b. cond b id (holder k)) (ne_eqb (holder k) other apart)

module _ {E X : Type 0} (worker : E → ℕ) (named : E → X) (holder : ℕ → ℕ) where
  -- one more event of a worker whose holder is the seat
  held_own : (id : ℕ) (e : E) (es : List E) → holder (worker e) ≡ id → held worker named holder id (e ∷ es) ≡ named e ∷ held worker named holder id es
  held_own id e es own = ap (λ b. map named (cond b (e ∷ filter (λ k. holder (worker k) == id) es) (filter (λ k. holder (worker k) == id) es))) (eq-eqb (holder (worker e)) id own)

  -- one more of another's
  held_other : (id : ℕ) (e : E) (es : List E) → holder (worker e) ≢ id → held worker named holder id (e ∷ es) ≡ held worker named holder id es
  held_other id e es apart = ap (λ b. map named (cond b (e ∷ filter (λ k. holder (worker k) == id) es) (filter (λ k. holder (worker k) == id) es))) (ne_eqb (holder (worker e)) id apart)

  -- what a worker did is held by its holder
  pub held_has : (e : E) (es : List E) → Contains es e → Contains (held worker named holder (holder (worker e)) es) (named e)
  held_has e [] has = contains_none e has
  held_has e (x ∷ xs) has = ⊎_elim
      (λ (is : x ≡ e). subst (λ l. Contains l (named e)) (sym (held_own (holder (worker e)) x xs (ap (λ k. holder (worker k)) is))) (subst (λ k. Contains (named x ∷ held worker named holder (holder (worker e)) xs) (named k)) is (contains_here (named x) _)))
      (λ later. dite (ℕ_discrete (holder (worker x)) (holder (worker e)))
      (λ same. subst (λ l. Contains l (named e)) (sym (held_own (holder (worker e)) x xs same)) (contains_later (named x) (named e) _ (held_has e xs later)))
      (λ apart. subst (λ l. Contains l (named e)) (sym (held_other (holder (worker e)) x xs apart)) (held_has e xs later)))
      (contains_cases x e xs has)

  module _ (list : View → List X) (w : Workload) (es : List E) (views : List View) (were : (j : ℕ) → IsPermutation (held worker named holder j es) (list (seat_at w views j))) where
    -- a view changes, and lists the same
    pub held_same : (id : ℕ) (v u : View) → get_elem? views id ≡ some v → list u ≡ list v → (j : ℕ) → IsPermutation (held worker named holder j es) (list (seat_at w (set views id u) j))
    held_same id v u at same j = same_list _ _ _ (were j) (⊎_elim
        (λ (t : (j ≡ id) × (seat_at w (set views id u) j ≡ u)). ap (λ k. list (seat_at w views k)) t.0 ∙ ap list (seat_is w views id v at) ∙ sym same ∙ ap list (sym t.1))
        (λ (t : (j ≢ id) × (seat_at w (set views id u) j ≡ seat_at w views j)). ap list (sym t.1))
        (seat_set w views id v u at j))

    -- a seat steps: the event is its own, and its view lists it
    pub held_more : (id : ℕ) (v u : View) (e : E) → get_elem? views id ≡ some v → holder (worker e) ≡ id → list u ≡ named e ∷ list v → (j : ℕ) → IsPermutation (held worker named holder j (e ∷ es)) (list (seat_at w (set views id u) j))
    held_more id v u e at own more j = ⊎_elim
        (λ (t : (j ≡ id) × (seat_at w (set views id u) j ≡ u)).
        let now : list (seat_at w (set views id u) j) ≡ named e ∷ list (seat_at w views j) = ap list t.1 ∙ more ∙ ap (λ z. named e ∷ list z) (sym (seat_is w views id v at)) ∙ ap (λ k. named e ∷ list (seat_at w views k)) (sym t.0) in
        subst (λ l. IsPermutation l (list (seat_at w (set views id u) j))) (sym (held_own j e es (own ∙ sym t.0)))
        (same_list _ _ _ (IsPermutation-cons (named e) _ _ (were j)) (sym now)))
        (λ (t : (j ≢ id) × (seat_at w (set views id u) j ≡ seat_at w views j)).
        subst (λ l. IsPermutation l (list (seat_at w (set views id u) j))) (sym (held_other j e es (λ is. t.0 (sym is ∙ own))))
        (same_list _ _ _ (were j) (ap list (sym t.1))))
        (seat_set w views id v u at j)

    -- a seat comes, and lists nothing
    pub held_new : (u : View) → list u ≡ list (first_view w) → (j : ℕ) → IsPermutation (held worker named holder j es) (list (seat_at w (views ++ u ∷ []) j))
    held_new u none j = same_list _ _ _ (were j) (⊎_elim
        (λ (same : seat_at w (views ++ u ∷ []) j ≡ seat_at w views j). ap list (sym same))
        (λ (t : (seat_at w (views ++ u ∷ []) j ≡ u) × (seat_at w views j ≡ first_view w)). ap list t.1 ∙ sym none ∙ ap list (sym t.0))
        (seat_snoc w views u j))

module _ {E X : Type 0} (worker : E → ℕ) (named : E → X) (holder : ℕ → ℕ) (id other : ℕ) (apart : other ≢ id) where
  -- the one holds what both held
  both_held : (es : List E) → IsPermutation (held worker named (passed_on id other holder) id es) (held worker named holder id es ++ held worker named holder other es)
  both_held [] = IsPermutation-refl []
  both_held (e ∷ es) =
      let k : ℕ = worker e in
      let next : ℕ → ℕ = passed_on id other holder in
      let mine : List X = held worker named holder id es in
      let its : List X = held worker named holder other es in
      let ours : List X = held worker named next id es in
      let before = both_held es in
      dite (ℕ_discrete (holder k) other)
      (λ (is : holder k ≡ other).
      let left = held_own worker named next id e es (passed_other id other holder k is) in
      let skip = held_other worker named holder id e es (λ own. apart (sym is ∙ own)) in
      let own = held_own worker named holder other e es is in
      subst (λ (z : List X × List X × List X). IsPermutation z.0 (z.1 ++ z.2)) (λ i. (sym left i, sym skip i, sym own i))
      (IsPermutation-trans (named e ∷ ours) (named e ∷ (mine ++ its)) (mine ++ named e ∷ its) (IsPermutation-cons (named e) ours (mine ++ its) before) (IsPermutation-sym (mine ++ named e ∷ its) (named e ∷ (mine ++ its)) (IsPermutation-middle mine (named e) its))))
      (λ (no : holder k ≢ other).
      let stays = passed_else id other holder k no in
      let skip = held_other worker named holder other e es no in
      dite (ℕ_discrete (holder k) id)
      (λ (is : holder k ≡ id).
      let left = held_own worker named next id e es (stays ∙ is) in
      let own = held_own worker named holder id e es is in
      subst (λ (z : List X × List X × List X). IsPermutation z.0 (z.1 ++ z.2)) (λ i. (sym left i, sym own i, sym skip i))
      (IsPermutation-cons (named e) ours (mine ++ its) before))
      (λ (none : holder k ≢ id).
      let left = held_other worker named next id e es (λ is. none (sym stays ∙ is)) in
      let own = held_other worker named holder id e es none in
      subst (λ (z : List X × List X × List X). IsPermutation z.0 (z.1 ++ z.2)) (λ i. (sym left i, sym own i, sym skip i)) before))

  -- the other holds nothing
  none_held : (es : List E) → held worker named (passed_on id other holder) other es ≡ []
  none_held [] = refl
  none_held (e ∷ es) =
      let k : ℕ = worker e in
      held_other worker named (passed_on id other holder) other e es (dite (ℕ_discrete (holder k) other)
      (λ (is : holder k ≡ other) e. apart (sym e ∙ passed_other id other holder k is))
      (λ (no : holder k ≢ other) e. no (sym (passed_else id other holder k no) ∙ e))) ∙ none_held es

  -- a third holds what it held
  third_held : (j : ℕ) → j ≢ id → j ≢ other → (es : List E) → held worker named (passed_on id other holder) j es ≡ held worker named holder j es
  third_held j not_id not_other [] = refl
  third_held j not_id not_other (e ∷ es) =
      let k : ℕ = worker e in
      let next : ℕ → ℕ = passed_on id other holder in
      let before = third_held j not_id not_other es in
      dite (ℕ_discrete (holder k) other)
      (λ (is : holder k ≡ other). held_other worker named next j e es (λ own. not_id (sym own ∙ passed_other id other holder k is)) ∙ before ∙ sym (held_other worker named holder j e es (λ own. not_other (sym own ∙ is))))
      (λ (no : holder k ≢ other).
      let stays = passed_else id other holder k no in
      dite (ℕ_discrete (holder k) j)
      (λ (is : holder k ≡ j). held_own worker named next j e es (stays ∙ is) ∙ ap (λ l. named e ∷ l) before ∙ sym (held_own worker named holder j e es is))
      (λ (none : holder k ≢ j). held_other worker named next j e es (λ is. none (sym stays ∙ is)) ∙ before ∙ sym (held_other worker named holder j e es none)))

  -- each view lists what its seat holds
  pub held_joined : (list : View → List X) (w : Workload) (es : List E) (views : List View) → ((j : ℕ) → IsPermutation (held worker named holder j es) (list (seat_at w views j)))
      → (v u both spent : View) → get_elem? views id ≡ some v → get_elem? views other ≡ some u → get_elem? (set views id both) other ≡ some u → list both ≡ list v ++ list u → list spent ≡ []
      → (j : ℕ) → IsPermutation (held worker named (passed_on id other holder) j es) (list (seat_at w (set (set views id both) other spent) j))
  held_joined list w es views were v u both spent at there there_still sum none j =
      let next : ℕ → ℕ = passed_on id other holder in
      let ours : List X = held worker named next id es in
      let after : List View = set (set views id both) other spent in
      let mine : IsPermutation (held worker named holder id es) (list v) = same_list _ _ (list v) (were id) (ap list (seat_is w views id v at)) in
      let its : IsPermutation (held worker named holder other es) (list u) = same_list _ _ (list u) (were other) (ap list (seat_is w views other u there)) in
      ⊎_elim
      (λ (t : (j ≡ other) × (seat_at w after j ≡ spent)).
      let left : held worker named next j es ≡ list (seat_at w after j) = ap (λ k. held worker named next k es) t.0 ∙ none_held es ∙ sym none ∙ ap list (sym t.1) in
      subst (IsPermutation (held worker named next j es)) left (IsPermutation-refl (held worker named next j es)))
      (λ (t : (j ≢ other) × (seat_at w after j ≡ seat_at w (set views id both) j)). ⊎_elim
      (λ (r : (j ≡ id) × (seat_at w (set views id both) j ≡ both)).
      let lists : list v ++ list u ≡ list (seat_at w after j) = sym sum ∙ ap list (sym (t.1 ∙ r.1)) in
      let all = IsPermutation-trans ours (held worker named holder id es ++ held worker named holder other es) (list v ++ list u) (both_held es) (IsPermutation-append _ _ _ _ mine its) in
      subst (λ k. IsPermutation (held worker named next k es) (list (seat_at w after j))) (sym r.0) (same_list ours (list v ++ list u) (list (seat_at w after j)) all lists))
      (λ (r : (j ≢ id) × (seat_at w (set views id both) j ≡ seat_at w views j)).
      subst (λ l. IsPermutation l (list (seat_at w after j))) (sym (third_held j r.0 t.0 es)) (same_list _ _ (list (seat_at w after j)) (were j) (ap list (sym (t.1 ∙ r.1)))))
      (seat_set w views id v both at j))
      (seat_set w (set views id both) other u spent there_still j)

-- The loaded objects make a claim that holds: the rank of each is its level.
use Rattle.std.proofs.Common.{◌≡◌, ◌⊎◌, ℕ, zero, suc, ◌+◌, ◌<◌, ◌≤◌, List, [], ◌∷◌, length, Bool, true, false, refl, sym, ◌∙◌, ap, subst, arith, Some, None, Option, Contains, slice_get, IsTrue, inl, inr}
use Rattle.std.specs.Prelude.{◌&&◌, All, MatchOption}
use Rattle.std.specs.List.{enumerate_from, list_any}
use Rattle.std.proofs.lemmas.Bool.{cases_Bool, cases_eq}
use Rattle.std.proofs.lemmas.List.Elements.{All-cons, All-contains, All-nil, All-weaker}
use Rattle.link_closure.specs.Closure.{IsLeastClosed, is_marked}
use Rattle.link_closure.specs.Levels.{HasChain, IsLevel}
use Rattle.link_closure.proofs.Layers.{level-of-same, marked-within}
use Rattle.link_closure.proofs.Least.{least_of_same}
use Rattle.link_closure.proofs.Reaching.{chain-in_closed, level-of-marked}
use Rattle.link_input.specs.Symbols.{Symbol, object_in}
use Rattle.link_rules.specs.Loading.{HasEdge, IsLoaded, IsRoot, is_root, request_of}
use Rattle.link_rules.specs.Places.{is_number}
use Rattle.link_rules.specs.World.{Stage}
use Rattle.link_rules.proofs.Explaining.{and-both, is_number-true, true-is_number}
use Rattle.link_rules.proofs.Members.{at_place, numbered_in, placed}
use Rattle.link_rules.proofs.Rounds.{any-found, found-any}
use Rattle.link_rules.proofs.Settled.{both_true, here, there}
use Rattle.link_rules.proofs.Twice.{numbered_at}
use Rattle.link_check_claims.specs.declared.claim.ClaimedObject.{ClaimedObject}
use Rattle.link_check_claims.specs.Claims.{AreLoaded, AreRising, IsGrounded, IsReferredBy, is_claimed}
use Rattle.link_check_claims.proofs.Holding.{claimed-in, in-claimed}

module _ (w : Stage) where
  -- ---- edges as a test

  abbrev asks : ℕ → ℕ → ℕ × Symbol → Bool
  asks f g q = is_number (object_in q.1.origin) f && is_number (request_of w q.0 q.1) g

  abbrev leads : ℕ → ℕ → Bool
  leads f g = list_any (asks f g) (enumerate_from 0 w.symbols)

  edge-leads : (f g : ℕ) → HasEdge w f g → IsTrue (leads f g)
  edge-leads f g (s, u, at, in_it, is) =
      let same : s ≡ 0 + s = omega arith in
      let place = placed (enumerate_from 0 w.symbols) (s, u) (numbered_in 0 w.symbols s s u at same) in
      found-any (asks f g) (enumerate_from 0 w.symbols) place.0 (s, u) place.1
      (and-both (is_number (object_in u.origin) f) (is_number (request_of w s u) g) (true-is_number (object_in u.origin) f in_it) (true-is_number (request_of w s u) g is))

  leads-edge : (f g : ℕ) → IsTrue (leads f g) → HasEdge w f g
  leads-edge f g is =
      let it = any-found (asks f g) (enumerate_from 0 w.symbols) is in
      let q : ℕ × Symbol = it.1 in
      let stands = numbered_at 0 w.symbols q (at_place (enumerate_from 0 w.symbols) it.0 q it.2) in
      let same : stands.0 ≡ q.0 = let h = stands.2 in omega arith in
      let both = both_true (is_number (object_in q.1.origin) f) (is_number (request_of w q.0 q.1) g) it.3 in (
        q.0,
        q.1,
        subst (λ k. slice_get w.symbols k ≡ Some q.1) same stands.1,
        is_number-true (object_in q.1.origin) f both.0,
        is_number-true (request_of w q.0 q.1) g both.1,
      )

  -- how few references lead to the object
  abbrev AtLevel : ℕ → ℕ → Type 0
  AtLevel n f = IsLevel (IsRoot w) (HasEdge w) n f

  module _ (marks : List Bool) (least : IsLoaded w marks) where
    level-of-loaded : (f : ℕ) → IsTrue (is_marked marks f) → (n : ℕ) × AtLevel n f
    level-of-loaded f marked =
        let tested : IsLeastClosed (λ g. IsTrue (is_root w g)) (λ g h. IsTrue (leads g h)) (length w.objects) marks =
        least_of_same (IsRoot w) (λ g. IsTrue (is_root w g)) (HasEdge w) (λ g h. IsTrue (leads g h)) (length w.objects) marks
        (λ g. (λ is. is, λ is. is)) (λ g h. (edge-leads g h, leads-edge g h)) least in
        let level = level-of-marked (is_root w) leads (length w.objects) marks tested f marked in (
          level.0,
          level-of-same (λ g. IsTrue (is_root w g)) (IsRoot w) (λ g h. IsTrue (leads g h)) (HasEdge w)
              (λ g. (λ is. is, λ is. is)) (λ g h. (leads-edge g h, edge-leads g h)) level.0 f level.2,
        )

    -- ---- one object

    -- a reference of an object that is fewer references away
    abbrev IsNearer : ℕ → ℕ → ℕ → Type 0
    IsNearer f rank s = (u : Symbol) × (e m : ℕ)
        × (slice_get w.symbols s ≡ Some u) × (object_in u.origin ≡ Some e) × (request_of w s u ≡ Some f)
        × HasChain (IsRoot w) (HasEdge w) m e × (m < rank)

    record IsMade (o : ClaimedObject) : Type 0 where
      marked : IsTrue (is_marked marks o.object)
      level : AtLevel o.rank o.object
      reason : MatchOption o.by (IsRoot w o.object) (IsNearer o.object o.rank)

    made : (f : ℕ) → IsTrue (is_marked marks f) → (o : ClaimedObject) × (o.object ≡ f) × IsMade o
    made f marked = let level = level-of-loaded f marked in by-level level.0 level.1 level.1.chain
      where
        by-level : (n : ℕ) → AtLevel n f → HasChain (IsRoot w) (HasEdge w) n f → (o : ClaimedObject) × (o.object ≡ f) × IsMade o
        by-level zero level root = (record { object = f; rank = 0; by = None }, refl, record { marked = marked; level = level; reason = root })
        by-level (suc m) level (e, chain, (s, u, at, stands, is)) = (
          record { object = f; rank = suc m; by = Some s },
          refl,
          record { marked = marked; level = level; reason = (u, e, m, at, stands, is, chain, omega arith) },
        )

    -- ---- all objects

    record AreMade (i n : ℕ) (loaded : List ClaimedObject) : Type 0 where
      behind : All (λ o. i ≤ o.object) loaded
      rising : AreRising loaded
      each : All IsMade loaded
      covers : (f : ℕ) → i ≤ f → f < i + n → IsTrue (is_marked marks f) → (o : ClaimedObject) × Contains loaded o × (o.object ≡ f)

    later : (i j : ℕ) (loaded : List ClaimedObject) → i ≤ j → All (λ o. j ≤ o.object) loaded → All (λ o. i ≤ o.object) loaded
    later i j loaded before all =
        All-weaker (λ (o : ClaimedObject). j ≤ o.object) (λ (o : ClaimedObject). i ≤ o.object) (λ o more. omega (arith, before, more)) loaded all

    past : (i : ℕ) (loaded : List ClaimedObject) (x : ClaimedObject) → x.object ≡ i → All (λ o. i + 1 ≤ o.object) loaded → All (λ o. x.object < o.object) loaded
    past i loaded x is all =
        All-weaker (λ (o : ClaimedObject). i + 1 ≤ o.object) (λ (o : ClaimedObject). x.object < o.object) (λ o more. omega (arith, is, more)) loaded all

    all-made : (n i : ℕ) → (loaded : List ClaimedObject) × AreMade i n loaded
    all-made zero i = ([], record { behind = All-nil (λ (o : ClaimedObject). i ≤ o.object); rising = tt; each = All-nil IsMade; covers = λ f from to marked. absurd (omega (arith, from, to)) })
    all-made (suc n) i = by-mark (cases_Bool (is_marked marks i)) (all-made n (i + 1))
      where
        by-mark : ((is_marked marks i ≡ true) ⊎ (is_marked marks i ≡ false)) → (loaded : List ClaimedObject) × AreMade (i + 1) n loaded
            → (loaded : List ClaimedObject) × AreMade i (suc n) loaded
        by-mark (inl marked) (rest, are) =
            let one = made i marked in (
              one.0 ∷ rest,
              record {
                behind = All-cons (λ (o : ClaimedObject). i ≤ o.object) one.0 rest (let is = one.1 in omega (arith, is)) (later i (i + 1) rest (omega arith) are.behind);
                rising = (past i rest one.0 one.1 are.behind, are.rising);
                each = All-cons IsMade one.0 rest one.2 are.each;
                covers = λ f from to is. elim (cases_eq f i) [
                  | inl same ↦ (one.0, here one.0 rest, one.1 ∙ sym same)
                  | inr other ↦ (let it = are.covers f (omega (arith, from, other)) (omega (arith, to)) is in (it.0, there one.0 rest it.0 it.1, it.2))
                ];
              },
            )
        by-mark (inr not) (rest, are) = (
          rest,
          record {
            behind = later i (i + 1) rest (omega arith) are.behind;
            rising = are.rising;
            each = are.each;
            covers = λ f from to is. elim (cases_eq f i) [
              | inl same ↦ absurd (let both : true ≡ false = sym is ∙ (ap (is_marked marks) same ∙ not) in cc)
              | inr other ↦ are.covers f (omega (arith, from, other)) (omega (arith, to)) is
            ];
          },
        )

    -- ---- the claim

    module _ (loaded : List ClaimedObject) (are : AreMade 0 (length w.objects) loaded) where
      covered : (f : ℕ) → IsTrue (is_marked marks f) → (o : ClaimedObject) × Contains loaded o × (o.object ≡ f)
      covered f marked = are.covers f (omega arith) (let within = marked-within marks f marked in let each = least.each in omega (arith, within, each)) marked

      grounded-by : (f rank : ℕ) (by : Option ℕ) → MatchOption by (IsRoot w f) (IsNearer f rank) → MatchOption by (IsRoot w f) (IsReferredBy w loaded f rank)
      grounded-by f rank None root = root
      grounded-by f rank (Some s) (u, e, m, at, stands, asks, chain, near) =
          let from = covered e (chain-in_closed (IsRoot w) (HasEdge w) (is_marked marks) least.closed m e chain) in
          let it = of-list from.0 from.1 in
          let few = it.level.least m (subst (λ k. HasChain (IsRoot w) (HasEdge w) m k) (sym from.2) chain) in
          (u, from.0, at, stands ∙ ap (λ k. Some k) (sym from.2), asks, from.1, omega (arith, few, near))
        where
          of-list : (o : ClaimedObject) → Contains loaded o → IsMade o
          of-list o within = All-contains IsMade loaded o are.each within

      all-grounded : All (IsGrounded w loaded) loaded
      all-grounded = All-weaker IsMade (IsGrounded w loaded) (λ o is. grounded-by o.object o.rank o.by is.reason) loaded are.each

      to-marked : (f : ℕ) → IsTrue (is_claimed loaded f) → IsTrue (is_marked marks f)
      to-marked f is =
          let it = claimed-in loaded f is in
          subst (λ k. IsTrue (is_marked marks k)) it.2 (All-contains IsMade loaded it.0 are.each it.1).marked

      from-marked : (f : ℕ) → IsTrue (is_marked marks f) → IsTrue (is_claimed loaded f)
      from-marked f marked = let it = covered f marked in subst (λ k. IsTrue (is_claimed loaded k)) it.2 (in-claimed loaded it.0 it.1)

      are-loaded : AreLoaded w loaded
      are-loaded = record {
        rising = are.rising;
        grounded = all-grounded;
        closed = (
          λ f root. from-marked f (least.closed.0 f root),
          λ f g held edge. from-marked g (least.closed.1 f g (to-marked f held) edge),
        );
      }

    pub some-loaded : (loaded : List ClaimedObject) × AreLoaded w loaded
    some-loaded = let all = all-made (length w.objects) 0 in (all.0, are-loaded all.0 all.1)

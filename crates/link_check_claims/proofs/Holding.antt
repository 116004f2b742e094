-- The objects of a claim that holds are those that are loaded.
use Rattle.std.proofs.Common.{◌≡◌, ℕ, zero, suc, ◌<◌, List, length, Bool, true, false, refl, sym, ◌∙◌, subst, arith, Some, None, Option, Contains, get_or, ext_get_or, IsTrue}
use Rattle.std.specs.Prelude.{MatchOption, ◌==◌}
use Rattle.std.proofs.lemmas.Bool.{eqb-true, eq-eqb}
use Rattle.std.proofs.lemmas.List.Elements.{All-contains}
use Rattle.std.proofs.lemmas.List.FromFn.{get_or-map-range_with_len, length-map-range_with_len}
use Rattle.link_closure.specs.Closure.{IsClosed, is_marked}
use Rattle.link_rules.specs.Loading.{HasEdge, IsLoaded, IsRoot}
use Rattle.link_rules.specs.World.{Stage}
use Rattle.link_rules.proofs.Members.{at_place, placed}
use Rattle.link_rules.proofs.Rounds.{any-found, found-any}
use Rattle.link_check_claims.specs.declared.claim.ClaimedObject.{ClaimedObject}
use Rattle.link_check_claims.specs.Claims.{AreLoaded, IsGrounded, IsReferredBy, claimed_marks, is_claimed}

-- what is claimed stands in the list
pub claimed-in : (loaded : List ClaimedObject) (f : ℕ) → IsTrue (is_claimed loaded f) → (o : ClaimedObject) × Contains loaded o × (o.object ≡ f)
claimed-in loaded f is =
    let it = any-found (λ (o : ClaimedObject). o.object == f) loaded is in
    (it.1, at_place loaded it.0 it.1 it.2, eqb-true it.1.object f it.3)

pub in-claimed : (loaded : List ClaimedObject) (o : ClaimedObject) → Contains loaded o → IsTrue (is_claimed loaded o.object)
in-claimed loaded o within =
    let place = placed loaded o within in
    found-any (λ (p : ClaimedObject). p.object == o.object) loaded place.0 o place.1 (eq-eqb o.object o.object refl)

module _ (w : Stage) (loaded : List ClaimedObject) (are : AreLoaded w loaded) where
  module _ (other : ℕ → Bool) (closed : IsClosed (IsRoot w) (HasEdge w) other) where
    -- what has a reason is in each closed set, where that is so of smaller ranks
    held-by : (f rank : ℕ) (by : Option ℕ) → ((from : ClaimedObject) → Contains loaded from → from.rank < rank → IsTrue (other from.object))
        → MatchOption by (IsRoot w f) (IsReferredBy w loaded f rank) → IsTrue (other f)
    held-by f rank None below root = closed.0 f root
    held-by f rank (Some s) below (u, from, at, stands, asks, listed, smaller) =
        closed.1 from.object f (below from listed smaller) (s, u, at, stands, asks)

    -- what is claimed is in each closed set: a reference leads back to a smaller rank
    held-below : (n : ℕ) (o : ClaimedObject) → Contains loaded o → o.rank < n → IsTrue (other o.object)
    held-below zero o within less = absurd (omega (arith, less))
    held-below (suc n) o within less =
        held-by o.object o.rank o.by (λ from listed smaller. held-below n from listed (omega (arith, less, smaller)))
        (All-contains (IsGrounded w loaded) loaded o are.grounded within)

    pub claimed-held : (f : ℕ) → IsTrue (is_claimed loaded f) → IsTrue (other f)
    claimed-held f is =
        let it = claimed-in loaded f is in
        subst (λ n. IsTrue (other n)) it.2 (held-below (suc it.0.rank) it.0 it.1 (omega arith))

  module _ (marks : List Bool) (least : IsLoaded w marks) where
    pub claimed-marked : (f : ℕ) → IsTrue (is_claimed loaded f) → IsTrue (is_marked marks f)
    claimed-marked = claimed-held (is_marked marks) least.closed

    pub marked-claimed : (f : ℕ) → IsTrue (is_marked marks f) → IsTrue (is_claimed loaded f)
    marked-claimed = least.least (is_claimed loaded) are.closed

    -- so their marks are those of the loaded objects
    pub marks-loaded : claimed_marks w loaded ≡ marks
    marks-loaded =
        ext_get_or false (claimed_marks w loaded) marks
        (length-map-range_with_len (is_claimed loaded) 0 (length w.objects) ∙ sym least.each)
        (λ f lt. mark-same f (let count = length-map-range_with_len (is_claimed loaded) 0 (length w.objects) in omega (arith, lt, count)))
      where
        same-truth : (a b : Bool) → (IsTrue a → IsTrue b) → (IsTrue b → IsTrue a) → a ≡ b
        same-truth true b into from = sym (into refl)
        same-truth false true into from = from refl
        same-truth false false into from = refl

        mark-same : (f : ℕ) → f < length w.objects → get_or (claimed_marks w loaded) f false ≡ get_or marks f false
        mark-same f lt = get_or-map-range_with_len (is_claimed loaded) 0 (length w.objects) f f false lt (omega arith) ∙ same-truth (is_claimed loaded f) (is_marked marks f) (claimed-marked f) (marked-claimed f)

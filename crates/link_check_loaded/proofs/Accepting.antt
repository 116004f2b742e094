-- What passes all tests is loaded, and what is loaded passes them.
use Rattle.std.proofs.Common.{◌≡◌, ◌+◌, ◌<◌, ◌&&◌, ◌∙◌, ℕ, zero, suc, Bool, true, false, List, [], ◌∷◌, Option, Some, None, length, slice_get, get_or, refl, sym, ap, subst, arith, IsTrue}
use Rattle.std.specs.Prelude.{◌||◌, MatchOption, not, is_some, option_and_then}
use Rattle.std.specs.List.{list_all}
use Rattle.std.specs.Option.{option_map_or}
use Rattle.std.proofs.lemmas.Bool.{eqb-true, eq-eqb, ltb-true, lt-ltb}
use Rattle.std.proofs.lemmas.Option.{get_or_from_slice_get}
use Rattle.link_closure.specs.Closure.{is_marked}
use Rattle.link_input.specs.Symbols.{Symbol, object_in}
use Rattle.link_rules.specs.Loading.{HasEdge, IsRoot, is_root, request_of}
use Rattle.link_rules.specs.Places.{is_number}
use Rattle.link_rules.specs.World.{Stage}
use Rattle.link_rules.proofs.Members.{at_place, placed}
use Rattle.link_rules.proofs.Settled.{both_true}
use Rattle.link_rules.proofs.Twice.{slice_get-each_from}
use Rattle.link_check_claims.specs.declared.claim.ClaimedObject.{ClaimedObject}
use Rattle.link_check_claims.specs.Claims.{AreLoaded, AreRising, IsReferredBy, is_claimed}
use Rattle.link_check_targets.specs.Stages.{stage_requests}
use Rattle.link_check_targets.specs.Tables.{object_at, target_at}
use Rattle.link_check_loaded.specs.Accepted.{Ranks, accepts, all_from, is_below, is_grounded, keeps_request, keeps_root, rank_in, refers, rises_from}
use Rattle.link_check_loaded.proofs.Places.{all-at, all-from-each}
use Rattle.link_check_loaded.proofs.Rising.{claimed-ranked, is-rises, rank-found, ranked, rises-is}

number-is : (o : Option ℕ) (f : ℕ) → is_number o f ≡ true → o ≡ Some f
number-is None f is = absurd cc
number-is (Some t) f is = ap (λ (n : ℕ). Some n) (eqb-true t f is)

is-number : (o : Option ℕ) (f : ℕ) → o ≡ Some f → is_number o f ≡ true
is-number o f is = ap (λ p. is_number p f) is ∙ eq-eqb f f refl

-- a smaller rank is that of an object
below-found : (ranks : Ranks) (object : Option ℕ) (rank : ℕ) → is_below (option_and_then ranks object) rank ≡ true
    → (from : ℕ) × (r : ℕ) × (object ≡ Some from) × (ranks from ≡ Some r) × (r < rank)
below-found ranks None rank is = absurd cc
below-found ranks (Some from) rank is = by (ranks from) refl is
  where
    by : (found : Option ℕ) → ranks from ≡ found → is_below found rank ≡ true → (g : ℕ) × (r : ℕ) × (Some from ≡ Some g) × (ranks g ≡ Some r) × (r < rank)
    by None at below = absurd cc
    by (Some r) at below = (from, r, refl, at, ltb-true r rank below)

-- the object of an id is that of a symbol
object-found : (symbols : List Symbol) (s f : ℕ) → object_at symbols s ≡ Some f → (u : Symbol) × (slice_get symbols s ≡ Some u) × (object_in u.origin ≡ Some f)
object-found symbols s f is = by (slice_get symbols s) refl is
  where
    by : (found : Option Symbol) → slice_get symbols s ≡ found → option_and_then (λ (x : Symbol). object_in x.origin) found ≡ Some f
        → (u : Symbol) × (slice_get symbols s ≡ Some u) × (object_in u.origin ≡ Some f)
    by None at has = absurd cc
    by (Some u) at has = (u, at, has)

all-of : {X : Type 0} (p : X → Bool) (xs : List X) (k : ℕ) (d : X) → list_all p xs ≡ true → k < length xs → p (get_or xs k d) ≡ true
all-of p [] k d all lt = absurd (omega (arith, lt))
all-of p (x ∷ xs) zero d all lt = (both_true (p x) (list_all p xs) all).0
all-of p (x ∷ xs) (suc k) d all lt = all-of p xs k d (both_true (p x) (list_all p xs) all).1 (omega (arith, lt))

of-all : {X : Type 0} (p : X → Bool) (xs : List X) → ((k : ℕ) (d : X) → k < length xs → p (get_or xs k d) ≡ true) → list_all p xs ≡ true
of-all p [] each = refl
of-all p (x ∷ xs) each = ap (λ b. b && list_all p xs) (each zero x (omega arith)) ∙ of-all p xs (λ k d lt. each (suc k) d (omega (arith, lt)))

both : (a b : Bool) → a ≡ true → b ≡ true → (a && b) ≡ true
both true b first second = second
both false b first second = cc

module _ (w : Stage) (roots : List Bool) (loaded : List ClaimedObject) (told : (f : ℕ) → is_root w f ≡ is_marked roots f) where
  zero_add : (k : ℕ) → 0 + k ≡ k
  zero_add k = omega arith

  -- what the column has is what the symbol asks for
  asked : (s : ℕ) (u : Symbol) → slice_get w.symbols s ≡ Some u → target_at (stage_requests w) s ≡ request_of w s u
  asked s u at =
      ap (λ (o : Option (Option ℕ)). option_map_or (λ (t : Option ℕ). t) o None) (slice_get-each_from (request_of w) 0 w.symbols s u at)
      ∙ ap (λ k. request_of w k u) (zero_add s)

  referred : (f rank s : ℕ) → refers (rank_in loaded) w.symbols (stage_requests w) f rank s ≡ true → IsReferredBy w loaded f rank s
  referred f rank s is =
      let parts = both_true (is_below (option_and_then (rank_in loaded) (object_at w.symbols s)) rank) (is_number (target_at (stage_requests w) s) f) is in
      let smaller = below-found (rank_in loaded) (object_at w.symbols s) rank parts.0 in
      let symbol = object-found w.symbols s smaller.0 smaller.2 in
      let claimed = rank-found loaded smaller.0 smaller.1 smaller.3 in (
        symbol.0,
        claimed.1,
        symbol.1,
        symbol.2 ∙ ap (λ (n : ℕ). Some n) (sym claimed.3),
        sym (asked s symbol.0 symbol.1) ∙ number-is (target_at (stage_requests w) s) f parts.1,
        at_place loaded claimed.0 claimed.1 claimed.2,
        subst (λ n. n < rank) (sym claimed.4) smaller.4,
      )

  grounded : (f rank : ℕ) (by : Option ℕ) → option_map_or (refers (rank_in loaded) w.symbols (stage_requests w) f rank) by (is_marked roots f) ≡ true
      → MatchOption by (IsRoot w f) (IsReferredBy w loaded f rank)
  grounded f rank None is = told f ∙ is
  grounded f rank (Some s) is = referred f rank s is

  refers-back : AreRising loaded → (f rank s : ℕ) → IsReferredBy w loaded f rank s → refers (rank_in loaded) w.symbols (stage_requests w) f rank s ≡ true
  refers-back rising f rank s (u, from, at, stands, asks, listed, smaller) =
      let place = placed loaded from listed in
      let object : object_at w.symbols s ≡ Some from.object = ap (option_and_then (λ (x : Symbol). object_in x.origin)) at ∙ stands in
      let rank-is : option_and_then (rank_in loaded) (object_at w.symbols s) ≡ Some from.rank =
      ap (option_and_then (rank_in loaded)) object ∙ ranked loaded rising place.0 from place.1 in
      both (is_below (option_and_then (rank_in loaded) (object_at w.symbols s)) rank) (is_number (target_at (stage_requests w) s) f)
      (ap (λ o. is_below o rank) rank-is ∙ lt-ltb from.rank rank smaller)
      (is-number (target_at (stage_requests w) s) f (asked s u at ∙ asks))

  grounded-back : AreRising loaded → (f rank : ℕ) (by : Option ℕ) → MatchOption by (IsRoot w f) (IsReferredBy w loaded f rank)
      → option_map_or (refers (rank_in loaded) w.symbols (stage_requests w) f rank) by (is_marked roots f) ≡ true
  grounded-back rising f rank None is = sym (told f) ∙ is
  grounded-back rising f rank (Some s) is = refers-back rising f rank s is

  -- roots are claimed
  root-kept : (f : ℕ) → all_from (keeps_root (rank_in loaded)) 0 roots ≡ true → IsRoot w f → IsTrue (is_claimed loaded f)
  root-kept f all root = claimed-ranked loaded f ∙ by (slice_get roots f) refl (sym (told f) ∙ root)
    where
      test : (b : Bool) → b ≡ true → (not b || is_some (rank_in loaded f)) ≡ true → is_some (rank_in loaded f) ≡ true
      test true is passes = passes
      test false is passes = absurd cc

      past : (xs : List Bool) (k : ℕ) → slice_get xs k ≡ None → is_marked xs k ≡ false
      past [] k none = refl
      past (x ∷ xs) zero none = absurd cc
      past (x ∷ xs) (suc k) none = past xs k none

      by : (found : Option Bool) → slice_get roots f ≡ found → is_marked roots f ≡ true → is_some (rank_in loaded f) ≡ true
      by None at marked = absurd (let e = past roots f at in cc)
      by (Some b) at marked =
          test b (sym (get_or_from_slice_get roots f b false at) ∙ marked)
          (ap (λ k. keeps_root (rank_in loaded) k b) (sym (zero_add f)) ∙ all-at (keeps_root (rank_in loaded)) 0 roots f b all at)

  -- what claimed objects ask for is claimed
  edge-kept : (f g : ℕ) → all_from (keeps_request (rank_in loaded) (stage_requests w)) 0 w.symbols ≡ true → IsTrue (is_claimed loaded f) → HasEdge w f g → IsTrue (is_claimed loaded g)
  edge-kept f g all claimed (s, u, at, stands, asks) =
      let passes : keeps_request (rank_in loaded) (stage_requests w) s u ≡ true =
      ap (λ k. keeps_request (rank_in loaded) (stage_requests w) k u) (sym (zero_add s)) ∙ all-at (keeps_request (rank_in loaded) (stage_requests w)) 0 w.symbols s u all at in
      let told_is : option_map_or (λ h. not (is_some (rank_in loaded h)) || option_map_or (λ k. is_some (rank_in loaded k)) (Some g) true) (Some f) true ≡ true =
      sym (ap (λ o. option_map_or (λ h. not (is_some (rank_in loaded h)) || option_map_or (λ k. is_some (rank_in loaded k)) o true) (object_in u.origin) true) (asked s u at ∙ asks)
      ∙ ap (λ o. option_map_or (λ h. not (is_some (rank_in loaded h)) || option_map_or (λ k. is_some (rank_in loaded k)) (Some g) true) o true) stands) ∙ passes in
      claimed-ranked loaded g ∙ test (is_some (rank_in loaded f)) (sym (claimed-ranked loaded f) ∙ claimed) told_is
    where
      test : (b : Bool) → b ≡ true → (not b || is_some (rank_in loaded g)) ≡ true → is_some (rank_in loaded g) ≡ true
      test true is passes = passes
      test false is passes = absurd cc

  root-back : ((f : ℕ) → IsRoot w f → IsTrue (is_claimed loaded f)) → all_from (keeps_root (rank_in loaded)) 0 roots ≡ true
  root-back closed = all-from-each (keeps_root (rank_in loaded)) 0 roots step
    where
      test : (f : ℕ) (b : Bool) → is_marked roots f ≡ b → keeps_root (rank_in loaded) f b ≡ true
      test f true marked = sym (claimed-ranked loaded f) ∙ closed f (told f ∙ marked)
      test f false marked = refl

      step : (k : ℕ) (b : Bool) → slice_get roots k ≡ Some b → keeps_root (rank_in loaded) (0 + k) b ≡ true
      step k b at = ap (λ n. keeps_root (rank_in loaded) n b) (zero_add k) ∙ test k b (get_or_from_slice_get roots k b false at)

  edge-back : ((f g : ℕ) → IsTrue (is_claimed loaded f) → HasEdge w f g → IsTrue (is_claimed loaded g)) → all_from (keeps_request (rank_in loaded) (stage_requests w)) 0 w.symbols ≡ true
  edge-back closed = all-from-each (keeps_request (rank_in loaded) (stage_requests w)) 0 w.symbols step
    where
      by : (s : ℕ) (u : Symbol) → slice_get w.symbols s ≡ Some u → (object asks : Option ℕ) → object_in u.origin ≡ object → request_of w s u ≡ asks
          → option_map_or (λ h. not (is_some (rank_in loaded h)) || option_map_or (λ k. is_some (rank_in loaded k)) asks true) object true ≡ true
      by s u at None asks stands is = refl
      by s u at (Some f) None stands is = or-true (not (is_some (rank_in loaded f)))
        where
          or-true : (b : Bool) → (b || true) ≡ true
          or-true true = refl
          or-true false = refl
      by s u at (Some f) (Some g) stands is = test (is_some (rank_in loaded f)) refl
        where
          test : (b : Bool) → is_some (rank_in loaded f) ≡ b → (not b || is_some (rank_in loaded g)) ≡ true
          test true claimed = sym (claimed-ranked loaded g) ∙ closed f g (claimed-ranked loaded f ∙ claimed) (s, u, at, stands, is)
          test false claimed = refl

      step : (k : ℕ) (u : Symbol) → slice_get w.symbols k ≡ Some u → keeps_request (rank_in loaded) (stage_requests w) (0 + k) u ≡ true
      step k u at =
          ap (λ n. keeps_request (rank_in loaded) (stage_requests w) n u) (zero_add k)
          ∙ by k u at (object_in u.origin) (target_at (stage_requests w) k) refl (sym (asked k u at))

  pub accepted-loaded : accepts w.symbols (stage_requests w) roots loaded ≡ true → AreLoaded w loaded
  accepted-loaded is =
      let first = both_true (rises_from None loaded) _ is in
      let second = both_true (list_all (is_grounded (rank_in loaded) w.symbols (stage_requests w) roots) loaded) _ first.1 in
      let third = both_true (all_from (keeps_root (rank_in loaded)) 0 roots) (all_from (keeps_request (rank_in loaded) (stage_requests w)) 0 w.symbols) second.1 in
      record {
        rising = (rises-is None loaded first.0).0;
        grounded = λ k d lt. let o = get_or loaded k d in grounded o.object o.rank o.by (all-of (is_grounded (rank_in loaded) w.symbols (stage_requests w) roots) loaded k d second.0 lt);
        closed = ((λ f root. root-kept f third.0 root), (λ f g claimed edge. edge-kept f g third.1 claimed edge));
      }

  pub loaded-accepted : AreLoaded w loaded → accepts w.symbols (stage_requests w) roots loaded ≡ true
  loaded-accepted are =
      both (rises_from None loaded) _ (is-rises None loaded are.rising (λ k d lt. refl))
      (both (list_all (is_grounded (rank_in loaded) w.symbols (stage_requests w) roots) loaded) _
      (of-all (is_grounded (rank_in loaded) w.symbols (stage_requests w) roots) loaded
      (λ k d lt. let o = get_or loaded k d in grounded-back are.rising o.object o.rank o.by (are.grounded k d lt)))
      (both (all_from (keeps_root (rank_in loaded)) 0 roots) (all_from (keeps_request (rank_in loaded) (stage_requests w)) 0 w.symbols)
      (root-back are.closed.0) (edge-back are.closed.1)))

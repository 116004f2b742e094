-- A set of names, as one is added.
use Rattle.std.proofs.Common.{◌≡◌, ◌||◌, ℕ, Bool, true, false, List, Bor, refl, sym, ap, subst, ◌∙◌}
use Rattle.std.specs.Set.{KeepsOthers}
use Rattle.std.specs.HashSet as bag
use Rattle.std.specs.HashSet.{HashSet}
use Rattle.std.specs.List.{list_any}
use Rattle.std.specs.Str.{bytes_eq}
use Rattle.std.specs.Cmp.Lexicographic.{nat_list_eq_equiv, bytes_decides}
use Rattle.link_resolve_comdat.specs.InOrder.{is_met}

-- what is asked of other names stays
others : (old new : List (Bor (List ℕ))) (bs cs : List ℕ) → KeepsOthers (λ (x y : Bor (List ℕ)). bytes_eq x.now y.now) (λ k. bytes_eq bs k.now) old new → bytes_eq bs cs ≡ false
    → list_any (λ k. bytes_eq cs k.now) new ≡ list_any (λ k. bytes_eq cs k.now) old
unfolding KeepsOthers
others old new bs cs keeps other =
    keeps (λ k. bytes_eq cs k.now) (λ x y. nat_list_eq_equiv.congr cs x.now y.now) (λ k same. nat_list_eq_equiv.symm cs k.now ∙ sym (nat_list_eq_equiv.congr bs k.now cs same) ∙ other)

by_name : (here : Bool) (old new : List ℕ → Bool) (bs cs : List ℕ) → bytes_eq bs cs ≡ here → new bs ≡ true → (bytes_eq bs cs ≡ false → new cs ≡ old cs) → new cs ≡ (old cs || here)
by_name true old new bs cs same added other = subst (λ (x : List ℕ). new x ≡ true) ((bytes_decides bs cs).0 same) added ∙ by (old cs)
  where
    by : (b : Bool) → true ≡ (b || true)
    by true = refl
    by false = refl
by_name false old new bs cs same added other = other same ∙ by (old cs)
  where
    by : (b : Bool) → b ≡ (b || false)
    by true = refl
    by false = refl

-- one name more
pub met-added : {S : Type 0} (s n : HashSet (Bor (List ℕ)) S) (bs cs : List ℕ) → bag.UpdatesBy (λ x y. bytes_eq x.now y.now) (λ k. bytes_eq bs k.now) s n true
    → is_met n cs ≡ (is_met s cs || bytes_eq cs bs)
met-added s n bs cs updates =
    by_name (bytes_eq bs cs) (is_met s) (is_met n) bs cs refl updates.1 (λ other. others s.keys n.keys bs cs updates.3 other) ∙ ap (λ (b : Bool). is_met s cs || b) (nat_list_eq_equiv.symm bs cs)

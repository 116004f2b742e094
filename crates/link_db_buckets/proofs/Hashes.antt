-- The hash numbers of heads, where one changes.
use Rattle.std.proofs.Common.{◌≡◌, ◌∙◌, ℕ, zero, suc, List, [], ◌∷◌, refl, sym, ap, set, Some}
use Rattle.std.specs.Prelude.{slice_get}
use Rattle.std.proofs.lemmas.Option.{same_Some}
use Rattle.link_db_buckets.specs.declared.head.Head.{Head}
use Rattle.link_db_buckets.specs.Heads.{hashes_of}

-- a change that leaves a head's hash number leaves all
pub hashes_of-set : (heads : List Head) (i : ℕ) (h y : Head) → slice_get heads i ≡ Some h → y.hash ≡ h.hash → hashes_of (set heads i y) ≡ hashes_of heads
hashes_of-set [] i h y is same = refl
hashes_of-set (g ∷ heads) zero h y is same = let e : y.hash ≡ g.hash = same ∙ ap (λ (k : Head). k.hash) (sym (same_Some g h is)) in ap (λ (n : ℕ). n ∷ hashes_of heads) e
hashes_of-set (g ∷ heads) (suc i) h y is same = ap (λ (l : List ℕ). g.hash ∷ l) (hashes_of-set heads i h y is same)

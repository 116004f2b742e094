-- A list of what is found of each item.
use Rattle.std.proofs.Common.{◌≡◌, ◌∙◌, ◌++◌, ◌<◌, ℕ, List, [], ◌∷◌, Option, ap, append_assoc, map, subst, sym}
use Rattle.std.specs.Prelude.{IfSome}
use Rattle.std.proofs.lemmas.List.Elements.{All-push}
use Rattle.link_db_symbols.specs.Lookups.{AreBelow}

-- what is found of one item more
pub mapped-more : {X Y : Type 0} (f : X → Y) (old new all : List Y) (x : X) (y : Y) (xs rest : List X)
    → xs ≡ x ∷ rest → y ≡ f x → new ≡ old ++ y ∷ [] → old ++ map f xs ≡ all → new ++ map f rest ≡ all
mapped-more {X} {Y} f old new all x y xs rest is gives more before =
    ap (λ (ys : List Y). ys ++ map f rest) (more ∙ ap (λ z. old ++ z ∷ []) gives)
    ∙ (append_assoc old (f x ∷ []) (map f rest) ∙ (ap (λ (zs : List X). old ++ map f zs) (sym is) ∙ before))

-- one number more that is below a count
pub below-more : (count : ℕ) (old new : List (Option ℕ)) (o : Option ℕ) → new ≡ old ++ o ∷ [] → IfSome o (λ n. n < count) → AreBelow count old → AreBelow count new
below-more count old new o more below before = subst (AreBelow count) (sym more) (All-push (λ (target : Option ℕ). IfSome target (λ t. t < count)) old o before below)

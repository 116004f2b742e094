-- A pass over symbols that adds something for each.
use Rattle.std.proofs.Common.{◌≡◌, ℕ, ◌+◌, ◌∙◌, ◌++◌, List, [], ◌∷◌, ap, sym}
use Rattle.std.proofs.lemmas.List.{append_assoc}
use Rattle.link_rules.specs.Places.{each_from}

-- one place more
pub each-more : {X Y : Type 0} (f : ℕ → X → Y) (old new all : List Y) (i id next : ℕ) (x : X) (y : Y) (xs rest : List X)
    → id ≡ i → xs ≡ x ∷ rest → next ≡ i + 1 → y ≡ f id x → new ≡ old ++ y ∷ [] → old ++ each_from f i xs ≡ all → new ++ each_from f next rest ≡ all
each-more f old new all i id next x y xs rest at is more gives pushed before =
    ap (λ l. l ++ each_from f next rest) (pushed ∙ ap (λ z. old ++ z ∷ []) (gives ∙ ap (λ n. f n x) at))
    ∙ (ap (λ n. (old ++ f i x ∷ []) ++ each_from f n rest) more
    ∙ (append_assoc old (f i x ∷ []) (each_from f (i + 1) rest)
    ∙ (ap (λ l. old ++ each_from f i l) (sym is) ∙ before)))

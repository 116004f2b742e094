-- The last of what some elements give.
use Rattle.std.proofs.Common.{◌≡◌, ◌+◌, ◌++◌, ◌∙◌, ℕ, List, [], ◌∷◌, Option, Some, None, take, slice_get, refl, sym, ap}
use Rattle.std.specs.Prelude.{filter_map}
use Rattle.std.specs.List.{cons_option}
use Rattle.std.specs.Option.{option_or}
use Rattle.std.proofs.lemmas.List.{append-nil}
use Rattle.std.proofs.lemmas.List.Elements.{filter_map-append}
use Rattle.link_rules.specs.Places.{last_of}
use Rattle.link_check_symbols.proofs.Filing.{next-taken}

-- the last of a list with one element more
last-behind : {X : Type 0} (xs : List X) (x : X) → last_of (xs ++ x ∷ []) ≡ Some x
last-behind [] x = refl
last-behind (y ∷ []) x = refl
last-behind (y ∷ z ∷ zs) x = last-behind (z ∷ zs) x

-- one element more gives the last, if it gives something
last-more : {X Y : Type 0} (h : X → Option Y) (xs : List X) (x : X) → last_of (filter_map h (xs ++ x ∷ [])) ≡ option_or (h x) (last_of (filter_map h xs))
last-more {Y = Y} h xs x = ap (λ (ys : List Y). last_of ys) (filter_map-append h xs (x ∷ [])) ∙ by (filter_map h xs) (h x)
  where
    by : (ys : List Y) (o : Option Y) → last_of (ys ++ cons_option o []) ≡ option_or o (last_of ys)
    by ys None = ap (λ (l : List Y). last_of l) (append-nil ys)
    by ys (Some y) = last-behind ys y

-- the last of what the first elements give, and of what the next one gives
pub last-next : {X Y : Type 0} (h : X → Option Y) (xs : List X) (i : ℕ) (x : X) (last : Option Y) → slice_get xs i ≡ Some x → last ≡ last_of (filter_map h (take i xs))
    → option_or (h x) last ≡ last_of (filter_map h (take (i + 1) xs))
last-next h xs i x last at is =
    ap (option_or (h x)) is ∙ sym (ap (λ l. last_of (filter_map h l)) (next-taken xs i x at) ∙ last-more h (take i xs) x)

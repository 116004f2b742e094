-- Columns by the ids of symbols.
use Rattle.std.proofs.Common.{◌≡◌, ◌+◌, ◌<◌, ◌++◌, ◌∙◌, ◌||◌, ℕ, zero, suc, Bool, false, List, [], ◌∷◌, Option, Some, None, length, map, take, slice_get, refl, sym, ap, subst, arith, add-zero, if◌then◌else◌}
use Rattle.std.specs.Prelude.{not, unwrap_or}
use Rattle.std.specs.Option.{option_map_or}
use Rattle.std.proofs.lemmas.Option.{slice_get_within}
use Rattle.std.proofs.lemmas.List.{length-take}
use Rattle.link_flags.specs.Pick.{pick}
use Rattle.link_input.specs.Symbols.{Symbol, is_shared}
use Rattle.link_rules.specs.Names.{later_definitions}
use Rattle.link_rules.specs.Places.{each_from}
use Rattle.link_rules.proofs.Twice.{slice_get-each_from}
use Rattle.link_rules.proofs.TwiceOver.{each_from-none}
use Rattle.link_check_names.specs.Named.{Named}
use Rattle.link_check_symbols.proofs.Filing.{next-taken}
use Rattle.link_check_targets.specs.Tables.{hidden_at, hidden_target, unshared}

-- one element more
each-more : {X Y : Type 0} (f : ℕ → X → Y) (n : ℕ) (xs : List X) (x : X) → each_from f n (xs ++ x ∷ []) ≡ each_from f n xs ++ f (n + length xs) x ∷ []
each-more f n [] x = ap (λ k. f k x ∷ []) (sym (add-zero n))
each-more f n (y ∷ ys) x =
    let at : n + 1 + length ys ≡ n + suc (length ys) = omega arith in
    ap (λ l. f n y ∷ l) (each-more f (n + 1) ys x ∙ ap (λ k. each_from f (n + 1) ys ++ f k x ∷ []) at)

-- what the first elements give, and what the next one gives
pub each-grow : {X Y : Type 0} (f : ℕ → X → Y) (xs : List X) (i : ℕ) (x : X) (so_far : List Y) → slice_get xs i ≡ Some x → so_far ≡ each_from f 0 (take i xs)
    → so_far ++ f i x ∷ [] ≡ each_from f 0 (take (i + 1) xs)
each-grow {X} f xs i x so_far at is =
    let place : 0 + length (take i xs) ≡ i = omega (arith, length-take {A = X}, slice_get_within xs i x at) in
    ap (λ l. l ++ f i x ∷ []) is
    ∙ sym (ap (each_from f 0) (next-taken xs i x at) ∙ (each-more f 0 (take i xs) x ∙ ap (λ k. each_from f 0 (take i xs) ++ f k x ∷ []) place))

-- functions that agree at each place give the same
pub each-alike : {X Y : Type 0} (f g : ℕ → X → Y) (n : ℕ) (xs : List X) → ((k : ℕ) (x : X) → slice_get xs k ≡ Some x → f (n + k) x ≡ g (n + k) x) → each_from f n xs ≡ each_from g n xs
each-alike f g n [] same = refl
each-alike {X} {Y} f g n (x ∷ xs) same =
    let head : f n x ≡ g n x = subst (λ k. f k x ≡ g k x) (add-zero n) (same zero x refl) in
    ap (λ y. y ∷ each_from f (n + 1) xs) head
    ∙ ap (λ l. g n x ∷ l) (each-alike f g (n + 1) xs (λ k y at. subst (λ m. f m y ≡ g m y) (next k) (same (suc k) y at)))
  where
    next : (k : ℕ) → n + suc k ≡ n + 1 + k
    next k = omega arith

-- where the place doesn't count it is a map
pub each-map : {X Y : Type 0} (f : X → Y) (n : ℕ) (xs : List X) → map f xs ≡ each_from (λ s x. f x) n xs
each-map f n [] = refl
each-map f n (x ∷ xs) = ap (λ l. f x ∷ l) (each-map f (n + 1) xs)

-- there is a symbol at each place
pub symbol-there : (xs : List Symbol) (i : ℕ) → i < length xs → (x : Symbol) × (slice_get xs i ≡ Some x)
symbol-there [] i lt = absurd (omega (arith, lt))
symbol-there (x ∷ xs) zero lt = (x, refl)
symbol-there (x ∷ xs) (suc i) lt = symbol-there xs i (omega (arith, lt))

-- a symbol that isn't there isn't shared
hidden-past : (weak : Bool) (n : Named) (s : ℕ) (found : Option Symbol) → slice_get n.symbols s ≡ found → found ≡ None → Some s ≡ hidden_target weak n s
hidden-past weak n s found is none =
    ap (λ (o : Option Symbol). if false || not (option_map_or (λ (x : Symbol). is_shared x.origin) o false) then Some s else pick weak (unshared n.symbols (later_definitions n.symbols s))) (sym none ∙ sym is)

-- the column of hidden targets tells each
pub hidden-told : (weak : Bool) (n : Named) (hidden : List (Option ℕ)) (s : ℕ) → hidden ≡ each_from (λ k x. hidden_target weak n k) 0 n.symbols → hidden_at hidden s ≡ hidden_target weak n s
hidden-told weak n hidden s is = by (slice_get n.symbols s) refl
  where
    zero_add : 0 + s ≡ s
    zero_add = omega arith

    by : (found : Option Symbol) → slice_get n.symbols s ≡ found → hidden_at hidden s ≡ hidden_target weak n s
    by (Some x) at =
        ap (λ l. hidden_at l s) is
        ∙ (ap (λ o. unwrap_or o (Some s)) (slice_get-each_from (λ k y. hidden_target weak n k) 0 n.symbols s x at) ∙ ap (λ k. hidden_target weak n k) zero_add)
    by None at =
        ap (λ l. hidden_at l s) is
        ∙ (ap (λ o. unwrap_or o (Some s)) (each_from-none (λ k (y : Symbol). hidden_target weak n k) 0 n.symbols s at) ∙ hidden-past weak n s None at refl)

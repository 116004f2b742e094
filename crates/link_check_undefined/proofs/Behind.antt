-- The names of sections behind a prefix.
use Rattle.std.proofs.Common.{◌≡◌, ◌≢◌, ◌++◌, ◌&&◌, ◌||◌, ◌∙◌, ℕ, List, [], ◌∷◌, Bool, true, false, Option, Some, None, Bor, refl, sym, ap}
use Rattle.std.specs.List.{list_any}
use Rattle.std.specs.Option.{MatchOption, option_map_or}
use Rattle.std.specs.Str.{bytes_eq}
use Rattle.std.proofs.lemmas.Bool.{eq-eqb}
use Rattle.std.proofs.lemmas.Slice.Eq.{bytes_eq-Decides}
use Rattle.link_names.specs.Names.{has_name}
use Rattle.link_rules.specs.Places.{Bytes}
use Rattle.link_check_undefined.specs.Made.{is_mark_behind}

unequal : (name other : List ℕ) (b : Bool) → bytes_eq name other ≡ b → name ≢ other → b ≡ false
unequal name other true is differ = absurd (differ ((bytes_eq-Decides name other).0 is))
unequal name other false is differ = refl

-- behind the same prefix
same-behind : (prefix xs ys : List ℕ) → bytes_eq (prefix ++ xs) (prefix ++ ys) ≡ bytes_eq xs ys
same-behind [] xs ys = refl
same-behind (c ∷ cs) xs ys = ap (λ b. b && bytes_eq (cs ++ xs) (cs ++ ys)) (eq-eqb c c refl) ∙ same-behind cs xs ys

pub behind : (name prefix section : List ℕ) (r : Option (Bor (List ℕ)))
    → MatchOption r ((rest : List ℕ) → name ≢ prefix ++ rest) (λ (x : Bor (List ℕ)). name ≡ prefix ++ x.now)
    → bytes_eq name (prefix ++ section) ≡ option_map_or (λ (rest : Bor (List ℕ)). bytes_eq rest.now section) r false
behind name prefix section None none = unequal name (prefix ++ section) (bytes_eq name (prefix ++ section)) refl (none section)
behind name prefix section (Some x) is = ap (λ n. bytes_eq n (prefix ++ section)) is ∙ same-behind prefix x.now section

-- what stands behind the prefix is the name of a section
pub mark-behind : (prefix name : Bytes) (sections : List Bytes) (r : Option (Bor Bytes))
    → ((section : Bytes) → bytes_eq name (prefix ++ section) ≡ option_map_or (λ (rest : Bor Bytes). bytes_eq rest.now section) r false)
    → option_map_or (λ (rest : Bor Bytes). has_name sections rest.now) r false ≡ is_mark_behind prefix sections name
mark-behind prefix name [] None is = refl
mark-behind prefix name [] (Some x) is = refl
mark-behind prefix name (s ∷ ss) None is = mark-behind prefix name ss None is ∙ ap (λ b. b || is_mark_behind prefix ss name) (sym (is s))
mark-behind prefix name (s ∷ ss) (Some x) is =
    ap (λ b. bytes_eq x.now s || b) (mark-behind prefix name ss (Some x) is) ∙ ap (λ b. b || is_mark_behind prefix ss name) (sym (is s))

-- some element passes one of two tests where some passes the first or some passes the second
any-either : {X : Type 0} (p q : X → Bool) (xs : List X) → (list_any p xs || list_any q xs) ≡ list_any (λ x. p x || q x) xs
any-either p q [] = refl
any-either p q (x ∷ xs) = moved (p x) (list_any p xs) (q x) (list_any q xs) ∙ ap (λ b. (p x || q x) || b) (any-either p q xs)
  where
    moved : (a b c d : Bool) → ((a || b) || (c || d)) ≡ ((a || c) || (b || d))
    moved true b c d = refl
    moved false true true d = refl
    moved false true false d = refl
    moved false false c d = refl

-- the marks of the start and of the end of sections
pub mark-either : (sections : List Bytes) (name start stop : Bytes)
    → (is_mark_behind start sections name || is_mark_behind stop sections name) ≡ list_any (λ section. bytes_eq name (start ++ section) || bytes_eq name (stop ++ section)) sections
mark-either sections name start stop = any-either (λ section. bytes_eq name (start ++ section)) (λ section. bytes_eq name (stop ++ section)) sections

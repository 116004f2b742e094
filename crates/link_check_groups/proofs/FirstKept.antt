-- Of groups in order the first COMDAT group of a signature is the one that is kept.
use Rattle.std.proofs.Common.{◌≡◌, ◌+◌, ◌++◌, ◌∙◌, ℕ, Bool, true, false, List, [], ◌∷◌, Option, None, Some, cond, take, slice_get, refl, sym, ap, subst, arith}
use Rattle.std.specs.Prelude.{◌&&◌, IfSome}
use Rattle.std.specs.Option.{option_or}
use Rattle.std.specs.Str.{bytes_eq}
use Rattle.std.specs.Cmp.Lexicographic.{nat_list_eq_equiv}
use Rattle.link_check_symbols.proofs.Filing.{next-taken}
use Rattle.link_rules.specs.Comdat.{GroupPlace, PlacedGroup, comdats_among, is_before, kept_place, lesser}
use Rattle.link_rules.specs.Places.{Bytes}
use Rattle.link_check_groups.specs.Groups.{comdat_place, first_comdat}
use Rattle.link_check_groups.proofs.Places.{AreBehind, AreOrdered}

-- ---- one group more

or-assoc : (a b c : Option GroupPlace) → option_or a (option_or b c) ≡ option_or (option_or a b) c
or-assoc None b c = refl
or-assoc (Some x) b c = refl

or-none : (a : Option GroupPlace) → option_or a None ≡ a
or-none None = refl
or-none (Some x) = refl

first-more : (xs : List PlacedGroup) (g : PlacedGroup) (signature : Bytes) → first_comdat (xs ++ g ∷ []) signature ≡ option_or (first_comdat xs signature) (comdat_place signature g)
first-more [] g signature = or-none (comdat_place signature g)
first-more (x ∷ xs) g signature =
    ap (option_or (comdat_place signature x)) (first-more xs g signature) ∙ or-assoc (comdat_place signature x) (first_comdat xs signature) (comdat_place signature g)

-- the first COMDAT groups among the first groups, and the next one
pub first-grow : (groups : List PlacedGroup) (i : ℕ) (g : PlacedGroup) (signature : Bytes) (so_far : Option GroupPlace) → slice_get groups i ≡ Some g
    → so_far ≡ first_comdat (take i groups) signature → option_or so_far (comdat_place signature g) ≡ first_comdat (take (i + 1) groups) signature
first-grow groups i g signature so_far at is =
    ap (λ o. option_or o (comdat_place signature g)) is
    ∙ sym (ap (λ l. first_comdat l signature) (next-taken groups i g at) ∙ first-more (take i groups) g signature)

-- ---- the first is the least

-- the kept place of some groups, with one group in front
abbrev kept-with : Bool → Bool → GroupPlace → Option GroupPlace → Option GroupPlace
kept-with is_comdat named p rest = cond (is_comdat && named) (Some (lesser p rest)) rest

kept-head : (g : PlacedGroup) (gs : List PlacedGroup) (signature : Bytes) (is_comdat named : Bool) → g.group.is_comdat ≡ is_comdat → bytes_eq g.signature signature ≡ named
    → kept_place (comdats_among (g ∷ gs)) signature ≡ kept-with is_comdat named g.place (kept_place (comdats_among gs) signature)
kept-head g gs signature true true comdat named = rw (comdat, named) refl
kept-head g gs signature true false comdat named = rw (comdat, named) refl
kept-head g gs signature false named comdat is = rw comdat refl

-- a place before some is before the least of them
least-behind : (p q : GroupPlace) (o : Option GroupPlace) → is_before p q ≡ true → IfSome o (λ r. is_before p r ≡ true) → is_before p (lesser q o) ≡ true
least-behind p q None first rest = first
least-behind p q (Some r) first rest = by (is_before r q)
  where
    by : (b : Bool) → is_before p (cond b r q) ≡ true
    by true = rest
    by false = first

kept-behind : (p : GroupPlace) (gs : List PlacedGroup) (signature : Bytes) → AreBehind p gs → IfSome (kept_place (comdats_among gs) signature) (λ q. is_before p q ≡ true)
unfolding AreBehind
kept-behind p [] signature behind = tt
kept-behind p (g ∷ gs) signature behind =
    subst (λ (o : Option GroupPlace). IfSome o (λ q. is_before p q ≡ true)) (sym (kept-head g gs signature g.group.is_comdat (bytes_eq g.signature signature) refl refl))
    (by (g.group.is_comdat && bytes_eq g.signature signature) (kept-behind p gs signature behind.1))
  where
    by : (b : Bool) → IfSome (kept_place (comdats_among gs) signature) (λ q. is_before p q ≡ true)
        → IfSome (cond b (Some (lesser g.place (kept_place (comdats_among gs) signature))) (kept_place (comdats_among gs) signature)) (λ q. is_before p q ≡ true)
    by true rest = least-behind p g.place (kept_place (comdats_among gs) signature) behind.0 rest
    by false rest = rest

not-back : (p q : GroupPlace) → is_before p q ≡ true → is_before q p ≡ false
not-back p q before = grind arith

lesser-first : (p : GroupPlace) (o : Option GroupPlace) → IfSome o (λ q. is_before p q ≡ true) → lesser p o ≡ p
lesser-first p None behind = refl
lesser-first p (Some q) behind = ap (λ b. cond b q p) (not-back p q behind)

-- of groups in order the first is kept
pub first-kept : (groups : List PlacedGroup) (signature : Bytes) → AreOrdered groups → first_comdat groups signature ≡ kept_place (comdats_among groups) signature
unfolding AreOrdered
first-kept [] signature ordered = refl
first-kept (g ∷ gs) signature ordered =
    ap (λ named. option_or (cond (g.group.is_comdat && named) (Some g.place) None) (first_comdat gs signature)) (nat_list_eq_equiv.symm signature g.signature)
    ∙ (by (g.group.is_comdat && bytes_eq g.signature signature) (first-kept gs signature ordered.1)
    ∙ sym (kept-head g gs signature g.group.is_comdat (bytes_eq g.signature signature) refl refl))
  where
    by : (b : Bool) → first_comdat gs signature ≡ kept_place (comdats_among gs) signature
        → option_or (cond b (Some g.place) None) (first_comdat gs signature) ≡ cond b (Some (lesser g.place (kept_place (comdats_among gs) signature))) (kept_place (comdats_among gs) signature)
    by true rest = ap (λ (p : GroupPlace). Some p) (sym (lesser-first g.place (kept_place (comdats_among gs) signature) (kept-behind g.place gs signature ordered.0)))
    by false rest = rest

-- The places of marks, and the marks on what names are mapped to.
use Rattle.std.proofs.Common.{◌≡◌, ◌+◌, ◌∙◌, ◌++◌, ◌∷◌, [], ℕ, zero, suc, Bool, true, false, List, Option, Some, None, cond, filter, map, refl, sym, ap, arith, append-nil, append_assoc}
use Rattle.std.specs.Prelude.{filter_map, option_to_list}
use Rattle.std.specs.List.{cons_option, range_with_len}
use Rattle.std.proofs.lemmas.List.Elements.{filter-append}
use Rattle.link_closure.specs.declared.workload.Mark.{Mark}
use Rattle.link_flags.specs.FlagBits as flag
use Rattle.link_resolve_marks.specs.Marks.{mark_on, marks_on_names}
use Rattle.link_rules.specs.Names.{Mapping}
use Rattle.link_rules.specs.Places.{Bytes}

-- the numbers below one more
numbers-more : (a n j : ℕ) → a + n ≡ j → range_with_len a (n + 1) ≡ range_with_len a n ++ j ∷ []
numbers-more a n j is = let on : n + 1 ≡ suc n = omega arith in ap (range_with_len a) on ∙ last a n j is
  where
    last : (a n j : ℕ) → a + n ≡ j → range_with_len a (suc n) ≡ range_with_len a n ++ j ∷ []
    last a zero j is = let same : a ≡ j = omega arith in ap (λ k. k ∷ []) same
    last a (suc n) j is = ap (λ l. a ∷ l) (last (a + 1) n j (omega arith))

-- a number that passes comes behind those before it
pub place-more : (p : ℕ → Bool) (k : ℕ) (places : List ℕ) → places ≡ filter p (range_with_len 0 k) → p k ≡ true → places ++ k ∷ [] ≡ filter p (range_with_len 0 (k + 1))
place-more p k places is passes =
    sym (ap (filter p) (numbers-more 0 k k (omega arith)) ∙ (filter-append p (range_with_len 0 k) (k ∷ [])
    ∙ (ap (λ b. filter p (range_with_len 0 k) ++ cond b (k ∷ []) []) passes ∙ ap (λ l. l ++ k ∷ []) (sym is))))

-- one that doesn't adds none
pub place-passed : (p : ℕ → Bool) (k : ℕ) (places : List ℕ) → places ≡ filter p (range_with_len 0 k) → p k ≡ false → places ≡ filter p (range_with_len 0 (k + 1))
place-passed p k places is fails =
    sym (ap (filter p) (numbers-more 0 k k (omega arith)) ∙ (filter-append p (range_with_len 0 k) (k ∷ [])
    ∙ (ap (λ b. filter p (range_with_len 0 k) ++ cond b (k ∷ []) []) fails ∙ (append-nil (filter p (range_with_len 0 k)) ∙ sym is))))

-- one name more
pub name-more : (mapping : Mapping) (names rest : List Bytes) (name : Bytes) (old new all : List Mark) → names ≡ name ∷ rest
    → new ≡ old ++ map (λ t. mark_on t flag.has_non_ir_ref) (option_to_list (mapping name)) → old ++ marks_on_names mapping names ≡ all → new ++ marks_on_names mapping rest ≡ all
name-more mapping names rest name old new all is more before =
    ap (λ l. l ++ marks_on_names mapping rest) more
    ∙ (append_assoc old (map (λ t. mark_on t flag.has_non_ir_ref) (option_to_list (mapping name))) (marks_on_names mapping rest)
    ∙ (ap (λ l. old ++ l) (one (mapping name)) ∙ (ap (λ ns. old ++ marks_on_names mapping ns) (sym is) ∙ before)))
  where
    one : (o : Option ℕ) → map (λ t. mark_on t flag.has_non_ir_ref) (option_to_list o) ++ marks_on_names mapping rest ≡ map (λ t. mark_on t flag.has_non_ir_ref) (cons_option o (filter_map mapping rest))
    one None = refl
    one (Some t) = refl

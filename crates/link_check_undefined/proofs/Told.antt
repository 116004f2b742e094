-- The references that stay undefined by columns are those of the selection of which these tell.
use Rattle.std.proofs.Common.{◌≡◌, ℕ, zero, suc, ◌+◌, ◌&&◌, ◌∙◌, Bool, true, false, List, [], ◌∷◌, Option, Some, None, cond, filter, if◌then◌else◌, slice_get, refl, sym, ap, subst, add-zero, arith}
use Rattle.std.specs.Prelude.{IsTrue}
use Rattle.std.specs.List.{enumerate_from}
use Rattle.std.specs.Option.{option_map_or}
use Rattle.link_input.specs.Symbols.{Symbol}
use Rattle.link_rules.specs.Loading.{is_origin_loaded}
use Rattle.link_rules.specs.Places.{Bytes}
use Rattle.link_rules.specs.Selection.{Selection, loaded_target, selection_of, target_of}
use Rattle.link_rules.specs.Targets.{kept_target}
use Rattle.link_rules.specs.Undefined.{Numbered, is_target_missing, left_undefined, stays_undefined}
use Rattle.link_rules.specs.World.{Stage, is_reference}
use Rattle.link_rules.proofs.Twice.{slice_get-each_from}
use Rattle.link_check_targets.specs.Stages.{stage_targets}
use Rattle.link_check_targets.specs.Tables.{target_at}
use Rattle.link_check_undefined.specs.Columns.{Known, is_missing, left_in, stays}
use Rattle.link_check_undefined.specs.Told.{TellsOf}

-- tests that agree on each symbol with its id keep the same
kept-alike : (p q : Numbered → Bool) (n : ℕ) (xs : List Symbol) → ((k : ℕ) (x : Symbol) → slice_get xs k ≡ Some x → p (n + k, x) ≡ q (n + k, x))
    → filter p (enumerate_from n xs) ≡ filter q (enumerate_from n xs)
kept-alike p q n [] same = refl
kept-alike p q n (x ∷ xs) same =
    let head : p (n, x) ≡ q (n, x) = subst (λ k. p (k, x) ≡ q (k, x)) (add-zero n) (same zero x refl) in
    let rest = kept-alike p q (n + 1) xs (λ k y at. subst (λ m. p (m, y) ≡ q (m, y)) (next k) (same (suc k) y at)) in
    (λ i. cond (head i) ((n, x) ∷ rest i) (rest i))
  where
    next : (k : ℕ) → n + suc k ≡ n + 1 + k
    next k = omega arith

both : (a b : Bool) → a ≡ true → b ≡ true → (a && b) ≡ true
both true b first second = second
both false b first second = cc

-- nothing that is loaded stands for a reference, by the columns of the selection itself
own-missing : (l : Selection) (targets : List (Option ℕ)) (u : Symbol) (target : Option ℕ)
    → is_missing (record { symbols = l.stage.symbols; marks = l.marks; targets = targets }) u target ≡ is_target_missing l u target
own-missing l targets u None = refl
own-missing l targets u (Some t) = refl

module _ (symbols : List Symbol) (marks : List Bool) (targets : List (Option ℕ)) (sections : List Bytes) (table : List ℕ) (l : Selection)
    (is : TellsOf symbols marks targets sections table l) where
  abbrev columns : Known
  columns = record { symbols = symbols; marks = marks; targets = targets }

  missing-is : (u : Symbol) (target : Option ℕ) → is_missing columns u target ≡ is_target_missing l u target
  missing-is u target =
      (λ i. is_missing (record { symbols = sym is.symbols_are i; marks = sym is.marks_are i; targets = targets }) u target) ∙ own-missing l targets u target

  -- the symbol of this id is such a reference
  pub stays-is : (s : ℕ) (u : Symbol) → slice_get symbols s ≡ Some u → stays columns (s, u) ≡ stays_undefined l (s, u)
  stays-is s u at =
      by (is_reference u) (is_origin_loaded marks u.origin) refl refl
      ∙ ap (λ (m : List Bool). is_reference u && is_origin_loaded m u.origin && is_target_missing l u (target_of l s)) (sym is.marks_are)
    where
      by : (refers loaded : Bool) → is_reference u ≡ refers → is_origin_loaded marks u.origin ≡ loaded
          → (refers && loaded && is_missing columns u (target_at targets s)) ≡ (refers && loaded && is_target_missing l u (target_of l s))
      by true true refers loaded =
          ap (is_missing columns u) (is.targets_are s u at (both (is_reference u) (is_origin_loaded marks u.origin) refers loaded)) ∙ missing-is u (target_of l s)
      by true false refers loaded = refl
      by false true refers loaded = refl
      by false false refers loaded = refl

  -- all of them
  pub left-is : left_in columns ≡ left_undefined l
  left-is =
      kept-alike (stays columns) (stays_undefined l) 0 symbols step
      ∙ ap (λ (xs : List Symbol). filter (stays_undefined l) (enumerate_from 0 xs)) (sym is.symbols_are)
    where
      zero_add : (k : ℕ) → 0 + k ≡ k
      zero_add k = omega arith

      step : (k : ℕ) (x : Symbol) → slice_get symbols k ≡ Some x → stays columns (0 + k, x) ≡ stays_undefined l (0 + k, x)
      step k x at = subst (λ m. stays columns (m, x) ≡ stays_undefined l (m, x)) (sym (zero_add k)) (stays-is k x at)

-- where it is a reference of a loaded object, the target that a stage has for it is that of the selection
pub target-tells : (w : Stage) (marks : List Bool) (s : ℕ) (u : Symbol) → slice_get w.symbols s ≡ Some u → IsTrue (is_reference u && is_origin_loaded marks u.origin)
    → target_at (stage_targets w) s ≡ target_of (selection_of w marks) s
target-tells w marks s u at loaded =
    ap (λ (o : Option (Option ℕ)). option_map_or (λ (t : Option ℕ). t) o None) (slice_get-each_from (λ k x. if is_reference x then kept_target w k x else None) 0 w.symbols s u at)
    ∙ (by (is_reference u) (is_origin_loaded marks u.origin) loaded
    ∙ sym (ap (λ (o : Option (Option ℕ)). option_map_or (λ (t : Option ℕ). t) o None) (slice_get-each_from (loaded_target w marks) 0 w.symbols s u at)))
  where
    by : (refers held : Bool) → (refers && held) ≡ true → (if refers then kept_target w (0 + s) u else None) ≡ (if refers && held then kept_target w (0 + s) u else None)
    by true true is = refl
    by true false is = absurd cc
    by false held is = refl

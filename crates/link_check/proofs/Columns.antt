-- Columns of a claimed link are those of its selection.
use Rattle.std.proofs.Common.{◌≡◌, ◌+◌, ◌&&◌, ◌∙◌, ℕ, Bool, true, false, List, Option, Some, None, slice_get, refl, sym, ap, arith, if◌then◌else◌}
use Rattle.std.specs.Option.{option_map_or}
use Rattle.link_input.specs.Symbols.{Symbol}
use Rattle.link_rules.specs.Loading.{is_origin_loaded}
use Rattle.link_rules.specs.Places.{each_from}
use Rattle.link_rules.specs.Selection.{loaded_target}
use Rattle.link_rules.specs.Targets.{kept_target}
use Rattle.link_rules.specs.World.{Stage, is_reference}
use Rattle.link_rules.proofs.Twice.{slice_get-each_from}
use Rattle.link_check_targets.specs.Stages.{stage_targets}
use Rattle.link_check_targets.proofs.Columns.{each-alike}
use Rattle.link_check.specs.Columns.{loaded_target_at}

-- both tests, in either order
both : (reference loaded : Bool) (t : Option ℕ) → (if loaded then (if reference then t else None) else None) ≡ (if reference && loaded then t else None)
both true true t = refl
both true false t = refl
both false true t = refl
both false false t = refl

-- the column of targets of loaded references
pub loaded-targets-are : (w : Stage) (marks : List Bool) (symbols : List Symbol) (targets : List (Option ℕ)) → w.symbols ≡ symbols → targets ≡ stage_targets w
    → each_from (loaded_target_at marks targets) 0 symbols ≡ each_from (loaded_target w marks) 0 w.symbols
loaded-targets-are w marks symbols targets same told =
    ap (λ (l : List Symbol). each_from (loaded_target_at marks targets) 0 l) (sym same)
    ∙ (ap (λ (ts : List (Option ℕ)). each_from (loaded_target_at marks ts) 0 w.symbols) told
    ∙ each-alike (loaded_target_at marks (stage_targets w)) (loaded_target w marks) 0 w.symbols step)
  where
    zero_add : (k : ℕ) → 0 + k ≡ k
    zero_add k = omega arith

    at-place : (k : ℕ) (x : Symbol) → slice_get w.symbols k ≡ Some x → loaded_target_at marks (stage_targets w) k x ≡ loaded_target w marks k x
    at-place k x at =
        ap (λ (o : Option (Option ℕ)). if is_origin_loaded marks x.origin then option_map_or (λ (t : Option ℕ). t) o None else None)
        (slice_get-each_from (λ s u. if is_reference u then kept_target w s u else None) 0 w.symbols k x at
        ∙ ap (λ m. Some (if is_reference x then kept_target w m x else None)) (zero_add k))
        ∙ both (is_reference x) (is_origin_loaded marks x.origin) (kept_target w k x)

    step : (k : ℕ) (x : Symbol) → slice_get w.symbols k ≡ Some x → loaded_target_at marks (stage_targets w) (0 + k) x ≡ loaded_target w marks (0 + k) x
    step k x at = ap (λ m. loaded_target_at marks (stage_targets w) m x) (zero_add k) ∙ (at-place k x at ∙ ap (λ m. loaded_target w marks m x) (sym (zero_add k)))

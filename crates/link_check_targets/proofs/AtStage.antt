-- What is looked up by names is what a stage says.
use Rattle.std.proofs.Common.{◌≡◌, ◌+◌, ◌&&◌, ◌∙◌, ℕ, Bool, true, false, List, [], Option, Some, None, map, slice_get, refl, sym, ap, arith, if◌then◌else◌}
use Rattle.std.specs.Prelude.{not, option_and_then}
use Rattle.std.specs.Option.{option_map_or, option_or}
use Rattle.link_input.specs.Entries.{is_weak}
use Rattle.link_input.specs.Symbols.{Symbol, entry_passes}
use Rattle.link_rules.specs.Loading.{request_between, request_of}
use Rattle.link_rules.specs.Places.{Bytes, each_from}
use Rattle.link_rules.specs.Targets.{is_open, kept_target, name_table, target, target_in}
use Rattle.link_rules.specs.Undefined.{is_weak_symbol}
use Rattle.link_rules.specs.World.{Earlier, Stage, is_reference}
use Rattle.link_rules.proofs.Twice.{slice_get-each_from}
use Rattle.link_check_names.specs.Named.{Named}
use Rattle.link_check_targets.specs.Stages.{IsFirstStage, stage_requests, stage_targets}
use Rattle.link_check_targets.specs.Tables.{reference_target, request_by, table_of, target_at, target_by}
use Rattle.link_check_targets.proofs.Columns.{each-alike, each-map}

-- what a reference stands for
target-is : (weak : Bool) (n : Named) (w : Stage) → IsFirstStage weak n w → (u : Symbol) → target_by weak n u ≡ target w u
target-is weak n w is u =
    sym (ap (λ b. target_in b (name_table w) (is_open u) u.name u.version) is.weak
    ∙ (ap (λ (symbols : List Symbol). target_in weak (table_of (record { symbols = symbols; wrap = w.options.wrap })) (is_open u) u.name u.version) is.symbols
    ∙ ap (λ (wrap : List Bytes). target_in weak (table_of (record { symbols = n.symbols; wrap = wrap })) (is_open u) u.name u.version) is.wrap))

-- before the first batch nothing is kept
kept-is : (w : Stage) → (s : ℕ) (u : Symbol) (earlier : Earlier) → w.earlier ≡ earlier → earlier.targets ≡ [] → kept_target w s u ≡ target w u
kept-is w s u earlier is none =
    ap (λ (e : Earlier). option_or (option_map_or (λ (t : Option ℕ). t) (slice_get e.targets s) None) (target w u)) is
    ∙ ap (λ (targets : List (Option ℕ)). option_or (option_map_or (λ (t : Option ℕ). t) (slice_get targets s) None) (target w u)) none

-- the column of targets is that of the stage
pub targets-are : (weak : Bool) (n : Named) (w : Stage) → IsFirstStage weak n w → map (reference_target weak n) n.symbols ≡ stage_targets w
targets-are weak n w is =
    ap (map (reference_target weak n)) (sym is.symbols)
    ∙ (each-map (reference_target weak n) 0 w.symbols
    ∙ each-alike (λ s u. reference_target weak n u) (λ s u. if is_reference u then kept_target w s u else None) 0 w.symbols
    (λ k u at. ap (λ (t : Option ℕ). if is_reference u then t else None) (target-is weak n w is u ∙ sym (kept-is w (0 + k) u _ is.first refl))))

-- what a symbol with the target of its id asks for
asks : (w : Stage) (s : ℕ) (u : Symbol) (kept : Option ℕ) (reference : Bool)
    → (if reference && not (is_weak_symbol u) then option_and_then (request_between w u) (if reference then kept else None) else None)
    ≡ (if reference && not (entry_passes (λ e. is_weak e.binding) u.origin) then option_and_then (request_between w u) kept else None)
asks w s u kept true = refl
asks w s u kept false = refl

-- the column of requests is that of the stage
pub requests-are : (w : Stage) (symbols : List Symbol) (targets : List (Option ℕ)) → w.symbols ≡ symbols → targets ≡ stage_targets w
    → each_from (λ s u. request_by symbols u (target_at targets s)) 0 symbols ≡ stage_requests w
requests-are w symbols targets same told =
    ap (λ (l : List Symbol). each_from (λ s u. request_by l u (target_at targets s)) 0 l) (sym same)
    ∙ (ap (λ (ts : List (Option ℕ)). each_from (λ s u. request_by w.symbols u (target_at ts s)) 0 w.symbols) told
    ∙ each-alike (λ s u. request_by w.symbols u (target_at (stage_targets w) s)) (request_of w) 0 w.symbols step)
  where
    zero_add : (k : ℕ) → 0 + k ≡ k
    zero_add k = omega arith

    at-place : (k : ℕ) (u : Symbol) → slice_get w.symbols k ≡ Some u → request_by w.symbols u (target_at (stage_targets w) k) ≡ request_of w k u
    at-place k u at =
        ap (λ (o : Option (Option ℕ)). request_by w.symbols u (option_map_or (λ (t : Option ℕ). t) o None))
        (slice_get-each_from (λ s x. if is_reference x then kept_target w s x else None) 0 w.symbols k u at
        ∙ ap (λ m. Some (if is_reference u then kept_target w m u else None)) (zero_add k))
        ∙ asks w k u (kept_target w k u) (is_reference u)

    step : (k : ℕ) (u : Symbol) → slice_get w.symbols k ≡ Some u → request_by w.symbols u (target_at (stage_targets w) (0 + k)) ≡ request_of w (0 + k) u
    step k u at = ap (λ m. request_by w.symbols u (target_at (stage_targets w) m)) (zero_add k) ∙ (at-place k u at ∙ ap (λ m. request_of w m u) (sym (zero_add k)))

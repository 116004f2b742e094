use Rattle.std.proofs.Common.{◌≡◌, ◌∙◌, ◌+◌, ◌++◌, ◌∷◌, [], ℕ, List, None, Option, Some, ap, append-nil, map, slice_get, subst, sym}
use Rattle.std.specs.Prelude.{option_map, option_to_list}
use Rattle.link_db_files.specs.GroupFiles.{symbols_in}
use Rattle.link_db_files.specs.HeldFiles.{HeldFiles}
use Rattle.link_db_files.specs.Sources.{sources_of}
use Rattle.link_db_files.specs.declared.sources.SymbolSource.{SymbolSource}
use Rattle.link_input.specs.Symbols.{Symbol}
use Rattle.link_rules.proofs.Settled.{some_same}
use Rattle.link_db_symbols.specs.Lookups.{target_at}
use Rattle.link_db_symbols.specs.Walk.{with_ids}
use Rattle.link_db.specs.Seen.{seen}
use Rattle.link_resolve_requests.specs.Requests.{request_by}
use Rattle.link_resolve_extraction.specs.Asked.{Known, found_mark, found_target, known_by, mark_by, meant, new_target}
use Rattle.link_resolve_extraction.proofs.Unasked.{meant_anew, meant_nothing, nothing_marked, nothing_requested, nothing_targeted, nothing_there, numbered_place, numbered_there}
use Rattle.link_resolve_extraction.proofs.found.read_at.Given.{Over}
use Rattle.link_resolve_extraction.proofs.found.read_at.Goals as goal

-- the number is that of the symbol's name
pub reference_target-requires : goal.reference_target-requires
reference_target-requires g c =
    let all = symbols_in (seen c.args.db.now).mapping.files.groups in
    let symbols = c.args.symbols.now in
    let x = c.symbol_at-symbol.result in
    let own : slice_get all (symbols.next + c.args.at) ≡ Some x = c.requires.own c.args.at (symbols.next + c.args.at, x) (numbered_there symbols.next symbols.left c.args.at x c.symbol_at-symbol.ensures) in
    record { hashed = c.in-Some.ensures.number x (subst (λ k. slice_get all k ≡ Some x) (sym c.id_at-id.ensures) own) }

module _ (g : Over) (c : goal.In_default g) (s : ℕ × Symbol) (at : slice_get (with_ids c.args.symbols.now) c.args.at ≡ Some s) where
  -- it stands for nothing anew
  unasked : new_target (known_by g.P.Platform.WEAK_SYMBOLS_OVERRIDE_COMMON (seen c.args.db.now) c.args.settled.now) s ≡ None
  unasked =
      let place = numbered_place c.args.symbols.now.next c.args.symbols.now.left c.args.at s at in
      nothing_there (known_by g.P.Platform.WEAK_SYMBOLS_OVERRIDE_COMMON (seen c.args.db.now) c.args.settled.now) (symbols_in (seen c.args.db.now).mapping.files.groups) c.id_at-id.result s (c.id_at-id.ensures ∙ sym place.1)
      (c.requires.own c.args.at s at) (c.asked_anew.ensures.none c.in_default.is)

pub returns-in_default-clause-requests : goal.returns-in_default-clause-requests
returns-in_default-clause-requests g c = λ s at.
    let items = c.args.requests.now.items in
    sym (append-nil items) ∙ ap (λ l. items ++ l) (sym (nothing_requested (known_by g.P.Platform.WEAK_SYMBOLS_OVERRIDE_COMMON (seen c.args.db.now) c.args.settled.now) s (unasked g c s at)))

pub returns-in_default-clause-targets : goal.returns-in_default-clause-targets
returns-in_default-clause-targets g c = λ s at.
    let items = map found_target c.args.references.now.items in
    sym (append-nil items) ∙ ap (λ l. items ++ l) (sym (nothing_targeted (known_by g.P.Platform.WEAK_SYMBOLS_OVERRIDE_COMMON (seen c.args.db.now) c.args.settled.now) s (unasked g c s at)))

pub returns-in_default-clause-marks : goal.returns-in_default-clause-marks
returns-in_default-clause-marks g c = λ s at.
    let items = map found_mark c.args.references.now.items in
    sym (append-nil items) ∙ ap (λ l. items ++ l) (sym (nothing_marked (known_by g.P.Platform.WEAK_SYMBOLS_OVERRIDE_COMMON (seen c.args.db.now) c.args.settled.now) s (unasked g c s at)))

module _ (g : Over) (c : goal.In_default-reference_target g) (s : ℕ × Symbol) (at : slice_get (with_ids c.args.symbols.now) c.args.at ≡ Some s) where
  -- it means nothing
  meaningless : new_target (known_by g.P.Platform.WEAK_SYMBOLS_OVERRIDE_COMMON (seen c.args.db.now) c.args.settled.now) s ≡ None
  meaningless =
      let known : Known = known_by g.P.Platform.WEAK_SYMBOLS_OVERRIDE_COMMON (seen c.args.db.now) c.args.settled.now in
      let place = numbered_place c.args.symbols.now.next c.args.symbols.now.left c.args.at s at in
      let same : c.symbol_at-symbol.result ≡ s.1 = some_same c.symbol_at-symbol.result s.1 (sym c.symbol_at-symbol.ensures ∙ place.0) in
      meant_nothing known s.0 s.1 (subst (λ (x : Symbol). meant known x ≡ None) same (sym (c.reference_target.ensures c.args.settled.now) ∙ c.in_default-reference_target.is))

pub returns-in_default-reference_target-clause-requests : goal.returns-in_default-reference_target-clause-requests
returns-in_default-reference_target-clause-requests g c = λ s at.
    let items = c.args.requests.now.items in
    sym (append-nil items) ∙ ap (λ l. items ++ l) (sym (nothing_requested (known_by g.P.Platform.WEAK_SYMBOLS_OVERRIDE_COMMON (seen c.args.db.now) c.args.settled.now) s (meaningless g c s at)))

pub returns-in_default-reference_target-clause-targets : goal.returns-in_default-reference_target-clause-targets
returns-in_default-reference_target-clause-targets g c = λ s at.
    let items = map found_target c.args.references.now.items in
    sym (append-nil items) ∙ ap (λ l. items ++ l) (sym (nothing_targeted (known_by g.P.Platform.WEAK_SYMBOLS_OVERRIDE_COMMON (seen c.args.db.now) c.args.settled.now) s (meaningless g c s at)))

pub returns-in_default-reference_target-clause-marks : goal.returns-in_default-reference_target-clause-marks
returns-in_default-reference_target-clause-marks g c = λ s at.
    let items = map found_mark c.args.references.now.items in
    sym (append-nil items) ∙ ap (λ l. items ++ l) (sym (nothing_marked (known_by g.P.Platform.WEAK_SYMBOLS_OVERRIDE_COMMON (seen c.args.db.now) c.args.settled.now) s (meaningless g c s at)))

module _ (g : Over) (c : goal.In_ok-push_reference g) (s : ℕ × Symbol) (at : slice_get (with_ids c.args.symbols.now) c.args.at ≡ Some s) where
  -- what is known of the symbol
  abbrev known_here : Known
  known_here = known_by g.P.Platform.WEAK_SYMBOLS_OVERRIDE_COMMON (seen c.args.db.now) c.args.settled.now

  -- it is the one at the place
  same_symbol : c.symbol_at-symbol.result ≡ s.1
  same_symbol = some_same c.symbol_at-symbol.result s.1 (sym c.symbol_at-symbol.ensures ∙ (numbered_place c.args.symbols.now.next c.args.symbols.now.left c.args.at s at).0)

  -- with its id
  same_id : c.id_at-id.result ≡ s.0
  same_id = c.id_at-id.ensures ∙ sym (numbered_place c.args.symbols.now.next c.args.symbols.now.left c.args.at s at).1

  -- and stands for this anew
  stands_anew : new_target known_here s ≡ Some c.in-Some-reference_target.target
  stands_anew =
      meant_anew known_here s.0 s.1 (subst (λ k. target_at c.args.settled.now k ≡ None) same_id c.in-Some.ensures.anew)
      ∙ subst (λ (x : Symbol). meant known_here x ≡ Some c.in-Some-reference_target.target) same_symbol (sym (c.reference_target.ensures c.args.settled.now) ∙ c.in-Some-reference_target.is)

  -- where symbols stand is known
  same_sources : c.sources-sources.result.now ≡ known_here.sources
  same_sources = c.sources-sources.ensures ∙ ap (λ (h : HeldFiles g.row.P.Denot). sources_of (symbols_in h.groups)) c.files.ensures

pub returns-in_ok-push_reference-clause-requests : goal.returns-in_ok-push_reference-clause-requests
returns-in_ok-push_reference-clause-requests g c = λ s at.
    let items = c.args.requests.now.items in
    let target = c.in-Some-reference_target.target in
    let sources = sources_of (symbols_in (seen c.args.db.now).mapping.files.groups) in
    c.in_ok-push_request.ensures
    ∙ ap (λ o. items ++ option_to_list o)
    (c.request_by.ensures
    ∙ (ap (λ (ss : List SymbolSource). request_by ss c.symbol_at-symbol.result (Some target)) (same_sources g c s at)
    ∙ (ap (λ (x : Symbol). request_by sources x (Some target)) (same_symbol g c s at)
    ∙ ap (λ (o : Option ℕ). request_by sources s.1 o) (sym (stands_anew g c s at)))))

pub returns-in_ok-push_reference-clause-targets : goal.returns-in_ok-push_reference-clause-targets
returns-in_ok-push_reference-clause-targets g c = λ s at.
    let items = map found_target c.args.references.now.items in
    c.in_ok-push_reference.ensures.targets
    ∙ (ap (λ k. items ++ (k, c.in-Some-reference_target.target) ∷ []) (same_id g c s at)
    ∙ ap (λ (o : Option ℕ). items ++ option_to_list (option_map (λ t. (s.0, t)) o)) (sym (stands_anew g c s at)))

pub returns-in_ok-push_reference-clause-marks : goal.returns-in_ok-push_reference-clause-marks
returns-in_ok-push_reference-clause-marks g c = λ s at.
    let items = map found_mark c.args.references.now.items in
    let target = c.in-Some-reference_target.target in
    let sources = sources_of (symbols_in (seen c.args.db.now).mapping.files.groups) in
    c.in_ok-push_reference.ensures.marks
    ∙ (ap (λ (ss : List SymbolSource). items ++ mark_by ss c.symbol_at-symbol.result target ∷ []) (same_sources g c s at)
    ∙ (ap (λ (x : Symbol). items ++ mark_by sources x target ∷ []) (same_symbol g c s at)
    ∙ ap (λ (o : Option ℕ). items ++ option_to_list (option_map (mark_by sources s.1) o)) (sym (stands_anew g c s at))))

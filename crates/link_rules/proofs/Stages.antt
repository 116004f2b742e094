-- What holds of each stage that a link comes to: the symbols of its objects are its own, and what earlier batches settled is done.
use Rattle.std.proofs.Common.{◌≡◌, ℕ, ◌+◌, ◌<◌, List, [], ◌∷◌, ◌++◌, Bool, true, false, length, map, cond, refl, sym, ◌∙◌, ap, subst, inl, inr, arith, Some, None, Option, Contains, slice_get, length-append}
use Rattle.std.specs.Prelude.{◌&&◌, ◌||◌, not, option_and_then, zip, if◌then◌else◌, unwrap_or}
use Rattle.std.specs.Option.{option_map_or, option_or}
use Rattle.link_closure.specs.Closure.{is_marked}
use Rattle.link_closure.specs.declared.workload.Mark.{Mark}
use Rattle.link_closure.specs.Workload.{IsWithin, bits_for}
use Rattle.link_closure.proofs.Joins.{within_trans, within_right, bits_has, contains_append, contains_right}
use Rattle.link_input.specs.declared.world.ProcessedLinkerScript.{ProcessedLinkerScript}
use Rattle.link_input.specs.declared.world.StubLibrary.{StubLibrary}
use Rattle.link_input.specs.Entries.{is_undefined, is_local, is_weak}
use Rattle.link_input.specs.InputFiles.{Batch, batch_files, object, linker_script, stub_input, stub_symbols}
use Rattle.link_input.specs.ObjectFile.{ObjectFile}
use Rattle.link_input.specs.PreludeSymbols.{prelude_symbols}
use Rattle.link_input.specs.Symbols.{Symbol, Origin, in_prelude, in_object, in_script, in_stub, symbol_of, object_symbol, stub_strength, symbols_of, object_in, is_shared, entry_passes}
use Rattle.link_rules.specs.Places.{each_from, same_number}
use Rattle.link_rules.specs.World.{World, Stage, start_of, with_batch, is_reference}
use Rattle.link_rules.specs.Targets.{earlier_target, target, kept_target}
use Rattle.link_rules.specs.Loading.{IsLoaded, request_of, request_between, is_origin_loaded}
use Rattle.link_rules.specs.Marking.{reference_flags, reference_marks, named_marks, all_marks, marked_symbol, flags_before, ended}
use Rattle.link_rules.specs.Selection.{Selection, selection_of, loaded_target, target_of}
use Rattle.link_rules.specs.Opening.{opening_flags}
use Rattle.link_rules.specs.Orderly.{IsDone, IsOrderly}
use Rattle.link_rules.specs.Work.{ComesTo, IsStageOf}
use Rattle.link_rules.proofs.Settled.{here, nothing_in, none_some, some_same, both_true, option_or_cases}
use Rattle.link_rules.proofs.Twice.{slice_get-each_from}
use Rattle.link_rules.proofs.TwiceOver.{slice_get-more, each_from-none}
use Rattle.link_rules.proofs.Members.{map_from, joined_in, zipped_in}
use Rattle.link_rules.proofs.Ranges.{HasSymbol, target-symbol}

module _ (P : Stage → Type 0) (grows : (w : Stage) (b : Batch) → P w → P (with_batch w b))
    (stays : (w : Stage) (marks : List Bool) → P w → IsLoaded w marks → P (ended (selection_of w marks))) where
  -- what holds before a batch, and goes on to hold, holds at each stage to which a link comes from there
  comes : (before : Stage) (b : Batch) (later : List Batch) (w : Stage) → P before → ComesTo before b later w → P w
  comes before b [] w held to = subst P (sym to) (grows before b held)
  comes before b (c ∷ cs) w held (inl to) = subst P (sym to) (grows before b held)
  comes before b (c ∷ cs) w held (inr on) =
      comes (ended (selection_of (with_batch before b) on.0)) c cs w (stays (with_batch before b) on.0 (grows before b held) on.1) on.2

  -- the same of all batches of a world
  pub comes-world : (world : World) (w : Stage) → P (start_of world) → IsStageOf world w → P w
  comes-world world w held to = comes (start_of world) world.first world.later w held to

-- ---- symbols of objects

-- only objects' symbols are references
pub reference_object : (u : Symbol) → is_reference u ≡ true → (f : ℕ) × (object_in u.origin ≡ Some f)
reference_object u is = by_source u.origin (both_true (entry_passes (λ e. is_undefined e.place && not (is_local e.binding)) u.origin) _ is).0
  where
    by_source : (source : Origin) → entry_passes (λ e. is_undefined e.place && not (is_local e.binding)) source ≡ true → (f : ℕ) × (object_in source ≡ Some f)
    by_source (in_prelude d) same = cc
    by_source (in_object f shared e) same = (f, refl)
    by_source (in_script d) same = cc
    by_source (in_stub strength) same = cc

-- where one of these symbols stands in an object, the place of that object is below a number
HoldsWithin : ℕ → List Symbol → Type 0
HoldsWithin n symbols = (x : Symbol) (f : ℕ) → Contains symbols x → object_in x.origin ≡ Some f → f < n

-- the stubs of a batch have no symbols of objects
stubs_within : (n m : ℕ) (stubs : List StubLibrary) → HoldsWithin m (symbols_of n (map stub_input stubs))
unfolding HoldsWithin
stubs_within n m [] x f within is = absurd (nothing_in x within)
stubs_within n m (s ∷ ss) x f within is = elim (contains_append x (map (λ t. symbol_of t.name (in_stub (stub_strength t))) (stub_symbols s)) (symbols_of (n + 0) (map stub_input ss)) within) [
  | inl first ↦ by_symbol (map_from (λ t. symbol_of t.name (in_stub (stub_strength t))) (stub_symbols s) x first).2
  | inr deeper ↦ stubs_within (n + 0) m ss x f deeper is
]
  where
    by_symbol : {strength : _} {name : List ℕ} → symbol_of name (in_stub strength) ≡ x → f < m
    by_symbol same = absurd (none_some f (ap (λ (y : Symbol). object_in y.origin) same ∙ is))

-- nor have its scripts
scripts_within : (n m : ℕ) (scripts : List ProcessedLinkerScript) (stubs : List StubLibrary)
    → HoldsWithin m (symbols_of n (map linker_script scripts ++ map stub_input stubs))
unfolding HoldsWithin
scripts_within n m [] stubs x f within is = stubs_within n m stubs x f within is
scripts_within n m (s ∷ ss) stubs x f within is = elim (contains_append x (map (λ d. symbol_of d.name (in_script d)) s.symbol_defs) (symbols_of (n + 0) (map linker_script ss ++ map stub_input stubs)) within) [
  | inl first ↦ by_symbol (map_from (λ d. symbol_of d.name (in_script d)) s.symbol_defs x first)
  | inr deeper ↦ scripts_within (n + 0) m ss stubs x f deeper is
]
  where
    by_symbol : (d : _) × Contains s.symbol_defs d × (symbol_of d.name (in_script d) ≡ x) → f < m
    by_symbol it = absurd (none_some f (ap (λ (y : Symbol). object_in y.origin) it.2 ∙ is))

-- the symbols of a batch stand in its objects
batch_within : (n m : ℕ) (objects : List ObjectFile) (scripts : List ProcessedLinkerScript) (stubs : List StubLibrary) → n + length objects ≡ m
    → HoldsWithin m (symbols_of n (map object objects ++ (map linker_script scripts ++ map stub_input stubs)))
unfolding HoldsWithin
batch_within n m [] scripts stubs count x f within is = scripts_within n m scripts stubs x f within is
batch_within n m (o ∷ os) scripts stubs count x f within is =
    elim (contains_append x (map (object_symbol n o) o.object.symbols) (symbols_of (n + 1) (map object os ++ (map linker_script scripts ++ map stub_input stubs))) within) [
      | inl first ↦ by_symbol (map_from (object_symbol n o) o.object.symbols x first)
      | inr deeper ↦ batch_within (n + 1) m os scripts stubs (omega arith) x f deeper is
    ]
  where
    by_symbol : (e : _) × Contains o.object.symbols e × (object_symbol n o e ≡ x) → f < m
    by_symbol it =
        let same : n ≡ f = some_same n f (ap (λ (y : Symbol). object_in y.origin) it.2 ∙ is) in
        omega arith

-- ---- what references ask for

-- what a reference asks for, if what it stands for is this symbol
abbrev between_at : Symbol → Option Symbol → Option ℕ
between_at u o =
    if (is_shared u.origin && option_map_or (λ x. is_shared x.origin) o false) || same_number (object_in u.origin) (option_and_then (λ x. object_in x.origin) o)
    then None else option_and_then (λ x. object_in x.origin) o

-- the same, if it is a reference that is not weak
abbrev pub asked : Symbol → Option Symbol → Option ℕ
asked u o = if is_reference u && not (entry_passes (λ e. is_weak e.binding) u.origin) then between_at u o else None

-- what a reference asks for is told by what it stands for
pub request_is : (w : Stage) (s : ℕ) (u : Symbol) (t : ℕ) (y : Symbol) → kept_target w s u ≡ Some t → slice_get w.symbols t ≡ Some y
    → request_of w s u ≡ asked u (Some y)
request_is w s u t y kept at =
    ap (λ o. cond (is_reference u && not (entry_passes (λ e. is_weak e.binding) u.origin)) (option_and_then (request_between w u) o) None) kept
    ∙ ap (asked u) at

-- ---- what is done

-- so it is at the start
pub orderly-start : (world : World) → IsOrderly (start_of world)
orderly-start world = record {
  loaded = omega arith;
  objects = λ x f within is. by_symbol x f is (map_from (λ d. symbol_of d.name (in_prelude d)) (prelude_symbols world.options) x within);
  done = λ s t is. absurd (none_some t is);
}
  where
    by_symbol : (x : Symbol) (f : ℕ) → object_in x.origin ≡ Some f → (d : _) × Contains (prelude_symbols world.options) d × (symbol_of d.name (in_prelude d) ≡ x) → f < 0
    by_symbol x f is it = absurd (none_some f (ap (λ (y : Symbol). object_in y.origin) it.2 ∙ is))

-- what is done stays done where a batch comes
done-grows : (w : Stage) (b : Batch) (s : ℕ) (u : Symbol) (t : ℕ) → earlier_target w s ≡ Some t → IsDone w s u t → IsDone (with_batch w b) s u t
done-grows w b s u t settled done = record {
  reference = done.reference;
  of_loaded = done.of_loaded;
  symbol = done.symbol;
  at = at;
  requested = λ g asks. done.requested g (request_is w s u t done.symbol (ap (λ o. option_or o (target w u)) settled) done.at
      ∙ sym (request_is (with_batch w b) s u t done.symbol (ap (λ o. option_or o (target (with_batch w b) u)) settled) at) ∙ asks);
  marked = done.marked;
}
  where
    at : slice_get (with_batch w b).symbols t ≡ Some done.symbol
    at = slice_get-more w.symbols _ t done.symbol done.at

-- so it stays where a batch comes
pub orderly-grows : (w : Stage) (b : Batch) → IsOrderly w → IsOrderly (with_batch w b)
unfolding HoldsWithin
orderly-grows w b orderly = record {
  loaded = let held = orderly.loaded in omega (arith, longer);
  objects = λ x f within is. elim (contains_append x w.symbols (symbols_of (length w.objects) (batch_files b)) within) [
    | inl old ↦ let below = orderly.objects x f old is in omega (arith, longer)
    | inr new ↦ batch_within (length w.objects) (length (w.objects ++ b.objects)) b.objects b.scripts b.stubs (sym longer) x f new is
  ];
  done = λ s t is.
      let it = orderly.done s t is in
      (it.0, slice_get-more w.symbols _ s it.0 it.1, done-grows w b s it.0 t is it.2);
}
  where
    longer : length (w.objects ++ b.objects) ≡ length w.objects + length b.objects
    longer = length-append w.objects b.objects

-- what stands where a test holds
chosen_some : (b : Bool) (o : Option ℕ) (t : ℕ) → cond b o None ≡ Some t → (b ≡ true) × (o ≡ Some t)
chosen_some true o t is = (refl, is)
chosen_some false o t is = absurd (none_some t is)

-- a symbol with a target is a reference of a loaded object
pub record IsTargetOf (w : Stage) (marks : List Bool) (s : ℕ) (u : Symbol) (t : ℕ) : Type 0 where
  pub reference : is_reference u ≡ true
  pub object : ℕ
  pub in_it : object_in u.origin ≡ Some object
  pub loaded : is_marked marks object ≡ true
  pub kept : kept_target w s u ≡ Some t

-- what the target of a symbol says
pub loaded_target-is : (w : Stage) (marks : List Bool) (s : ℕ) (u : Symbol) (t : ℕ) → loaded_target w marks s u ≡ Some t → IsTargetOf w marks s u t
loaded_target-is w marks s u t is =
    let split = chosen_some (is_reference u && is_origin_loaded marks u.origin) (kept_target w s u) t is in
    let both = both_true (is_reference u) (is_origin_loaded marks u.origin) split.0 in
    let of_object = reference_object u both.0 in
    record {
      reference = both.0;
      object = of_object.0;
      in_it = of_object.1;
      loaded = sym (ap (λ o. option_map_or (is_marked marks) o true) of_object.1) ∙ both.1;
      kept = split.1;
    }

-- where an id has a target there is a symbol that has it
targeted : (w : Stage) (marks : List Bool) (s t : ℕ) (o : Option Symbol) → slice_get w.symbols s ≡ o → target_of (selection_of w marks) s ≡ Some t
    → (u : Symbol) × (slice_get w.symbols s ≡ Some u) × (loaded_target w marks s u ≡ Some t)
targeted w marks s t None at is =
    absurd (none_some t (sym (ap (λ o. option_map_or (λ (u : Option ℕ). u) o None) (each_from-none (loaded_target w marks) 0 w.symbols s at)) ∙ is))
targeted w marks s t (Some u) at is =
    let zero_add : 0 + s ≡ s = omega arith in
    let stands = slice_get-each_from (loaded_target w marks) 0 w.symbols s u at ∙ ap (λ n. Some (loaded_target w marks n u)) zero_add in
    (u, at, sym (ap (λ o. option_map_or (λ (v : Option ℕ). v) o None) stands) ∙ is)

-- a kept target is there
pub kept_symbol : (w : Stage) → IsOrderly w → (s : ℕ) (u : Symbol) (t : ℕ) → kept_target w s u ≡ Some t → HasSymbol w t
kept_symbol w orderly s u t is = elim (option_or_cases (earlier_target w s) (target w u) t is) [
  | inl kept ↦ let it = orderly.done s t kept in record { symbol = it.2.symbol; at = it.2.at }
  | inr anew ↦ target-symbol w u t anew
]

-- the mark of a loaded reference is one of all marks
pub mark_in : (w : Stage) (marks : List Bool) (s : ℕ) (u : Symbol) (t : ℕ) (m : Mark) → slice_get w.symbols s ≡ Some u → loaded_target w marks s u ≡ Some t
    → Contains (reference_marks w u (Some t)) m → Contains (all_marks (selection_of w marks)) m
mark_in w marks s u t m at is within =
    contains_right m (named_marks w) _ (joined_in (λ (q : Symbol × Option ℕ). reference_marks w q.0 q.1) (zip w.symbols (each_from (loaded_target w marks) 0 w.symbols)) (u, loaded_target w marks s u) m
    (zipped_in (loaded_target w marks) 0 w.symbols s s u at (omega arith))
    (subst (λ o. Contains (reference_marks w u o) m) (sym is) within))

-- what a loaded reference asks for, and its mark, are done where the batch ends
done-now : (w : Stage) (marks : List Bool) (s : ℕ) (u : Symbol) (t : ℕ) → IsLoaded w marks → slice_get w.symbols s ≡ Some u → loaded_target w marks s u ≡ Some t
    → HasSymbol w t → earlier_target (ended (selection_of w marks)) s ≡ Some t → IsDone (ended (selection_of w marks)) s u t
done-now w marks s u t loaded at is has settled = record {
  reference = it.reference;
  of_loaded = λ f in_it. subst (λ g. is_marked marks g ≡ true) (some_same it.object f (sym it.in_it ∙ in_it)) it.loaded;
  symbol = has.symbol;
  at = has.at;
  requested = λ g asks. loaded.closed.1 it.object g it.loaded (
    s,
    u,
    at,
    it.in_it,
    request_is w s u t has.symbol it.kept has.at
        ∙ sym (request_is (ended l) s u t has.symbol (ap (λ o. option_or o (target (ended l) u)) settled) has.at) ∙ asks,
  );
  marked = subst (λ n. IsWithin (reference_flags u (is_shared has.symbol.origin)) n) (sym left) (subst (λ shared. IsWithin (reference_flags u shared) (marked_symbol w (all_marks l) t has.symbol)) (ap (λ o. option_map_or (λ (x : Symbol). is_shared x.origin) o false) has.at)
      (within_trans (bits_has t (all_marks l) made (mark_in w marks s u t made at is (here made [])) refl) (within_right (flags_before w t has.symbol) (bits_for t (all_marks l)))));
}
  where
    l : Selection
    l = selection_of w marks

    made : Mark
    made = record { symbol = t; bits = reference_flags u (option_map_or (λ (x : Symbol). is_shared x.origin) (slice_get w.symbols t) false) }

    it : IsTargetOf w marks s u t
    it = loaded_target-is w marks s u t is

    zero_add : 0 + t ≡ t
    zero_add = omega arith

    left : flags_before (ended l) t has.symbol ≡ marked_symbol w (all_marks l) t has.symbol
    left = ap (λ o. unwrap_or o (opening_flags w has.symbol)) (slice_get-each_from (marked_symbol w (all_marks l)) 0 w.symbols t has.symbol has.at
        ∙ ap (λ n. Some (marked_symbol w (all_marks l) n has.symbol)) zero_add)

-- so it stays where the batch ends
pub orderly-stays : (w : Stage) (marks : List Bool) → IsOrderly w → IsLoaded w marks → IsOrderly (ended (selection_of w marks))
orderly-stays w marks orderly loaded = record {
  loaded = let each = loaded.each in omega arith;
  objects = orderly.objects;
  done = λ s t is.
      let it = targeted w marks s t (slice_get w.symbols s) refl is in
      let kept = loaded_target-is w marks s it.0 t it.2 in
      (it.0, it.1, done-now w marks s it.0 t loaded it.1 it.2 (kept_symbol w orderly s it.0 t kept.kept) is);
}

-- each stage that a link comes to is orderly
pub orderly-stage : (world : World) (w : Stage) → IsStageOf world w → IsOrderly w
orderly-stage world w to = comes-world IsOrderly orderly-grows orderly-stays world w (orderly-start world) to

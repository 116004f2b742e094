-- The loaded objects at the end of a link are those that follow from what is found for roots at all of its stages.
use Rattle.std.proofs.Common.{◌≡◌, ℕ, suc, ◌+◌, ◌≤◌, ◌⊎◌, All, List, [], ◌∷◌, ◌++◌, length, Bool, true, false, cond, refl, sym, ◌∙◌, ap, subst, inl, inr, arith, Some, None, Option, Contains, slice_get, append_assoc}
use Rattle.std.specs.Prelude.{◌&&◌, ◌||◌, ◌==◌, IsTrue, Ok, find, filter_map, is_some, not, option_and_then, option_map, option_to_list}
use Rattle.std.specs.List.{cons_option, flat_map, list_any, range_with_len}
use Rattle.std.specs.Option.{option_map_or, option_or}
use Rattle.std.proofs.lemmas.Bool.{eqb-true, eq-eqb}
use Rattle.std.proofs.lemmas.Option.{slice_get_within}
use Rattle.std.proofs.lemmas.Grind.{flat_map-append}
use Rattle.std.proofs.lemmas.List.Elements.{All-cons, All-nil}
use Rattle.link_input.specs.declared.internal_symbols.InternalSymDefInfo.{InternalSymDefInfo}
use Rattle.link_input.specs.declared.world.ProcessedLinkerScript.{ProcessedLinkerScript}
use Rattle.link_input.specs.PreludeSymbols.{prelude_symbols}
use Rattle.link_closure.specs.Closure.{IsClosed, IsLeastClosed, IsPartOfEachClosed, is_marked}
use Rattle.link_closure.proofs.Joins.{contains_append, contains_left, contains_right}
use Rattle.link_input.specs.Entries.{is_weak}
use Rattle.link_input.specs.InputFiles.{Batch}
use Rattle.link_input.specs.ObjectFile.{ObjectFile, is_optional}
use Rattle.link_input.specs.Symbols.{Symbol, object_in, is_shared, entry_passes}
use Rattle.link_rules.specs.declared.explanation.Explanation.{Explanation}
use Rattle.link_rules.specs.declared.explanation.FoundRoot.{FoundRoot}
use Rattle.link_rules.specs.Places.{Bytes, is_number, same_number}
use Rattle.link_rules.specs.World.{World, Stage, object_of, start_of, with_batch, is_reference}
use Rattle.link_rules.specs.Names.{first_definition}
use Rattle.link_rules.specs.Targets.{earlier_target, target, kept_target}
use Rattle.link_rules.specs.Loading.{IsLoaded, HasEdge, IsRoot, entry_name, forced_names, holds_name, is_origin_loaded, is_required, redirect_targets, request_between, root_names, targets_of_placement}
use Rattle.link_rules.specs.Marking.{ended}
use Rattle.link_rules.specs.Orderly.{IsOrderly}
use Rattle.link_rules.specs.Selection.{Selection, loaded_target, selection_of, target_of}
use Rattle.link_rules.specs.Answer.{BatchesEnd, End, EndsWith}
use Rattle.link_rules.specs.Reasons.{LeadBack, Loads, is_mandatory, is_rooted, root_name_of}
use Rattle.link_rules.specs.Explained.{Explains, IsExplanation}
use Rattle.link_rules.specs.FoundRoots.{Passes, PassesFrom, found_at, found_entries, found_for, found_roots, lasting_names}
use Rattle.link_rules.proofs.Settled.{here, there, here_or_there, nothing_in, none_some, some_same}
use Rattle.link_rules.proofs.Twice.{slice_get-each_from}
use Rattle.link_rules.proofs.TwiceOver.{slice_get-more}
use Rattle.link_rules.proofs.Batches.{batch-goes-on, ok-same}
use Rattle.link_rules.proofs.Stages.{loaded_target-is, orderly-grows, orderly-start, orderly-stays}
use Rattle.link_rules.proofs.Rounds.{either, any-found, found-any}
use Rattle.link_rules.proofs.Members.{at_place, placed, joined_from, joined_in, range_in}
use Rattle.link_rules.proofs.WorldOnce.{one-loaded}
use Rattle.link_rules.proofs.Explaining.{each-back, one-explanation, is_number-true, and-both, or-left, or-right}

-- ---- what is left of the references of loaded objects

-- what a symbol asks for by what it stood for after an earlier batch
abbrev asked_before : Stage → ℕ → Symbol → Option ℕ
asked_before w s u = cond (entry_passes (λ e. is_weak e.binding) u.origin) None (option_and_then (request_between w u) (earlier_target w s))

-- some symbol of f asked for g so
abbrev LoadedBefore : Stage → ℕ → ℕ → Type 0
LoadedBefore w f g = (s : ℕ) × ((u : Symbol) × (slice_get w.symbols s ≡ Some u) × (object_in u.origin ≡ Some f) × (asked_before w s u ≡ Some g))

-- what earlier batches loaded follows from these roots
record IsFollowing (Root : ℕ → Type 0) (before : Stage) : Type 0 where
  closed : IsClosed Root (LoadedBefore before) (is_marked before.earlier.loaded)
  least : IsPartOfEachClosed Root (LoadedBefore before) (is_marked before.earlier.loaded)

-- what is asked for, where something is
strong_some : (weak : Bool) (o : Option ℕ) (g : ℕ) → cond weak None o ≡ Some g → (weak ≡ false) × (o ≡ Some g)
strong_some true o g is = absurd (none_some g is)
strong_some false o g is = (refl, is)

some_strong : (weak : Bool) (o : Option ℕ) (g : ℕ) → weak ≡ false → o ≡ Some g → cond weak None o ≡ Some g
some_strong true o g not is = absurd (cc)
some_strong false o g not is = is

-- what is chosen, where something is
chosen_some : (b : Bool) (o : Option ℕ) (t : ℕ) → cond b o None ≡ Some t → (b ≡ true) × (o ≡ Some t)
chosen_some true o t is = (refl, is)
chosen_some false o t is = absurd (none_some t is)

some_chosen : (b : Bool) (o : Option ℕ) (t : ℕ) → b ≡ true → o ≡ Some t → cond b o None ≡ Some t
some_chosen true o t holds is = is
some_chosen false o t holds is = absurd (cc)

-- what stands behind a step, where something does
step_some : (h : ℕ → Option ℕ) (o : Option ℕ) (g : ℕ) → option_and_then h o ≡ Some g → (t : ℕ) × (o ≡ Some t) × (h t ≡ Some g)
step_some h None g is = absurd (none_some g is)
step_some h (Some t) g is = (t, refl, is)

not-false : (b : Bool) → not b ≡ true → b ≡ false
not-false true is = absurd (cc)
not-false false is = refl

false-not : (b : Bool) → b ≡ false → not b ≡ true
false-not true is = absurd (cc)
false-not false is = refl

-- where both tests hold, by the first and what follows
and-parts : (a b : Bool) → (a && b) ≡ true → (a ≡ true) × (b ≡ true)
and-parts true b is = (refl, is)
and-parts false b is = absurd (cc)

-- what a reference asks for, by the symbol that it stands for
abbrev between : Symbol → Option Symbol → Option ℕ
between u o =
    cond ((is_shared u.origin && option_map_or (λ x. is_shared x.origin) o false) || same_number (object_in u.origin) (option_and_then (λ x. object_in x.origin) o))
    None (option_and_then (λ x. object_in x.origin) o)

module _ (Root : ℕ → Type 0) (before : Stage) (b : Batch) (orderly : IsOrderly before) (known : IsFollowing Root before)
    (marks : List Bool) (loaded : IsLoaded (with_batch before b) marks) where
  abbrev w : Stage
  w = with_batch before b

  abbrev l : Selection
  l = selection_of w marks

  -- with this batch too
  abbrev Rooted : ℕ → Type 0
  Rooted f = Root f ⊎ IsTrue (is_required w f)

  -- what was loaded is loaded
  old-loaded : (f : ℕ) → is_marked before.earlier.loaded f ≡ true → is_marked marks f ≡ true
  old-loaded f is = loaded.closed.0 f (or-left (is_marked before.earlier.loaded f) (is_required w f) is)

  -- the target of a symbol is that of a reference of a loaded object
  target-at : (s : ℕ) (u : Symbol) → slice_get w.symbols s ≡ Some u → target_of l s ≡ loaded_target w marks s u
  target-at s u at =
      let zero_add : 0 + s ≡ s = omega arith in
      ap (λ o. option_map_or (λ (t : Option ℕ). t) o None) (slice_get-each_from (loaded_target w marks) 0 w.symbols s u at ∙ ap (λ n. Some (loaded_target w marks n u)) zero_add)

  -- a reference of a loaded object has its kept target
  target-of-loaded : (s : ℕ) (u : Symbol) (f t : ℕ) → slice_get w.symbols s ≡ Some u → is_reference u ≡ true → object_in u.origin ≡ Some f → is_marked marks f ≡ true
      → kept_target w s u ≡ Some t → target_of l s ≡ Some t
  target-of-loaded s u f t at reference in_it marked kept =
      target-at s u at ∙ some_chosen (is_reference u && is_origin_loaded marks u.origin) (kept_target w s u) t
      (and-both (is_reference u) (is_origin_loaded marks u.origin) reference (ap (λ o. option_map_or (is_marked marks) o true) in_it ∙ marked)) kept

  -- what was asked for before is asked for now
  kept-edge : (f g : ℕ) → LoadedBefore before f g → Loads l f g
  kept-edge f g (s, (u, at, in_it, is)) =
      let strong = strong_some (entry_passes (λ e. is_weak e.binding) u.origin) (option_and_then (request_between before u) (earlier_target before s)) g is in
      let step = step_some (request_between before u) (earlier_target before s) g strong.1 in
      let t : ℕ = step.0 in
      let it = orderly.done s t step.1 in
      let same : it.0 ≡ u = some_same it.0 u (sym it.1 ∙ at) in
      let reference : is_reference u ≡ true = subst (λ (x : Symbol). is_reference x ≡ true) same it.2.reference in
      let marked : is_marked marks f ≡ true = old-loaded f (it.2.of_loaded f (ap (λ (x : Symbol). object_in x.origin) same ∙ in_it)) in
      let at_w : slice_get w.symbols s ≡ Some u = slice_get-more before.symbols _ s u at in
      let kept : kept_target w s u ≡ Some t = ap (λ o. option_or o (target w u)) step.1 in
      let now : target_of l s ≡ Some t = target-of-loaded s u f t at_w reference in_it marked kept in
      let more : slice_get w.symbols t ≡ Some it.2.symbol = slice_get-more before.symbols _ t it.2.symbol it.2.at in
      let between_same : request_between w u t ≡ request_between before u t = ap (between u) (more ∙ sym it.2.at) in (
        s,
        (
          u,
          at_w,
          in_it,
          some_strong (entry_passes (λ e. is_weak e.binding) u.origin) (option_and_then (request_between w u) (target_of l s)) g strong.0
              (ap (option_and_then (request_between w u)) now ∙ between_same ∙ step.2),
        ),
      )

  -- what is asked for now is an edge
  loads-edge : (f g : ℕ) → Loads l f g → HasEdge w f g
  loads-edge f g (s, (u, at, in_it, is)) =
      let strong = strong_some (entry_passes (λ e. is_weak e.binding) u.origin) (option_and_then (request_between w u) (target_of l s)) g is in
      let step = step_some (request_between w u) (target_of l s) g strong.1 in
      let told = loaded_target-is w marks s u step.0 (sym (target-at s u at) ∙ step.1) in (
        s,
        u,
        at,
        in_it,
        some_chosen (is_reference u && not (entry_passes (λ e. is_weak e.binding) u.origin)) (option_and_then (request_between w u) (kept_target w s u)) g
            (and-both (is_reference u) (not (entry_passes (λ e. is_weak e.binding) u.origin)) told.reference (false-not _ strong.0))
            (ap (option_and_then (request_between w u)) told.kept ∙ step.2),
      )

  -- an edge of a loaded object is asked for now
  edge-loads : (f g : ℕ) → is_marked marks f ≡ true → HasEdge w f g → Loads l f g
  edge-loads f g marked (s, u, at, in_it, is) =
      let chosen = chosen_some (is_reference u && not (entry_passes (λ e. is_weak e.binding) u.origin)) (option_and_then (request_between w u) (kept_target w s u)) g is in
      let both = and-parts (is_reference u) (not (entry_passes (λ e. is_weak e.binding) u.origin)) chosen.0 in
      let step = step_some (request_between w u) (kept_target w s u) g chosen.1 in
      let now = target-of-loaded s u f step.0 at both.0 in_it marked step.1 in (
        s,
        (
          u,
          at,
          in_it,
          some_strong (entry_passes (λ e. is_weak e.binding) u.origin) (option_and_then (request_between w u) (target_of l s)) g (not-false _ both.1)
              (ap (option_and_then (request_between w u)) now ∙ step.2),
        ),
      )

  -- what was loaded is in each set that is closed now
  old-within : (other : ℕ → Bool) → IsClosed Rooted (Loads l) other → (f : ℕ) → is_marked before.earlier.loaded f ≡ true → other f ≡ true
  old-within other closed f is =
      (and-parts (other f) (is_marked before.earlier.loaded f) (known.least (λ g. other g && is_marked before.earlier.loaded g) both-closed f is)).0
    where
      both-closed : IsClosed Root (LoadedBefore before) (λ g. other g && is_marked before.earlier.loaded g)
      both-closed = (
        λ g root. and-both (other g) (is_marked before.earlier.loaded g) (closed.0 g (inl root)) (known.closed.0 g root),
        λ g h held edge.
            let parts = and-parts (other g) (is_marked before.earlier.loaded g) held in
            and-both (other h) (is_marked before.earlier.loaded h) (closed.1 g h parts.0 (kept-edge g h edge)) (known.closed.1 g h parts.1 edge),
      )

  -- a set that is closed now is closed for the batch, among what is loaded
  batch-closed : (other : ℕ → Bool) → IsClosed Rooted (Loads l) other → IsClosed (IsRoot w) (HasEdge w) (λ g. other g && is_marked marks g)
  batch-closed other closed = (
    λ g root. and-both (other g) (is_marked marks g)
        (elim (either (is_marked before.earlier.loaded g) (is_required w g) root) [
          | inl old ↦ old-within other closed g old
          | inr new ↦ closed.0 g (inr new)
        ])
        (loaded.closed.0 g root),
    λ g h held edge.
        let parts = and-parts (other g) (is_marked marks g) held in
        and-both (other h) (is_marked marks h) (closed.1 g h parts.0 (edge-loads g h parts.1 edge)) (loaded.closed.1 g h parts.1 edge),
  )

  -- so it is at the end of the batch
  follows-on : IsFollowing Rooted (ended l)
  follows-on = record {
    closed = (
      λ f root. by_root f root,
      λ f g held edge. loaded.closed.1 f g held (loads-edge f g edge),
    );
    least = λ other closed f held. (and-parts (other f) (is_marked marks f) (loaded.least (λ g. other g && is_marked marks g) (batch-closed other closed) f held)).0;
  }
    where
      by_root : (f : ℕ) → Rooted f → is_marked marks f ≡ true
      by_root f (inl root) = old-loaded f (known.closed.0 f root)
      by_root f (inr required) = loaded.closed.0 f (or-right (is_marked before.earlier.loaded f) (is_required w f) required)

-- ---- all stages

-- at one of these stages the object is loaded whatever refers to it
abbrev RequiredIn : List Stage → ℕ → Type 0
RequiredIn ws f = (w : Stage) × Contains ws w × IsTrue (is_required w f)

-- the same roots said in another way
following-same : (Root Same : ℕ → Type 0) (before : Stage) → ((f : ℕ) → Root f → Same f) → ((f : ℕ) → Same f → Root f) → IsFollowing Root before → IsFollowing Same before
following-same Root Same before to from known = record {
  closed = (λ f same. known.closed.0 f (from f same), known.closed.1);
  least = λ other closed. known.least other (λ f root. closed.0 f (to f root), closed.1);
}

-- what is known at the end of a link
record IsEnd (Root : ℕ → Type 0) (l : Selection) : Type 0 where
  follows : IsFollowing Root (ended l)
  each : length l.marks ≡ length l.stage.objects

-- along the batches
along : (Root : ℕ → Type 0) (before : Stage) (b : Batch) (later : List Batch) (ws : List Stage) (l : Selection) → IsOrderly before → IsFollowing Root before
    → PassesFrom before b later ws l → IsEnd (λ f. Root f ⊎ RequiredIn ws f) l
along Root before b [] ws l orderly known (marks, loaded, stages, is) =
    let here-end : IsEnd (λ f. Root f ⊎ RequiredIn (with_batch before b ∷ []) f) (selection_of (with_batch before b) marks) = record {
      follows = following-same (λ f. Root f ⊎ IsTrue (is_required (with_batch before b) f)) (λ f. Root f ⊎ RequiredIn (with_batch before b ∷ []) f) (ended (selection_of (with_batch before b) marks))
          (λ f root. to f root) (λ f root. from f root) (follows-on Root before b orderly known marks loaded);
      each = loaded.each;
    } in
    subst (λ (k : Selection). IsEnd (λ f. Root f ⊎ RequiredIn ws f) k) (sym is)
    (subst (λ (vs : List Stage). IsEnd (λ f. Root f ⊎ RequiredIn vs f) (selection_of (with_batch before b) marks)) (sym stages) here-end)
  where
    to : (f : ℕ) → Root f ⊎ IsTrue (is_required (with_batch before b) f) → Root f ⊎ RequiredIn (with_batch before b ∷ []) f
    to f (inl root) = inl root
    to f (inr required) = inr (with_batch before b, here (with_batch before b) [], required)

    from : (f : ℕ) → Root f ⊎ RequiredIn (with_batch before b ∷ []) f → Root f ⊎ IsTrue (is_required (with_batch before b) f)
    from f (inl root) = inl root
    from f (inr (w, within, required)) = elim (here_or_there (with_batch before b) [] w within) [
      | inl same ↦ inr (subst (λ (v : Stage). IsTrue (is_required v f)) (sym same) required)
      | inr none ↦ absurd (nothing_in w none)
    ]
along Root before b (c ∷ cs) ws l orderly known (marks, loaded, rest, stages, on) =
    let w : Stage = with_batch before b in
    let further = along (λ f. Root f ⊎ IsTrue (is_required w f)) (ended (selection_of w marks)) c cs rest l
    (orderly-stays w marks (orderly-grows before b orderly) loaded) (follows-on Root before b orderly known marks loaded) on in
    subst (λ (vs : List Stage). IsEnd (λ f. Root f ⊎ RequiredIn vs f) l) (sym stages) (record {
      follows = following-same (λ f. (Root f ⊎ IsTrue (is_required w f)) ⊎ RequiredIn rest f) (λ f. Root f ⊎ RequiredIn (w ∷ rest) f) (ended l)
          (λ f root. to f root) (λ f root. from f root) further.follows;
      each = further.each;
    })
  where
    to : (f : ℕ) → (Root f ⊎ IsTrue (is_required (with_batch before b) f)) ⊎ RequiredIn rest f → Root f ⊎ RequiredIn (with_batch before b ∷ rest) f
    to f (inl (inl root)) = inl root
    to f (inl (inr required)) = inr (with_batch before b, here (with_batch before b) rest, required)
    to f (inr (v, within, required)) = inr (v, there (with_batch before b) rest v within, required)

    from : (f : ℕ) → Root f ⊎ RequiredIn (with_batch before b ∷ rest) f → (Root f ⊎ IsTrue (is_required (with_batch before b) f)) ⊎ RequiredIn rest f
    from f (inl root) = inl (inl root)
    from f (inr (v, within, required)) = elim (here_or_there (with_batch before b) rest v within) [
      | inl same ↦ inl (inr (subst (λ (u : Stage). IsTrue (is_required u f)) (sym same) required))
      | inr later ↦ inr (v, later, required)
    ]

-- before any batch nothing is loaded
start-follows : (world : World) → IsFollowing (λ f. ⊥) (start_of world)
start-follows world = record {
  closed = (λ f none. absurd none, λ f g held. absurd (cc));
  least = λ other closed f held. absurd (cc);
}

-- ---- what later stages keep

-- the later stage has the objects of the earlier one at their places, and its root names but for the entry
record Extends (w v : Stage) : Type 0 where
  objects : (f : ℕ) (o : ObjectFile) → slice_get w.objects f ≡ Some o → slice_get v.objects f ≡ Some o
  names : (i : ℕ) (name : Bytes) → slice_get (lasting_names w) i ≡ Some name → slice_get (lasting_names v) i ≡ Some name

-- the names that a symbol of the linker refers to
abbrev named_by : InternalSymDefInfo → List Bytes
named_by d = targets_of_placement d.placement

-- the symbols that a linker script defines
abbrev defined_by : ProcessedLinkerScript → List InternalSymDefInfo
defined_by s = s.symbol_defs

-- with a batch more, what its scripts refer to stands behind the root names
names-grown : (w : Stage) (b : Batch) → lasting_names (with_batch w b) ≡ lasting_names w ++ flat_map named_by (flat_map defined_by b.scripts)
names-grown w b =
    let scripts : flat_map defined_by (w.scripts ++ b.scripts) ≡ flat_map defined_by w.scripts ++ flat_map defined_by b.scripts = flat_map-append defined_by w.scripts b.scripts in
    let all : redirect_targets (with_batch w b) ≡ redirect_targets w ++ flat_map named_by (flat_map defined_by b.scripts) =
    ap (λ (ds : List InternalSymDefInfo). flat_map named_by (prelude_symbols w.options ++ ds)) scripts
    ∙ ap (flat_map named_by) (sym (append_assoc (prelude_symbols w.options) (flat_map defined_by w.scripts) (flat_map defined_by b.scripts)))
    ∙ flat_map-append named_by (prelude_symbols w.options ++ flat_map defined_by w.scripts) (flat_map defined_by b.scripts) in
    ap (λ (ns : List Bytes). w.rules.required_exports ++ forced_names w.options ++ ns) all
    ∙ sym (append_assoc (w.rules.required_exports ++ forced_names w.options) (redirect_targets w) (flat_map named_by (flat_map defined_by b.scripts)))

-- the root names are the entry and the others
names-are : (w : Stage) → root_names w ≡ option_to_list (entry_name w) ++ lasting_names w
names-are w =
    ap (λ (ns : List Bytes). ns ++ redirect_targets w) (append_assoc (option_to_list (entry_name w)) w.rules.required_exports (forced_names w.options))
    ∙ append_assoc (option_to_list (entry_name w)) (w.rules.required_exports ++ forced_names w.options) (redirect_targets w)

-- with a batch more, what was there stays
grown-extends : (w : Stage) (b : Batch) → Extends w (with_batch w b)
grown-extends w b = record {
  objects = λ f o at. slice_get-more w.objects b.objects f o at;
  names = λ i name at. ap (λ (ns : List Bytes). slice_get ns i) (names-grown w b) ∙ slice_get-more (lasting_names w) _ i name at;
}

-- so it does with several
extends-trans : (u v w : Stage) → Extends u v → Extends v w → Extends u w
extends-trans u v w first second = record {
  objects = λ f o at. second.objects f o (first.objects f o at);
  names = λ i name at. second.names i name (first.names i name at);
}

-- the stages of a link are extended by the last one
record AreExtended (first : Stage) (ws : List Stage) (l : Selection) : Type 0 where
  head : Extends first l.stage
  all : (w : Stage) → Contains ws w → Extends w l.stage
  last : Contains ws l.stage

extended : (before : Stage) (b : Batch) (later : List Batch) (ws : List Stage) (l : Selection) → PassesFrom before b later ws l → AreExtended (with_batch before b) ws l
extended before b [] ws l (marks, loaded, stages, is) =
    subst (λ (k : Selection). AreExtended (with_batch before b) ws k) (sym is)
    (subst (λ (vs : List Stage). AreExtended (with_batch before b) vs (selection_of (with_batch before b) marks)) (sym stages) (record {
      head = itself;
      all = λ w within. elim (here_or_there (with_batch before b) [] w within) [
        | inl same ↦ subst (λ (v : Stage). Extends v (with_batch before b)) same itself
        | inr none ↦ absurd (nothing_in w none)
      ];
      last = here (with_batch before b) [];
    }))
  where
    itself : Extends (with_batch before b) (with_batch before b)
    itself = record { objects = λ f o at. at; names = λ i name at. at }
extended before b (c ∷ cs) ws l (marks, loaded, rest, stages, on) =
    let further = extended (ended (selection_of (with_batch before b) marks)) c cs rest l on in
    let head : Extends (with_batch before b) l.stage =
    extends-trans (with_batch before b) (with_batch (ended (selection_of (with_batch before b) marks)) c) l.stage (next marks) further.head in
    subst (λ (vs : List Stage). AreExtended (with_batch before b) vs l) (sym stages) (record {
      head = head;
      all = λ w within. elim (here_or_there (with_batch before b) rest w within) [
        | inl same ↦ subst (λ (v : Stage). Extends v l.stage) same head
        | inr later ↦ further.all w later
      ];
      last = there (with_batch before b) rest l.stage further.last;
    })
  where
    next : (m : List Bool) → Extends (with_batch before b) (with_batch (ended (selection_of (with_batch before b) m)) c)
    next m =
        let grown = grown-extends (ended (selection_of (with_batch before b) m)) c in
        record { objects = grown.objects; names = grown.names }

-- ---- the roots that are found

module _ {X Y : Type 0} where
  -- what a function gives of an element is given of the list
  pub given-in : (h : X → Option Y) (xs : List X) (x : X) (y : Y) → Contains xs x → h x ≡ Some y → Contains (filter_map h xs) y
  given-in h [] x y within is = absurd (nothing_in x within)
  given-in h (z ∷ zs) x y within is = elim (here_or_there z zs x within) [
    | inl same ↦ first (h z) (ap h same ∙ is)
    | inr deeper ↦ behind (h z) (given-in h zs x y deeper is)
  ]
    where
      first : (o : Option Y) → o ≡ Some y → Contains (cons_option o (filter_map h zs)) y
      first None none = absurd (none_some y none)
      first (Some v) same = subst (λ (u : Y). Contains (v ∷ filter_map h zs) u) (some_same v y same) (here v (filter_map h zs))

      behind : (o : Option Y) → Contains (filter_map h zs) y → Contains (cons_option o (filter_map h zs)) y
      behind None deeper = deeper
      behind (Some v) deeper = there v (filter_map h zs) y deeper

  -- what is given of a list is given of an element
  pub given-from : (h : X → Option Y) (xs : List X) (y : Y) → Contains (filter_map h xs) y → (x : X) × Contains xs x × (h x ≡ Some y)
  given-from h [] y within = absurd (nothing_in y within)
  given-from h (z ∷ zs) y within = by (h z) refl (given-from h zs y) within
    where
      later : ((x : X) × Contains zs x × (h x ≡ Some y)) → (x : X) × Contains (z ∷ zs) x × (h x ≡ Some y)
      later it = (it.0, there z zs it.0 it.1, it.2)

      by : (o : Option Y) → h z ≡ o → (Contains (filter_map h zs) y → (x : X) × Contains zs x × (h x ≡ Some y))
          → Contains (cons_option o (filter_map h zs)) y → (x : X) × Contains (z ∷ zs) x × (h x ≡ Some y)
      by None is further deeper = later (further deeper)
      by (Some v) is further held = elim (here_or_there v (filter_map h zs) y held) [
        | inl same ↦ (z, here z zs, is ∙ ap (λ (u : Y). Some u) same)
        | inr deeper ↦ later (further deeper)
      ]

-- an object that stands among the roots has a root name
named : (roots : List FoundRoot) (r : FoundRoot) (f : ℕ) → Contains roots r → r.object ≡ f → is_some (root_name_of roots f) ≡ true
named [] r f within is = absurd (nothing_in r within)
named (x ∷ xs) r f within is = by (x.object == f) refl (λ deeper. named xs r f deeper is)
  where
    by : (b : Bool) → (x.object == f) ≡ b → (Contains xs r → is_some (root_name_of xs f) ≡ true)
        → is_some (option_map (λ (q : FoundRoot). q.name) (cond b (Some x) (find (λ (q : FoundRoot). q.object == f) xs))) ≡ true
    by true same further = refl
    by false differs further = elim (here_or_there x xs r within) [
      | inl first ↦ absurd (let both : false ≡ true = sym differs ∙ eq-eqb x.object f (ap (λ (q : FoundRoot). q.object) first ∙ is) in cc)
      | inr deeper ↦ further deeper
    ]

-- an object that has a root name stands among the roots
named-from : (roots : List FoundRoot) (f : ℕ) → is_some (root_name_of roots f) ≡ true → (r : FoundRoot) × Contains roots r × (r.object ≡ f)
named-from [] f is = absurd (cc)
named-from (x ∷ xs) f is = by (x.object == f) refl (named-from xs f) is
  where
    by : (b : Bool) → (x.object == f) ≡ b → (is_some (root_name_of xs f) ≡ true → (r : FoundRoot) × Contains xs r × (r.object ≡ f))
        → is_some (option_map (λ (q : FoundRoot). q.name) (cond b (Some x) (find (λ (q : FoundRoot). q.object == f) xs))) ≡ true
        → (r : FoundRoot) × Contains (x ∷ xs) r × (r.object ≡ f)
    by true same further found = (x, here x xs, eqb-true x.object f same)
    by false differs further found = let it = further found in (it.0, there x xs it.0 it.1, it.2)

-- what is found for a name at a stage stands in that object
found-holds : (w : Stage) (name : Bytes) (r : FoundRoot) → found_at w name ≡ Some r → holds_name w r.object name ≡ true
found-holds w name r is = by (option_and_then (object_of w) (first_definition w name)) is
  where
    by : (o : Option ℕ) → option_map (λ (f : ℕ). record { name = name; object = f }) o ≡ Some r → is_number o r.object ≡ true
    by None none = absurd (none_some r none)
    by (Some f) same = eq-eqb f r.object (ap (λ (q : FoundRoot). q.object) (some_same (record { name = name; object = f }) r same))

-- what an object holds is found
holds-found : (w : Stage) (name : Bytes) (f : ℕ) → holds_name w f name ≡ true → found_at w name ≡ Some (record { name = name; object = f })
holds-found w name f holds = ap (option_map (λ (g : ℕ). record { name = name; object = g })) (is_number-true (option_and_then (object_of w) (first_definition w name)) f holds)

module _ (ws : List Stage) (l : Selection) (known : (w : Stage) → Contains ws w → Extends w l.stage) (last : Contains ws l.stage) where
  -- what is found for a root name at one of the stages stands among the roots
  found-in : (w : Stage) (name : Bytes) (f : ℕ) → Contains ws w → Contains (root_names w) name → holds_name w f name ≡ true
      → is_some (root_name_of (found_roots ws l.stage) f) ≡ true
  found-in w name f within names holds =
      named (found_roots ws l.stage) (record { name = name; object = f }) f
      (elim (contains_append name (option_to_list (entry_name w)) (lasting_names w) (subst (λ (ns : List Bytes). Contains ns name) (names-are w) names)) [
        | inl entry ↦ contains_left (record { name = name; object = f }) (found_entries ws) _
            (joined_in (λ (v : Stage). filter_map (found_at v) (option_to_list (entry_name v))) ws w (record { name = name; object = f }) within
            (given-in (found_at w) (option_to_list (entry_name w)) name (record { name = name; object = f }) entry (holds-found w name f holds)))
        | inr lasting ↦
            let place = placed (lasting_names w) name lasting in
            let here = (known w within).names place.0 name place.1 in
            contains_right (record { name = name; object = f }) (found_entries ws) _
            (joined_in (found_for ws) (range_with_len 0 (length (lasting_names l.stage))) place.0 (record { name = name; object = f })
            (range_in (length (lasting_names l.stage)) place.0 (slice_get_within (lasting_names l.stage) place.0 name here))
            (given-in (λ (v : Stage). option_and_then (found_at v) (slice_get (lasting_names v) place.0)) ws w (record { name = name; object = f }) within
            (ap (option_and_then (found_at w)) place.1 ∙ holds-found w name f holds)))
      ]) refl

  -- what is required at a stage is loaded without a reference at the end
  rooted-of : (f : ℕ) → RequiredIn ws f → is_rooted l.stage (found_roots ws l.stage) f ≡ true
  rooted-of f (w, within, required) = elim (either (is_mandatory w f) (list_any (holds_name w f) (root_names w)) required) [
    | inl mandatory ↦ or-left (is_mandatory l.stage f) _ (stays (slice_get w.objects f) refl mandatory)
    | inr named ↦
        let it = any-found (holds_name w f) (root_names w) named in
        or-right (is_mandatory l.stage f) _ (found-in w it.1 f within (at_place (root_names w) it.0 it.1 it.2) it.3)
  ]
    where
      stays : (o : Option ObjectFile) → slice_get w.objects f ≡ o → option_map_or (λ (x : ObjectFile). not (is_optional x)) o false ≡ true → is_mandatory l.stage f ≡ true
      stays None at is = absurd (cc)
      stays (Some x) at is = ap (λ o. option_map_or (λ (y : ObjectFile). not (is_optional y)) o false) ((known w within).objects f x at) ∙ is

  -- what is found was held at a stage
  found-from : (r : FoundRoot) → Contains (found_roots ws l.stage) r → RequiredIn ws r.object
  found-from r within = elim (contains_append r (found_entries ws) _ within) [
    | inl entry ↦
        let at = joined_from (λ (v : Stage). filter_map (found_at v) (option_to_list (entry_name v))) ws r entry in
        let it = given-from (found_at at.0) (option_to_list (entry_name at.0)) r at.2 in
        by-name at.0 it.0 r at.1 (whole at.0 it.0 (contains_left it.0 (option_to_list (entry_name at.0)) (lasting_names at.0) it.1)) it.2
    | inr lasting ↦
        let at = joined_from (found_for ws) (range_with_len 0 (length (lasting_names l.stage))) r lasting in
        let it = given-from (λ (v : Stage). option_and_then (found_at v) (slice_get (lasting_names v) at.0)) ws r at.2 in
        let step = name-there it.0 at.0 r it.2 in
        by-name it.0 step.0 r it.1 (whole it.0 step.0 (contains_right step.0 (option_to_list (entry_name it.0)) (lasting_names it.0) (at_place (lasting_names it.0) at.0 step.0 step.1))) step.2
  ]
    where
      whole : (w : Stage) (name : Bytes) → Contains (option_to_list (entry_name w) ++ lasting_names w) name → Contains (root_names w) name
      whole w name in_it = subst (λ (ns : List Bytes). Contains ns name) (sym (names-are w)) in_it

      by-name : (w : Stage) (name : Bytes) (q : FoundRoot) → Contains ws w → Contains (root_names w) name → found_at w name ≡ Some q → RequiredIn ws q.object
      by-name w name q in_ws names found =
          let place = placed (root_names w) name names in (
            w,
            in_ws,
            or-right (is_mandatory w q.object) (list_any (holds_name w q.object) (root_names w))
                (found-any (holds_name w q.object) (root_names w) place.0 name place.1 (found-holds w name q found)),
          )

      name-there : (w : Stage) (i : ℕ) (q : FoundRoot) → option_and_then (found_at w) (slice_get (lasting_names w) i) ≡ Some q
          → (name : Bytes) × (slice_get (lasting_names w) i ≡ Some name) × (found_at w name ≡ Some q)
      name-there w i q is = by (slice_get (lasting_names w) i) refl is
        where
          by : (o : Option Bytes) → slice_get (lasting_names w) i ≡ o → option_and_then (found_at w) o ≡ Some q
              → (name : Bytes) × (slice_get (lasting_names w) i ≡ Some name) × (found_at w name ≡ Some q)
          by None at none = absurd (none_some q none)
          by (Some name) at found = (name, at, found)

  -- what is loaded without a reference at the end is required at a stage
  of-rooted : (f : ℕ) → is_rooted l.stage (found_roots ws l.stage) f ≡ true → RequiredIn ws f
  of-rooted f rooted = elim (either (is_mandatory l.stage f) (is_some (root_name_of (found_roots ws l.stage) f)) rooted) [
    | inl mandatory ↦ (l.stage, last, or-left (is_mandatory l.stage f) (list_any (holds_name l.stage f) (root_names l.stage)) mandatory)
    | inr named ↦
        let it = named-from (found_roots ws l.stage) f named in
        subst (RequiredIn ws) it.2 (found-from it.0 it.1)
  ]

-- the loaded objects follow from all roots
pub follows-from_all : (world : World) (ws : List Stage) (l : Selection) → Passes world ws l
    → IsLeastClosed (λ g. IsTrue (is_rooted l.stage (found_roots ws l.stage) g)) (Loads l) (length l.stage.objects) l.marks
follows-from_all world ws l passes =
    let end = along (λ f. ⊥) (start_of world) world.first world.later ws l (orderly-start world) (start-follows world) passes in
    let stages = extended (start_of world) world.first world.later ws l passes in
    let same = following-same (λ f. ⊥ ⊎ RequiredIn ws f) (λ f. IsTrue (is_rooted l.stage (found_roots ws l.stage) f)) (ended l)
    (λ f root. to stages f root) (λ f rooted. inr (of-rooted ws l stages.all stages.last f rooted)) end.follows in
    record { each = end.each; closed = same.closed; least = same.least }
  where
    to : AreExtended (with_batch (start_of world) world.first) ws l → (f : ℕ) → ⊥ ⊎ RequiredIn ws f → is_rooted l.stage (found_roots ws l.stage) f ≡ true
    to stages f (inl none) = absurd none
    to stages f (inr required) = rooted-of ws l stages.all stages.last f required

-- a link that ends well passes stages
passes-from : (is_late : Bool) (before : Stage) (b : Batch) (later : List Batch) (l : Selection) → EndsWith is_late before b later (Ok l) → (ws : List Stage) × PassesFrom before b later ws l
passes-from is_late before b [] l ends =
    let on = batch-goes-on is_late before b l (λ k. ◌≡◌ {A = End} (Ok l) (Ok k)) ends in
    (with_batch before b ∷ [], (on.0, on.1, refl, ok-same l (selection_of (with_batch before b) on.0) on.2))
passes-from is_late before b (c ∷ cs) l ends =
    let on = batch-goes-on is_late before b l (λ k. EndsWith true (ended k) c cs (Ok l)) ends in
    let further = passes-from true (ended (selection_of (with_batch before b) on.0)) c cs l on.2 in
    (with_batch before b ∷ further.0, (on.0, on.1, further.0, refl, further.1))

pub passes-world : (world : World) (l : Selection) → BatchesEnd world (Ok l) → (ws : List Stage) × Passes world ws l
passes-world world l ends = passes-from false (start_of world) world.first world.later l ends

-- ---- stages, one after another

-- a list has as many entries at least as one of which it has each, at its place
longer : {A : Type 0} (xs ys : List A) → ((i : ℕ) (x : A) → slice_get xs i ≡ Some x → slice_get ys i ≡ Some x) → length xs ≤ length ys
longer [] ys known = omega arith
longer (x ∷ xs) [] known = absurd (none_some x (known 0 x refl))
longer (x ∷ xs) (y ∷ ys) known = let rest = longer xs ys (λ i z at. known (suc i) z at) in omega (arith, rest)

-- what holds of whatever stands in a list holds of all of it
all-within : {A : Type 0} (Is : A → Type 0) (xs : List A) → ((x : A) → Contains xs x → Is x) → All Is xs
all-within Is [] each = All-nil Is
all-within Is (x ∷ xs) each = All-cons Is x xs (each x (here x xs)) (all-within Is xs (λ y within. each y (there x xs y within)))

-- no stage of a link has more lasting names than the last one
pub fewer-names : (world : World) (ws : List Stage) (l : Selection) → Passes world ws l → All (λ w. length (lasting_names w) ≤ length (lasting_names l.stage)) ws
fewer-names world ws l passes =
    let stages = extended (start_of world) world.first world.later ws l passes in
    all-within (λ w. length (lasting_names w) ≤ length (lasting_names l.stage)) ws
    (λ w within. longer (lasting_names w) (lasting_names l.stage) (stages.all w within).names)

-- a link passes its stages in one way
pub passes-once : (before : Stage) (b : Batch) (later : List Batch) (ws vs : List Stage) (l k : Selection) → PassesFrom before b later ws l → PassesFrom before b later vs k
    → (ws ≡ vs) × (l ≡ k)
passes-once before b [] ws vs l k (m, loaded, stages, is) (n, loaded', stages', is') =
    (stages ∙ sym stages', is ∙ (ap (selection_of (with_batch before b)) (one-loaded (with_batch before b) m n loaded loaded') ∙ sym is'))
passes-once before b (c ∷ cs) ws vs l k (m, loaded, rest, stages, on) (n, loaded', rest', stages', on') =
    let moved = subst (λ (x : List Bool). PassesFrom (ended (selection_of (with_batch before b) x)) c cs rest' k) (one-loaded (with_batch before b) n m loaded' loaded) on' in
    let further = passes-once (ended (selection_of (with_batch before b) m)) c cs rest rest' l k on moved in
    (stages ∙ (ap (λ (xs : List Stage). with_batch before b ∷ xs) further.0 ∙ sym stages'), further.1)

-- with one batch more it passes one stage more, the last one
pub passes-more : (before : Stage) (b : Batch) (later : List Batch) (c : Batch) (ws : List Stage) (l : Selection) → PassesFrom before b (later ++ c ∷ []) ws l
    → (front : List Stage) × (k : Selection) × PassesFrom before b later front k × (ws ≡ front ++ l.stage ∷ [])
passes-more before b [] c ws l (m, loaded, rest, stages, on) =
    let s = with_batch before b in (
      s ∷ [],
      selection_of s m,
      (m, loaded, refl, refl),
      stages ∙ ap (λ (xs : List Stage). s ∷ xs) (on.2 ∙ ap (λ (x : Selection). x.stage ∷ []) (sym on.3)),
    )
passes-more before b (d ∷ ds) c ws l (m, loaded, rest, stages, on) =
    let s = with_batch before b in
    let further = passes-more (ended (selection_of s m)) d ds c rest l on in
    (s ∷ further.0, further.1, (m, loaded, further.0, refl, further.2), stages ∙ ap (λ (xs : List Stage). s ∷ xs) further.3)

-- the selection with which a link passes its stages is the one with which its batches end
pub passes-with : (world : World) (ws : List Stage) (l k : Selection) → Passes world ws l → BatchesEnd world (Ok k) → l ≡ k
passes-with world ws l k passes ends =
    let other = passes-world world k ends in
    (passes-once (start_of world) world.first world.later ws other.0 l k passes other.1).1

-- a link of a world has one explanation
pub one-of-world : (world : World) (a b : Explanation) → IsExplanation world a → IsExplanation world b → a ≡ b
one-of-world world a b (ws, l, passes, is) (vs, k, passes', is') =
    let same = passes-once (start_of world) world.first world.later ws vs l k passes passes' in
    one-explanation l (found_roots ws l.stage) a b is
    (subst (λ (x : Selection). Explains x (found_roots ws x.stage) b) (sym same.1) (subst (λ (xs : List Stage). Explains k (found_roots xs k.stage) b) (sym same.0) is'))

-- from each loaded object its reasons lead back
pub explained-back : (world : World) (e : Explanation) → IsExplanation world e → All (λ r. (n : ℕ) × LeadBack e.reasons n r.object) e.reasons
explained-back world e (ws, l, passes, is) =
    let least = follows-from_all world ws l passes in
    all-within (λ r. (n : ℕ) × LeadBack e.reasons n r.object) e.reasons (λ r within. each-back l (found_roots ws l.stage) least e.reasons is.reasons r within)

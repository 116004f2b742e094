-- What is read of the targets of symbols is what the loaded references of the stage stand for.
use Rattle.std.proofs.Common.{◌≡◌, ◌∙◌, ◌+◌, ◌<◌, ℕ, zero, suc, Bool, true, false, List, [], ◌∷◌, Option, Some, None, Contains, MatchBool, arith, refl, sym, ap, subst, inl, inr, cond, length, take, drop, slice_get, is_some}
use Rattle.std.specs.Prelude.{◌&&◌, ◌||◌, ◌*◌, ◌/◌, ◌-◌, option_and_then, option_map, option_to_list}
use Rattle.std.specs.List.{flat_map, range_with_len}
use Rattle.std.specs.Option.{option_map_or, option_or}
use Rattle.std.proofs.lemmas.Grind.{common_steps}
use Rattle.std.proofs.lemmas.List.FromFn.{length-enumerate_from}
use Rattle.std.proofs.lemmas.Option.{gets, slice_get_within}
use Rattle.link_closure.specs.Closure.{is_marked}
use Rattle.link_closure.proofs.Joins.{contains_left, contains_right}
use Rattle.link_input.specs.Symbols.{Symbol, object_in}
use Rattle.link_rules.specs.Loading.{IsLoaded, is_origin_loaded, is_required, is_root}
use Rattle.link_rules.specs.Orderly.{IsDone, IsOrderly}
use Rattle.link_rules.specs.Places.{each_from}
use Rattle.link_rules.specs.Selection.{loaded_target}
use Rattle.link_rules.specs.Targets.{earlier_target, kept_target, target}
use Rattle.link_rules.specs.Work.{item_count, item_size, symbols_with_ids}
use Rattle.link_rules.specs.World.{Stage, is_reference}
use Rattle.link_rules.proofs.Members.{at_place, joined_from, joined_in, map_from, map_in, part_from, part_in, placed, range_in}
use Rattle.link_rules.proofs.Settled.{here, here_or_there, none_some, nothing_in, some_same}
use Rattle.link_rules.proofs.Stages.{loaded_target-is, reference_object}
use Rattle.link_rules.proofs.WorkItems.{held_from, held_in}
use Rattle.link_db_symbols.specs.Lookups.{target_at}
use Rattle.link_db_symbols.specs.Walk.{SymbolsLeft, with_ids}
use Rattle.link_resolve_extraction.specs.Answer.{AreItemsRead, AreObjectsOf, AreTargetsRead, IsKnownAt, IsReferenceIn}
use Rattle.link_resolve_extraction.specs.Asked.{IsFoundIn, Known, found_target, new_target, targets_by}
use Rattle.link_resolve_extraction.specs.Items.{all_items, parts_of, symbols_at, symbols_of_item}
use Rattle.link_resolve_extraction.specs.declared.found.FoundItem.{FoundItem}
use Rattle.link_resolve_extraction.specs.declared.found.FoundReference.{FoundReference}
use Rattle.link_resolve_extraction.specs.declared.items.WorkItem.{WorkItem}

-- a list with what a function gives of place and element at each place is the list of these
same-each : {X Y : Type 0} (f : ℕ → X → Y) (n : ℕ) (xs : List X) (ys : List Y) → length ys ≡ length xs
    → ((k : ℕ) (x : X) (y : Y) → slice_get xs k ≡ Some x → slice_get ys k ≡ Some y → y ≡ f (n + k) x) → ys ≡ each_from f n xs
same-each f n [] [] count each = refl
same-each f n [] (y ∷ ys) count each = absurd (omega arith)
same-each f n (x ∷ xs) [] count each = absurd (omega arith)
same-each f n (x ∷ xs) (y ∷ ys) count each =
    let first : n + 0 ≡ n = omega arith in
    let rest : ys ≡ each_from f (n + 1) xs = same-each f (n + 1) xs ys (omega arith) (λ k z v at stands.
    let next : n + suc k ≡ n + 1 + k = omega arith in
    each (suc k) z v at stands ∙ ap (λ m. f m z) next) in
    ap (λ v. v ∷ ys) (each 0 x y refl refl ∙ ap (λ m. f m x) first) ∙ ap (λ l. f n x ∷ l) rest

-- something stands at each place of a list
some-within : {X : Type 0} (xs : List X) (i : ℕ) → i < length xs → slice_get xs i ≡ None → ⊥
some-within xs i lt none = grind (arith, common_steps, gets)

-- ---- items

-- an item of an object is one of all items
item-in-all : (n f k : ℕ) (os : List SymbolsLeft) (o : SymbolsLeft) → slice_get os f ≡ Some o → k < item_count (length o.left)
    → Contains (all_items n os) (record { object = n + f; part = k })
item-in-all n f k [] o at lt = absurd (none_some o at)
item-in-all n zero k (p ∷ os) o at lt =
    let same : n ≡ n + 0 = omega arith in
    let count : k < item_count (length p.left) = subst (λ (q : SymbolsLeft). k < item_count (length q.left)) (sym (some_same p o at)) lt in
    subst (λ m. Contains (all_items n (p ∷ os)) (record { object = m; part = k })) same
    (contains_left (record { object = n; part = k }) (parts_of n (length p.left)) (all_items (n + 1) os)
    (map_in (λ j. record { object = n; part = j }) (range_with_len 0 (item_count (length p.left))) k (range_in (item_count (length p.left)) k count)))
item-in-all n (suc f) k (p ∷ os) o at lt =
    let same : n + 1 + f ≡ n + suc f = omega arith in
    subst (λ m. Contains (all_items n (p ∷ os)) (record { object = m; part = k })) same
    (contains_right (record { object = n + 1 + f; part = k }) (parts_of n (length p.left)) (all_items (n + 1) os) (item-in-all (n + 1) f k os o at lt))

-- a part of a list is one of those that are counted
counted : (n k : ℕ) → k < (n + item_size - 1) / item_size → k < item_count n
counted n k lt = omega arith

-- ---- references that stand for something anew

-- a symbol is a reference for which nothing was settled, and stands for t
record IsNew (w : Stage) (s : ℕ) (x : Symbol) (t : ℕ) : Type 0 where
  pub anew : earlier_target w s ≡ None
  pub reference : is_reference x ≡ true
  pub is_target : target w x ≡ Some t

-- a reference of a loaded object is new
record IsNewOfLoaded (w : Stage) (marks : List Bool) (s : ℕ) (t : ℕ) : Type 0 where
  pub symbol : Symbol
  pub at : slice_get w.symbols s ≡ Some symbol
  pub object : ℕ
  pub in_it : object_in symbol.origin ≡ Some object
  pub loaded : is_marked marks object ≡ true
  pub new : IsNew w s symbol t

-- a pair of an option is made of what it gives
pair-from : (s : ℕ) (o : Option ℕ) (q : ℕ × ℕ) → Contains (option_to_list (option_map (λ t. (s, t)) o)) q → (t : ℕ) × (o ≡ Some t) × (◌≡◌ {A = ℕ × ℕ} (s, t) q)
pair-from s None q within = absurd (nothing_in q within)
pair-from s (Some t) q within = elim (here_or_there (s, t) [] q within) [
  | inl is ↦ (t, refl, is)
  | inr deeper ↦ absurd (nothing_in q deeper)
]

module _ (w : Stage) (known : Known) (at_stage : IsKnownAt w known) where
  -- a symbol with a new target is new
  new-from : (s : ℕ) (x : Symbol) (t : ℕ) → new_target known (s, x) ≡ Some t → IsNew w s x t
  new-from s x t is =
      by (earlier_target w s) (is_reference x) refl refl
      (ap (λ ts. cond (is_some (target_at ts s)) None (cond (is_reference x) (known.target x) None)) (sym at_stage.settled) ∙ is)
    where
      by : (o : Option ℕ) (b : Bool) → earlier_target w s ≡ o → is_reference x ≡ b → cond (is_some o) None (cond b (known.target x) None) ≡ Some t → IsNew w s x t
      by (Some u) b settled refers gives = absurd (none_some t gives)
      by None false settled refers gives = absurd (none_some t gives)
      by None true settled refers gives = record { anew = settled; reference = refers; is_target = sym (at_stage.target x) ∙ gives }

  -- and a new one has its target
  new-in : (s : ℕ) (x : Symbol) (t : ℕ) → IsNew w s x t → new_target known (s, x) ≡ Some t
  new-in s x t new =
      ap (λ ts. cond (is_some (target_at ts s)) None (cond (is_reference x) (known.target x) None)) at_stage.settled
      ∙ (ap (λ (o : Option ℕ). cond (is_some o) None (cond (is_reference x) (known.target x) None)) new.anew
      ∙ (ap (λ b. cond b (known.target x) None) new.reference ∙ (at_stage.target x ∙ new.is_target)))

  module _ (objects : List SymbolsLeft) (of_stage : AreObjectsOf w objects) where
    -- the symbols of an object
    symbols-are : (f : ℕ) (o : SymbolsLeft) → slice_get objects f ≡ Some o → symbols_at objects f ≡ symbols_with_ids w f
    symbols-are f o at = ap (λ p. option_map_or with_ids p []) at ∙ of_stage.symbols f o at

    -- a symbol of an item is one of the item's object
    item-held : (it : WorkItem) (q : ℕ × Symbol) → Contains (symbols_of_item objects it) q → Contains (symbols_with_ids w it.object) q
    item-held it q within = by (slice_get objects it.object) refl (part_from item_size (item_size * it.part) (symbols_at objects it.object) q within)
      where
        by : (o : Option SymbolsLeft) → slice_get objects it.object ≡ o → Contains (symbols_at objects it.object) q → Contains (symbols_with_ids w it.object) q
        by None at has = absurd (nothing_in q (subst (λ p. Contains (option_map_or with_ids p []) q) at has))
        by (Some o) at has = subst (λ l. Contains l q) (symbols-are it.object o at) has

    -- a symbol of an object is one of an item's
    record HasItem (f : ℕ) (q : ℕ × Symbol) : Type 0 where
      pub place : ℕ
      pub item : WorkItem
      pub at : slice_get (all_items 0 objects) place ≡ Some item
      pub of_object : item.object ≡ f
      pub holds : Contains (symbols_of_item objects item) q

    -- each has one
    item-of : (f : ℕ) (q : ℕ × Symbol) → f < length w.objects → Contains (symbols_with_ids w f) q → HasItem f q
    item-of f q lt within = by (slice_get objects f) refl
      where
        by : (o : Option SymbolsLeft) → slice_get objects f ≡ o → HasItem f q
        by None at = absurd (some-within objects f (omega (arith, lt, of_stage.count)) at)
        by (Some o) at =
            let own = symbols-are f o at in
            let held = of_stage.symbols f o at in
            let count : length o.left ≡ length (symbols_with_ids w f) = sym (length-enumerate_from o.next o.left) ∙ ap (λ (l : List (ℕ × Symbol)). length l) held in
            let cut = part_in item_size (symbols_with_ids w f) q (omega arith) within in
            let same : 0 + f ≡ f = omega arith in
            let lies : cut.0 < item_count (length o.left) = subst (λ n. cut.0 < item_count n) (sym count) (counted (length (symbols_with_ids w f)) cut.0 cut.1) in
            let stands = placed (all_items 0 objects) (record { object = f; part = cut.0 })
            (subst (λ m. Contains (all_items 0 objects) (record { object = m; part = cut.0 })) same (item-in-all 0 f cut.0 objects o at lies)) in
            record {
              place = stands.0;
              item = record { object = f; part = cut.0 };
              at = stands.1;
              of_object = refl;
              holds = subst (λ (l : List (ℕ × Symbol)). Contains (take item_size (drop (item_size * cut.0) l)) q) (sym own) cut.2;
            }

    module _ (marks : List Bool) (found : List (Option FoundItem)) (are_read : AreItemsRead known objects marks found) where
      -- a reference that is found in an item of a loaded object is new
      found-in-item : (it : WorkItem) (x : FoundItem) (r : FoundReference) → is_marked marks it.object ≡ true → IsFoundIn known (symbols_of_item objects it) x
          → Contains x.references.items r → IsNewOfLoaded w marks r.reference r.target
      found-in-item it x r loaded is_found has =
          let within : Contains (flat_map (targets_by known) (symbols_of_item objects it)) (found_target r) =
          subst (λ l. Contains l (found_target r)) is_found.targets (map_in found_target x.references.items r has) in
          let q = joined_from (targets_by known) (symbols_of_item objects it) (found_target r) within in
          let pair = pair-from q.0.0 (new_target known q.0) (found_target r) q.2 in
          let held = held_from w it.object q.0 (item-held it q.0 q.1) in
          record {
            symbol = q.0.1;
            at = subst (λ (p : ℕ × ℕ). slice_get w.symbols p.0 ≡ Some q.0.1) pair.2 held.0;
            object = it.object;
            in_it = held.1;
            loaded = loaded;
            new = subst (λ (p : ℕ × ℕ). IsNew w p.0 q.0.1 p.1) pair.2 (new-from q.0.0 q.0.1 pair.0 pair.1);
          }

      -- each reference that is found is new
      found-new : (r : FoundReference) → IsReferenceIn found r → IsNewOfLoaded w marks r.reference r.target
      found-new r (i, x, stands, has) = by (slice_get (all_items 0 objects) i) refl
        where
          by-mark : (it : WorkItem) (b : Bool) → is_marked marks it.object ≡ b
              → MatchBool b ((y : FoundItem) × (slice_get found i ≡ Some (Some y)) × IsFoundIn known (symbols_of_item objects it) y) (slice_get found i ≡ Some None)
              → IsNewOfLoaded w marks r.reference r.target
          by-mark it false marked missing = absurd (none_some x (some_same None (Some x) (sym missing ∙ stands)))
          by-mark it true marked (y, there, is_found) =
              let same : y ≡ x = some_same y x (some_same (Some y) (Some x) (sym there ∙ stands)) in
              found-in-item it x r marked (subst (λ z. IsFoundIn known (symbols_of_item objects it) z) same is_found) has

          by : (o : Option WorkItem) → slice_get (all_items 0 objects) i ≡ o → IsNewOfLoaded w marks r.reference r.target
          by None at = absurd (some-within (all_items 0 objects) i (omega (arith, are_read.count, slice_get_within found i (Some x) stands)) at)
          by (Some it) at = by-mark it (is_marked marks it.object) refl (are_read.each i it at)

      -- each new reference of a loaded object is found
      new-found : (f s : ℕ) (x : Symbol) (t : ℕ) → f < length w.objects → slice_get w.symbols s ≡ Some x → object_in x.origin ≡ Some f → is_marked marks f ≡ true
          → IsNew w s x t → (r : FoundReference) × IsReferenceIn found r × (r.reference ≡ s) × (r.target ≡ t)
      new-found f s x t lt at in_it loaded new = by (is_marked marks has.item.object) (ap (is_marked marks) has.of_object ∙ loaded) (are_read.each has.place has.item has.at)
        where
          has : HasItem f (s, x)
          has = item-of f (s, x) lt (held_in w f s x at in_it)

          gives : Contains (targets_by known (s, x)) (s, t)
          gives = subst (λ (o : Option ℕ). Contains {X = ℕ × ℕ} (option_to_list (option_map (λ u. (s, u)) o)) (s, t)) (sym (new-in s x t new)) (here (s, t) [])

          by : (b : Bool) → b ≡ true
              → MatchBool b ((y : FoundItem) × (slice_get found has.place ≡ Some (Some y)) × IsFoundIn known (symbols_of_item objects has.item) y) (slice_get found has.place ≡ Some None)
              → (r : FoundReference) × IsReferenceIn found r × (r.reference ≡ s) × (r.target ≡ t)
          by false marked missing = cc
          by true marked (y, there, is_found) =
              let within = subst (λ (l : List (ℕ × ℕ)). Contains l (s, t)) (sym is_found.targets) (joined_in (targets_by known) (symbols_of_item objects has.item) (s, x) (s, t) has.holds gives) in
              let r = map_from found_target y.references.items (s, t) within in
              (r.0, (has.place, y, there, r.1), ap (λ (p : ℕ × ℕ). p.0) r.2, ap (λ (p : ℕ × ℕ). p.1) r.2)

      module _ (targets : List (Option ℕ)) (orderly : IsOrderly w) (loaded : IsLoaded w marks) (written : AreTargetsRead (length w.symbols) w.earlier.targets found targets) where
        -- a reference of a loaded object has its kept target
        loaded-kept : (s : ℕ) (x : Symbol) (f : ℕ) → is_reference x ≡ true → object_in x.origin ≡ Some f → is_marked marks f ≡ true → loaded_target w marks s x ≡ kept_target w s x
        loaded-kept s x f refers in_it marked =
            ap (λ b. cond (b && is_origin_loaded marks x.origin) (kept_target w s x) None) refers
            ∙ ap (λ b. cond b (kept_target w s x) None) (ap (λ o. option_map_or (is_marked marks) o true) in_it ∙ marked)

        -- what the symbol at a place stands for by its name
        abbrev means : ℕ → Option ℕ
        means s = option_and_then (target w) (slice_get w.symbols s)

        -- the target of a symbol for which an earlier batch settled one
        settled-target : (s t : ℕ) (x : Symbol) (o : Option ℕ) → earlier_target w s ≡ Some t → slice_get w.symbols s ≡ Some x → slice_get targets s ≡ Some o → o ≡ loaded_target w marks s x
        settled-target s t x o settled at stands = elim (written.kept s o stands) [
          | inl old ↦ old ∙ (settled ∙ sym is)
          | inr new ↦ absurd (none_some t (sym (sym (ap (earlier_target w) new.2) ∙ (found-new new.0 new.1).new.anew) ∙ settled))
        ]
          where
            done : (u : Symbol) × (slice_get w.symbols s ≡ Some u) × IsDone w s u t
            done = orderly.done s t settled

            own : IsDone w s x t
            own = subst (λ y. IsDone w s y t) (some_same done.0 x (sym done.1 ∙ at)) done.2

            object : (f : ℕ) × (object_in x.origin ≡ Some f)
            object = reference_object x own.reference

            root : is_root w object.0 ≡ true
            root = ap (λ b. b || is_required w object.0) (own.of_loaded object.0 object.1)

            is : loaded_target w marks s x ≡ Some t
            is = loaded-kept s x object.0 own.reference object.1 (loaded.closed.0 object.0 root) ∙ ap (λ e. option_or e (target w x)) settled

        -- the target of a symbol for which nothing was settled, where a reference was found that has it
        found-target : (s : ℕ) (x : Symbol) (r : FoundReference) → earlier_target w s ≡ None → slice_get w.symbols s ≡ Some x → IsReferenceIn found r → r.reference ≡ s
            → Some r.target ≡ loaded_target w marks s x
        found-target s x r settled at has same =
            let it = found-new r has in
            let own : it.symbol ≡ x = some_same it.symbol x (sym it.at ∙ (ap (slice_get w.symbols) same ∙ at)) in
            let refers = subst (λ y. is_reference y ≡ true) own it.new.reference in
            let in_it = subst (λ (y : Symbol). object_in y.origin ≡ Some it.object) own it.in_it in
            let is_target = subst (λ y. target w y ≡ Some r.target) own it.new.is_target in
            sym is_target ∙ (sym (ap (λ e. option_or e (target w x)) settled) ∙ sym (loaded-kept s x it.object refers in_it it.loaded))

        -- a symbol that has no target where nothing was settled
        no-target : (s : ℕ) (x : Symbol) (o l : Option ℕ) → earlier_target w s ≡ None → slice_get w.symbols s ≡ Some x → slice_get targets s ≡ Some o → o ≡ None
            → loaded_target w marks s x ≡ l → o ≡ loaded_target w marks s x
        no-target s x o None settled at stands none is = none ∙ sym is
        no-target s x o (Some t) settled at stands none is =
            let it = loaded_target-is w marks s x t is in
            let new : IsNew w s x t = record {
              anew = settled;
              reference = it.reference;
              is_target = sym (ap (λ e. option_or e (target w x)) settled) ∙ it.kept;
            } in
            let r = new-found it.object s x t (orderly.objects x it.object (at_place w.symbols s x at) it.in_it) at it.in_it it.loaded new in
            let lies : r.0.reference < length w.symbols = subst (λ k. k < length w.symbols) (sym r.2) (slice_get_within w.symbols s x at) in
            let has : slice_get targets r.0.reference ≡ Some (Some r.0.target) = written.written means (λ q in_it.
            let n = found-new q in_it in
            ap (option_and_then (target w)) n.at ∙ n.new.is_target) r.0 r.1 lies in
            absurd (none_some r.0.target (sym none ∙ some_same o (Some r.0.target) (sym stands ∙ (ap (slice_get targets) (sym r.2) ∙ has))))

        -- the target of a symbol
        target-is : (s : ℕ) (x : Symbol) (o e : Option ℕ) → earlier_target w s ≡ e → slice_get w.symbols s ≡ Some x → slice_get targets s ≡ Some o → o ≡ loaded_target w marks s x
        target-is s x o (Some t) settled at stands = settled-target s t x o settled at stands
        target-is s x o None settled at stands = elim (written.kept s o stands) [
          | inl old ↦ no-target s x o (loaded_target w marks s x) settled at stands (old ∙ settled) refl
          | inr new ↦ new.3 ∙ found-target s x new.0 settled at new.1 new.2
        ]

-- the targets that were read are those of the loaded references of the stage
pub targets-are : (w : Stage) (known : Known) (objects : List SymbolsLeft) (marks : List Bool) (found : List (Option FoundItem)) (targets : List (Option ℕ))
    → IsOrderly w → IsKnownAt w known → AreObjectsOf w objects → IsLoaded w marks → AreItemsRead known objects marks found
    → AreTargetsRead (length w.symbols) w.earlier.targets found targets → targets ≡ each_from (loaded_target w marks) 0 w.symbols
targets-are w known objects marks found targets orderly at_stage of_stage loaded are_read written =
    same-each (loaded_target w marks) 0 w.symbols targets written.len (λ s x o at stands.
    let same : s ≡ 0 + s = omega arith in
    target-is w known at_stage objects of_stage marks found are_read targets orderly loaded written s x o (earlier_target w s) refl at stands
    ∙ ap (λ m. loaded_target w marks m x) same)

-- What items ask for, told by what is known, is what the symbols of the stage ask for.
use Rattle.std.proofs.Common.{◌≡◌, ◌+◌, ◌∙◌, ◌++◌, ℕ, suc, List, [], ◌∷◌, Bool, true, false, Option, Some, None, cond, length, map, refl, sym, ap, arith, slice_get, take, drop, is_some, filter}
use Rattle.std.specs.Prelude.{◌&&◌, ◌*◌, not, option_map, option_to_list}
use Rattle.std.specs.Option.{option_and_then, option_map_or, option_or}
use Rattle.std.specs.List.{flat_map, range_with_len}
use Rattle.std.proofs.lemmas.List.{map-append}
use Rattle.std.proofs.lemmas.List.FromFn.{length-enumerate_from}
use Rattle.std.proofs.lemmas.Option.{slice_get-map}
use Rattle.link_closure.specs.declared.workload.Item.{Item}
use Rattle.link_closure.specs.declared.workload.Mark.{Mark}
use Rattle.link_input.specs.Symbols.{Symbol, is_shared}
use Rattle.link_rules.specs.Loading.{is_root, request_between}
use Rattle.link_rules.specs.Marking.{named_marks, reference_flags, reference_marks}
use Rattle.link_rules.specs.Targets.{earlier_target, target}
use Rattle.link_rules.specs.Undefined.{is_weak_symbol}
use Rattle.link_rules.specs.Work.{item_count, item_of, item_size, new_marks, new_requests, object_items, object_places, symbols_with_ids, workload_of}
use Rattle.link_rules.specs.World.{Stage, is_reference, is_shared_at}
use Rattle.link_db_symbols.specs.Walk.{SymbolsLeft, with_ids}
use Rattle.link_resolve_requests.specs.Requests.{request_by, requested}
use Rattle.link_db_files.specs.Sources.{source_of, sources_of}
use Rattle.link_db_files.specs.declared.sources.SymbolSource.{SymbolSource}
use Rattle.link_resolve_requests.proofs.Asking.{asked-by, tested}
use Rattle.link_resolve_extraction.specs.Asked.{Known, is_shared_by, mark_by, marks_by, requests_by}
use Rattle.link_resolve_extraction.specs.Items.{all_items, part_at, parts_of, symbols_at}
use Rattle.link_resolve_extraction.specs.Planned.{item_by, planned}

-- what gives the same of each gives the same of all
same-joined : {X Y : Type 0} (f g : X → List Y) → ((x : X) → f x ≡ g x) → (xs : List X) → flat_map f xs ≡ flat_map g xs
same-joined f g same [] = refl
same-joined f g same (x ∷ xs) = ap (λ l. l ++ flat_map f xs) (same x) ∙ ap (λ l. g x ++ l) (same-joined f g same xs)

-- nothing, whatever is tested
nothing-anyway : (b : Bool) → ◌≡◌ {A = Option ℕ} (cond b None None) None
nothing-anyway true = refl
nothing-anyway false = refl

module _ (w : Stage) (means : Symbol → Option ℕ) (same : (x : Symbol) → means x ≡ target w x) where
  -- what is known at the stage
  abbrev pub known_at : Known
  known_at = record { sources = sources_of w.symbols; settled = w.earlier.targets; target = means }

  -- by its target and the sources a symbol asks for what it asks for
  requests-of : (x : Symbol) (o : Option ℕ)
      → option_to_list (request_by (sources_of w.symbols) x (cond (is_some o) None (cond (is_reference x) (target w x) None)))
      ≡ cond (is_some o) [] (option_to_list (cond (is_reference x && not (is_weak_symbol x)) (option_and_then (request_between w x) (option_or o (target w x))) None))
  requests-of x None =
      ap option_to_list (tested (λ t. option_and_then (requested (source_of x)) (option_and_then (slice_get (sources_of w.symbols)) t)) (option_and_then (request_between w x))
      (asked-by w x) refl (is_reference x) (is_weak_symbol x) (target w x))
  requests-of x (Some t) = ap option_to_list (nothing-anyway (is_weak_symbol x))

  -- what a symbol requests anew
  requests-same : (s : ℕ × Symbol) → requests_by known_at s ≡ new_requests w s
  requests-same s =
      ap (λ t. option_to_list (request_by (sources_of w.symbols) s.1 (cond (is_some (earlier_target w s.0)) None (cond (is_reference s.1) t None)))) (same s.1)
      ∙ requests-of s.1 (earlier_target w s.0)

  -- whether a symbol is shared
  shared-same : (t : ℕ) → is_shared_by (sources_of w.symbols) t ≡ is_shared_at w t
  shared-same t = ap (λ o. option_map_or (λ s. s.is_shared) o false) (slice_get-map source_of w.symbols t) ∙ of (slice_get w.symbols t)
    where
      of : (o : Option Symbol) → option_map_or (λ s. s.is_shared) (option_map source_of o) false ≡ option_map_or (λ x. is_shared x.origin) o false
      of None = refl
      of (Some x) = refl

  -- the mark on a target
  mark-of : (x : Symbol) (o : Option ℕ) → option_to_list (option_map (mark_by (sources_of w.symbols) x) o) ≡ reference_marks w x o
  mark-of x None = refl
  mark-of x (Some t) = ap (λ b. record { symbol = t; bits = reference_flags x b } ∷ []) (shared-same t)

  -- the mark that a symbol makes anew, by two tests
  marks-of : (x : Symbol) (settled reference : Bool) (t : Option ℕ) → option_to_list (option_map (mark_by (sources_of w.symbols) x) (cond settled None (cond reference t None)))
      ≡ cond settled [] (cond reference (reference_marks w x t) [])
  marks-of x true reference t = refl
  marks-of x false true t = mark-of x t
  marks-of x false false t = refl

  -- the mark that a symbol makes anew
  marks-same : (s : ℕ × Symbol) → marks_by known_at s ≡ new_marks w s
  marks-same s =
      ap (λ t. option_to_list (option_map (mark_by (sources_of w.symbols) s.1) (cond (is_some (earlier_target w s.0)) None (cond (is_reference s.1) t None)))) (same s.1)
      ∙ marks-of s.1 (is_some (earlier_target w s.0)) (is_reference s.1) (target w s.1)

  module _ (objects : List SymbolsLeft) (have : (f : ℕ) (o : SymbolsLeft) → slice_get objects f ≡ Some o → with_ids o ≡ symbols_with_ids w f) where
    -- an item of an object
    item-same : (f k : ℕ) (symbols : List (ℕ × Symbol)) → symbols ≡ symbols_with_ids w f → symbols_at objects f ≡ symbols
        → item_by known_at objects (part_at f k) ≡ item_of w f (take item_size (drop (item_size * k) (symbols_with_ids w f)))
    item-same f k symbols held is =
        let part : List (ℕ × Symbol) = take item_size (drop (item_size * k) (symbols_with_ids w f)) in
        ap (λ (l : List (ℕ × Symbol)). record { file = f; requests = flat_map (requests_by known_at) (take item_size (drop (item_size * k) l)); marks = flat_map (marks_by known_at) (take item_size (drop (item_size * k) l)) })
        (is ∙ held)
        ∙ (ap (λ (l : List ℕ). record { file = f; requests = l; marks = flat_map (marks_by known_at) part }) (same-joined (requests_by known_at) (new_requests w) requests-same part)
        ∙ ap (λ (l : List Mark). record { file = f; requests = flat_map (new_requests w) part; marks = l }) (same-joined (marks_by known_at) (new_marks w) marks-same part))

    -- the items of an object, by their numbers
    numbered-same : (f : ℕ) (symbols : List (ℕ × Symbol)) → symbols ≡ symbols_with_ids w f → symbols_at objects f ≡ symbols → (ks : List ℕ)
        → map (item_by known_at objects) (map (part_at f) ks) ≡ map (λ k. item_of w f (take item_size (drop (item_size * k) (symbols_with_ids w f)))) ks
    numbered-same f symbols held is [] = refl
    numbered-same f symbols held is (k ∷ ks) =
        ap (λ (it : Item). it ∷ map (item_by known_at objects) (map (part_at f) ks)) (item-same f k symbols held is)
        ∙ ap (λ l. item_of w f (take item_size (drop (item_size * k) (symbols_with_ids w f))) ∷ l) (numbered-same f symbols held is ks)

    -- the items of an object
    object-same : (f : ℕ) (o : SymbolsLeft) → slice_get objects f ≡ Some o → map (item_by known_at objects) (parts_of f (length o.left)) ≡ object_items w f
    object-same f o at =
        let held = have f o at in
        let count : length o.left ≡ length (symbols_with_ids w f) = sym (length-enumerate_from o.next o.left) ∙ ap (λ (l : List (ℕ × Symbol)). length l) held in
        ap (λ n. map (item_by known_at objects) (map (part_at f) (range_with_len 0 (item_count n)))) count
        ∙ numbered-same f (with_ids o) held (ap (λ p. option_map_or with_ids p []) at) (range_with_len 0 (item_count (length (symbols_with_ids w f))))

    -- the items of objects from one on
    objects-same : (f : ℕ) (os : List SymbolsLeft) → ((k : ℕ) (o : SymbolsLeft) → slice_get os k ≡ Some o → slice_get objects (f + k) ≡ Some o)
        → map (item_by known_at objects) (all_items f os) ≡ flat_map (object_items w) (range_with_len f (length os))
    objects-same f [] there = refl
    objects-same f (o ∷ os) there =
        let here : f + 0 ≡ f = omega arith in
        map-append (item_by known_at objects) (parts_of f (length o.left)) (all_items (f + 1) os)
        ∙ (ap (λ l. l ++ map (item_by known_at objects) (all_items (f + 1) os)) (object-same f o (sym (ap (slice_get objects) here) ∙ there 0 o refl))
        ∙ ap (λ l. object_items w f ++ l) (objects-same (f + 1) os (λ k p at.
        let next : f + 1 + k ≡ f + suc k = omega arith in
        ap (slice_get objects) next ∙ there (suc k) p at)))

    -- all items
    pub items-same : map (item_by known_at objects) (all_items 0 objects) ≡ flat_map (object_items w) (range_with_len 0 (length objects))
    items-same = objects-same 0 objects (λ k o at. let same : 0 + k ≡ k = omega arith in ap (slice_get objects) same ∙ at)

-- the work that is planned is that of the stage
pub planned-is : (w : Stage) (known : Known) (objects : List SymbolsLeft) (roots : List ℕ) (root_marks : List Mark) (opening : List ℕ)
    → known.sources ≡ sources_of w.symbols → known.settled ≡ w.earlier.targets → ((x : Symbol) → known.target x ≡ target w x)
    → length objects ≡ length w.objects → ((f : ℕ) (o : SymbolsLeft) → slice_get objects f ≡ Some o → with_ids o ≡ symbols_with_ids w f)
    → roots ≡ filter (is_root w) (object_places w) → root_marks ≡ named_marks w
    → planned known objects (all_items 0 objects) roots root_marks opening ≡ record (workload_of w) { opening = opening }
planned-is w known objects roots root_marks opening stand settled means count have rooted marked =
    ap (λ (k : Known). planned k objects (all_items 0 objects) roots root_marks opening) same
    ∙ (ap (λ (its : List Item). record { files = length objects; roots = roots; root_marks = root_marks; opening = opening; items = its }) items
    ∙ (ap (λ n. record { files = n; roots = roots; root_marks = root_marks; opening = opening; items = flat_map (object_items w) (object_places w) }) count
    ∙ (ap (λ (rs : List ℕ). record { files = length w.objects; roots = rs; root_marks = root_marks; opening = opening; items = flat_map (object_items w) (object_places w) }) rooted
    ∙ ap (λ (ms : List Mark). record { files = length w.objects; roots = filter (is_root w) (object_places w); root_marks = ms; opening = opening; items = flat_map (object_items w) (object_places w) }) marked)))
  where
    same : known ≡ known_at w known.target means
    same =
        ap (λ (ss : List SymbolSource). record { sources = ss; settled = known.settled; target = known.target }) stand
        ∙ ap (λ (ts : List (Option ℕ)). record { sources = sources_of w.symbols; settled = ts; target = known.target }) settled

    items : map (item_by (known_at w known.target means) objects) (all_items 0 objects) ≡ flat_map (object_items w) (object_places w)
    items = items-same w known.target means objects have ∙ ap (λ n. flat_map (object_items w) (range_with_len 0 n)) count

-- what stands for nothing requests nothing
pub none-requested : (sources : List SymbolSource) (x : Symbol) (t : Option ℕ) → t ≡ None → option_to_list (request_by sources x t) ≡ []
none-requested sources x t none = ap (λ o. option_to_list (request_by sources x o)) none ∙ ap option_to_list (nothing-anyway (is_weak_symbol x))

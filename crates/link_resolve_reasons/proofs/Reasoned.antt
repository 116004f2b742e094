-- The reasons that are looked up are those of the definition.
use Rattle.std.proofs.Common.{◌≡◌, ℕ, zero, suc, ◌+◌, ◌<◌, List, [], ◌∷◌, ◌++◌, length, map, filter, Bool, true, false, cond, refl, sym, ◌∙◌, ap, subst, arith, add-one, Some, None, Option, Contains, slice_get, get_or}
use Rattle.std.specs.Prelude.{◌&&◌, ◌||◌, ◌==◌, IsTrue, find, is_some, nat_lt, not, option_and_then, option_map, option_to_list}
use Rattle.std.specs.List.{range_with_len}
use Rattle.std.specs.Option.{option_map_or}
use Rattle.std.proofs.lemmas.Bool.{eqb-true, eq-eqb}
use Rattle.std.proofs.lemmas.Bool.Decides.{nat_tests}
use Rattle.std.proofs.lemmas.List.Elements.{Contains-get_or}
use Rattle.link_closure.specs.Closure.{IsLeastClosed, is_marked}
use Rattle.link_closure.specs.declared.Edge.{Edge}
use Rattle.link_closure.specs.Graph.{IsEdge, IsMarked}
use Rattle.link_closure.specs.Levels.{AreLevels, HasChain, HasLevel as Listed}
use Rattle.link_closure.proofs.Layers.{level-leads, marked-within}
use Rattle.link_closure.proofs.Reaching.{chain-in_closed}
use Rattle.link_db_files.specs.Sources.{sources_of}
use Rattle.link_input.specs.ObjectFile.{ObjectFile, is_optional}
use Rattle.link_resolve_requests.specs.Objects.{is_kept, kept_marks}
use Rattle.link_rules.specs.declared.explanation.FoundRoot.{FoundRoot}
use Rattle.link_rules.specs.declared.explanation.LoadedReason.{LoadedReason}
use Rattle.link_rules.specs.declared.explanation.Reason.{Reason}
use Rattle.link_rules.specs.declared.explanation.Reason.TheVariants.{Required, Root, Reference}
use Rattle.link_rules.specs.Places.{each_from, is_number, some_from}
use Rattle.link_rules.specs.Reasons.{AreReasons, HasLevel, IsReason, Loads, LoadsBy, is_mandatory, is_rooted, root_name_of}
use Rattle.link_rules.specs.Selection.{Selection}
use Rattle.link_rules.proofs.Settled.{none_some, some_same}
use Rattle.link_rules.proofs.AllRoots.{given-from}
use Rattle.link_rules.proofs.AllRoots.{given-in as mapped-in}
use Rattle.link_rules.proofs.Explaining.{and-both, level-of-loaded}
use Rattle.link_resolve_reasons.specs.declared.requests.Request.{Request}
use Rattle.link_resolve_reasons.specs.Firsts.{first_place}
use Rattle.link_resolve_reasons.specs.Requests.{request_in, requests_in}
use Rattle.link_resolve_reasons.specs.Told.{KnownObjects, edge_in, edges_in, entry_at, is_next, loaded_reason, reason_by_request, reason_by_root, reason_in, reasons_in, root_keys, rooted_marks, step_key, step_keys}
use Rattle.link_resolve_reasons.proofs.Lists.{at-first, found-is, found-some, first-least, given-at, some-first}
use Rattle.link_resolve_reasons.proofs.Asked.{loads-request, numbered, request-loads}

-- ---- marks

-- the marks of objects that are loaded in any case
kept-mark : (n : ℕ) (os : List ObjectFile) (f : ℕ) → is_marked (each_from (is_kept []) n os) f ≡ option_map_or (λ o. not (is_optional o)) (slice_get os f) false
kept-mark n [] f = refl
kept-mark n (o ∷ os) zero = refl
kept-mark n (o ∷ os) (suc f) = kept-mark (n + 1) os f

each-length : {X Y : Type 0} (g : ℕ → X → Y) (n : ℕ) (xs : List X) → length (each_from g n xs) ≡ length xs
each-length g n [] = refl
each-length g n (x ∷ xs) = ap suc (each-length g (n + 1) xs)

-- a mark that is made of a place and a mark
made-mark : (g : ℕ → Bool → Bool) (n : ℕ) (bs : List Bool) (f : ℕ) → f < length bs → is_marked (each_from g n bs) f ≡ g (n + f) (is_marked bs f)
made-mark g n [] f lt = absurd (omega arith)
made-mark g n (b ∷ bs) zero lt = let e : n ≡ n + 0 = omega arith in ap (λ (k : ℕ). g k b) e
made-mark g n (b ∷ bs) (suc f) lt =
    let e : n + 1 + f ≡ n + suc f = omega arith in
    made-mark g (n + 1) bs f (omega arith) ∙ ap (λ (k : ℕ). g k (is_marked bs f)) e

-- an entry is there exactly where the list has it
entry-listed : (levels : List (Option ℕ)) (f n : ℕ) → entry_at levels f ≡ Some n → Listed levels f n
entry-listed levels f n is = by (slice_get levels f) refl is
  where
    by : (o : Option (Option ℕ)) → slice_get levels f ≡ o → option_map_or (λ (e : Option ℕ). e) o None ≡ Some n → slice_get levels f ≡ Some (Some n)
    by None at none = absurd (none_some n none)
    by (Some e) at same = at ∙ ap (λ (k : Option ℕ). Some k) same

listed-entry : (levels : List (Option ℕ)) (f n : ℕ) → Listed levels f n → entry_at levels f ≡ Some n
listed-entry levels f n at = ap (λ (o : Option (Option ℕ)). option_map_or (λ (e : Option ℕ). e) o None) at

-- the second is next to the first
next-is : (first second : Option ℕ) → is_next first second ≡ true → (n : ℕ) × (first ≡ Some n) × (second ≡ Some (n + 1))
next-is None second is = absurd (cc)
next-is (Some n) None is = absurd (cc)
next-is (Some n) (Some m) is = (n, refl, ap (λ (k : ℕ). Some k) (eqb-true m (n + 1) is))

is-next : (n : ℕ) (first second : Option ℕ) → first ≡ Some n → second ≡ Some (n + 1) → is_next first second ≡ true
is-next n None second is after = absurd (none_some n is)
is-next n (Some k) None is after = absurd (none_some (n + 1) after)
is-next n (Some k) (Some m) is after = let e : m ≡ k + 1 = some_same m (n + 1) after ∙ ap (λ (i : ℕ). i + 1) (sym (some_same k n is)) in eq-eqb m (k + 1) e

-- a step key is the object that is asked for, one level further
key-is : (levels : List (Option ℕ)) (q : Request) (f : ℕ) → is_number (step_key levels q) f ≡ true → (q.to ≡ f) × (is_next (entry_at levels q.from) (entry_at levels q.to) ≡ true)
key-is levels q f is = by (is_next (entry_at levels q.from) (entry_at levels q.to)) refl is
  where
    by : (b : Bool) → is_next (entry_at levels q.from) (entry_at levels q.to) ≡ b → is_number (cond b (Some q.to) None) f ≡ true
        → (q.to ≡ f) × (is_next (entry_at levels q.from) (entry_at levels q.to) ≡ true)
    by true next same = (eqb-true q.to f same, next)
    by false next none = absurd (cc)

is-key : (levels : List (Option ℕ)) (q : Request) (f : ℕ) → q.to ≡ f → is_next (entry_at levels q.from) (entry_at levels q.to) ≡ true → is_number (step_key levels q) f ≡ true
is-key levels q f to next = ap (λ (b : Bool). is_number (cond b (Some q.to) None) f) next ∙ eq-eqb q.to f to

-- an edge of a request
edge-is : (count : ℕ) (q : Request) (e : Edge) → edge_in count q ≡ Some e → (q.from ≡ e.from) × (q.to ≡ e.to)
edge-is count q e is = by (nat_lt q.from count && nat_lt q.to count) is
  where
    by : (b : Bool) → cond b (Some (record { from = q.from; to = q.to })) None ≡ Some e → (q.from ≡ e.from) × (q.to ≡ e.to)
    by true same = let one = some_same (record { from = q.from; to = q.to }) e same in (ap (λ (x : Edge). x.from) one, ap (λ (x : Edge). x.to) one)
    by false none = absurd (none_some e none)

below-test : (a b : ℕ) → a < b → nat_lt a b ≡ true
below-test a b lt = grind (arith, nat_tests)

is-edge : (count : ℕ) (q : Request) → q.from < count → q.to < count → edge_in count q ≡ Some (record { from = q.from; to = q.to })
is-edge count q from to = ap (λ (b : Bool). cond b (Some (record { from = q.from; to = q.to })) None) (and-both (nat_lt q.from count) (nat_lt q.to count) (below-test q.from count from) (below-test q.to count to))

-- ---- lists of loaded objects

-- the objects of the reasons are those that are loaded, if each of these has one
objects-of : (k : KnownObjects) (p : ℕ → Bool) (n : ℕ) (bs : List Bool) → ((i : ℕ) (b : Bool) → slice_get bs i ≡ Some b → p (n + i) ≡ b)
    → ((f : ℕ) → p f ≡ true → (r : Reason) × (reason_in k f ≡ Some r))
    → map (λ (r : LoadedReason). r.object) (some_from (loaded_reason k) n bs) ≡ filter p (range_with_len n (length bs))
objects-of k p n [] marks reasons = refl
objects-of k p n (b ∷ bs) marks reasons =
    by b (marks 0 b refl) (objects-of k p (n + 1) bs (λ i c at. let e : n + suc i ≡ n + 1 + i = omega arith in subst (λ m. p m ≡ c) e (marks (suc i) c at)) reasons)
  where
    zero_add : n + 0 ≡ n
    zero_add = omega arith

    given : p n ≡ true → (r : Reason) × (reason_in k n ≡ Some r)
    given is = reasons n is

    by : (c : Bool) → p (n + 0) ≡ c → map (λ (r : LoadedReason). r.object) (some_from (loaded_reason k) (n + 1) bs) ≡ filter p (range_with_len (n + 1) (length bs))
        → map (λ (r : LoadedReason). r.object) (option_to_list (loaded_reason k n c) ++ some_from (loaded_reason k) (n + 1) bs) ≡ cond (p n) (n ∷ filter p (range_with_len (n + 1) (length bs))) (filter p (range_with_len (n + 1) (length bs)))
    by true is rest =
        let here : p n ≡ true = subst (λ m. p m ≡ true) zero_add is in
        let it = given here in
        ap (λ (o : Option Reason). map (λ (r : LoadedReason). r.object) (option_to_list (option_map (λ (r : Reason). record { object = n; reason = r }) o) ++ some_from (loaded_reason k) (n + 1) bs)) it.1
        ∙ ap (λ (xs : List ℕ). n ∷ xs) rest
        ∙ sym (ap (λ (c : Bool). cond c (n ∷ filter p (range_with_len (n + 1) (length bs))) (filter p (range_with_len (n + 1) (length bs)))) here)
    by false is rest =
        let here : p n ≡ false = subst (λ m. p m ≡ false) zero_add is in
        rest ∙ sym (ap (λ (c : Bool). cond c (n ∷ filter p (range_with_len (n + 1) (length bs))) (filter p (range_with_len (n + 1) (length bs)))) here)

-- a mark at its place
mark-there : (bs : List Bool) (i : ℕ) (b : Bool) → slice_get bs i ≡ Some b → is_marked bs i ≡ b
mark-there [] i b at = absurd (none_some b at)
mark-there (c ∷ bs) zero b at = some_same c b at
mark-there (c ∷ bs) (suc i) b at = mark-there bs i b at

-- ---- what is looked up

module _ (l : Selection) (roots : List FoundRoot)
    (follows : IsLeastClosed (λ g. IsTrue (is_rooted l.stage roots g)) (Loads l) (length l.stage.objects) l.marks)
    (mandatory : List Bool) (made : mandatory ≡ kept_marks [] l.stage.objects)
    (first_roots : List (Option ℕ)) (roots-at : (f : ℕ) → f < length mandatory → slice_get first_roots f ≡ Some (first_place (root_keys roots) f))
    (requests : List Request) (asked : requests ≡ requests_in l.targets l.stage.symbols)
    (levels : List (Option ℕ)) (known : AreLevels (IsMarked (rooted_marks mandatory first_roots)) (IsEdge (edges_in (length (rooted_marks mandatory first_roots)) requests))
    (length (rooted_marks mandatory first_roots)) levels)
    (first_requests : List (Option ℕ)) (requests-at : (f : ℕ) → f < length mandatory → slice_get first_requests f ≡ Some (first_place (step_keys levels requests) f)) where
  abbrev k : KnownObjects
  k = record { mandatory = mandatory; roots = roots; first_roots = first_roots; requests = requests; first_requests = first_requests }

  abbrev Rooted : ℕ → Type 0
  Rooted g = IsTrue (is_rooted l.stage roots g)

  abbrev marks : List Bool
  marks = rooted_marks mandatory first_roots

  many : length mandatory ≡ length l.stage.objects
  many = ap (λ (bs : List Bool). length bs) made ∙ each-length (is_kept []) 0 l.stage.objects

  many-marks : length marks ≡ length l.stage.objects
  many-marks = each-length (λ f is_mandatory. is_mandatory || is_some (entry_at first_roots f)) 0 mandatory ∙ many

  mandatory-is : (f : ℕ) → is_marked mandatory f ≡ is_mandatory l.stage f
  mandatory-is f = ap (λ (bs : List Bool). is_marked bs f) made ∙ kept-mark 0 l.stage.objects f

  -- the first root name of an object
  root-is : (f : ℕ) → f < length mandatory → option_and_then (slice_get roots) (entry_at first_roots f) ≡ find (λ (r : FoundRoot). r.object == f) roots
  root-is f lt =
      ap (λ (o : Option (Option ℕ)). option_and_then (slice_get roots) (option_map_or (λ (e : Option ℕ). e) o None)) (roots-at f lt)
      ∙ at-first (λ (r : FoundRoot). Some r.object) (λ key. is_number key f) roots

  has-root : (f : ℕ) → f < length mandatory → is_some (entry_at first_roots f) ≡ is_some (root_name_of roots f)
  has-root f lt =
      ap (λ (o : Option (Option ℕ)). is_some (option_map_or (λ (e : Option ℕ). e) o None)) (roots-at f lt)
      ∙ some-first (λ (r : FoundRoot). Some r.object) (λ key. is_number key f) roots ∙ named (find (λ (r : FoundRoot). r.object == f) roots)
    where
      named : (o : Option FoundRoot) → is_some o ≡ is_some (option_map (λ (r : FoundRoot). r.name) o)
      named None = refl
      named (Some r) = refl

  -- the marks are those of what is loaded without a reference
  mark-is : (f : ℕ) → f < length mandatory → is_marked marks f ≡ is_rooted l.stage roots f
  mark-is f lt =
      let e : 0 + f ≡ f = omega arith in
      made-mark (λ g is_mandatory. is_mandatory || is_some (entry_at first_roots g)) 0 mandatory f lt
      ∙ ap (λ (g : ℕ). is_marked mandatory f || is_some (entry_at first_roots g)) e
      ∙ ap (λ (b : Bool). b || is_some (entry_at first_roots f)) (mandatory-is f) ∙ ap (λ (b : Bool). is_mandatory l.stage f || b) (has-root f lt)

  -- what is loaded is an object
  loaded-inside : (f : ℕ) → is_marked l.marks f ≡ true → f < length mandatory
  loaded-inside f is = let within = marked-within l.marks f is in omega (arith, follows.each, many)

  -- ---- chains

  request-in : (q : Request) → Contains requests q → LoadsBy l q.symbol q.from q.to
  request-in q within = request-loads l q (subst (λ (qs : List Request). Contains qs q) asked within)

  in-request : (s f g : ℕ) → LoadsBy l s f g → Contains requests (record { symbol = s; from = f; to = g })
  in-request s f g loads = subst (λ (qs : List Request). Contains qs (record { symbol = s; from = f; to = g })) (sym asked) (loads-request l s f g loads)

  chain-to : (n f : ℕ) → HasChain (IsMarked marks) (IsEdge (edges_in (length marks) requests)) n f → HasChain Rooted (Loads l) n f
  chain-to zero f marked = let within = marked-within marks f marked in let lt : f < length mandatory = omega (arith, many, many-marks) in sym (mark-is f lt) ∙ marked
  chain-to (suc n) f (e, chain, edge) =
      let from = given-from (edge_in (length marks)) requests (record { from = e; to = f }) edge in
      let ends = edge-is (length marks) from.0 (record { from = e; to = f }) from.2 in
      let loads = request-in from.0 from.1 in
      (e, chain-to n e chain, (from.0.symbol, subst (λ a. LoadsBy l from.0.symbol a f) ends.0 (subst (LoadsBy l from.0.symbol from.0.from) ends.1 loads)))

  chain-from : (n f : ℕ) → HasChain Rooted (Loads l) n f → HasChain (IsMarked marks) (IsEdge (edges_in (length marks) requests)) n f
  chain-from zero f root = mark-is f (loaded-inside f (follows.closed.0 f root)) ∙ root
  chain-from (suc n) f (e, chain, loads) =
      let marked-e = chain-in_closed Rooted (Loads l) (is_marked l.marks) follows.closed n e chain in
      let inside-e = loaded-inside e marked-e in
      let inside-f = loaded-inside f (follows.closed.1 e f marked-e loads) in
      let q : Request = record { symbol = loads.0; from = e; to = f } in (
        e,
        chain-from n e chain,
        mapped-in (edge_in (length marks)) requests q (record { from = e; to = f }) (in-request loads.0 e f loads.1)
            (is-edge (length marks) q (omega (arith, many, many-marks)) (omega (arith, many, many-marks))),
      )

  -- what a list of levels says is so
  level-told : (f n : ℕ) → entry_at levels f ≡ Some n → HasLevel l roots n f
  level-told f n is =
      let told = (known.level f n).0 (entry-listed levels f n is) in
      record { chain = chain-to n f told.chain; least = λ m chain. told.least m (chain-from m f chain) }

  told-level : (f n : ℕ) → HasLevel l roots n f → entry_at levels f ≡ Some n
  told-level f n level =
      listed-entry levels f n ((known.level f n).1 (record { chain = chain-from n f level.chain; least = λ m chain. level.least m (chain-to m f chain) }))

  -- ---- the first request

  abbrev is_step : ℕ → Request → Bool
  is_step f q = is_number (step_key levels q) f

  request-is : (f : ℕ) → f < length mandatory → option_and_then (slice_get requests) (entry_at first_requests f) ≡ find (is_step f) requests
  request-is f lt =
      ap (λ (o : Option (Option ℕ)). option_and_then (slice_get requests) (option_map_or (λ (e : Option ℕ). e) o None)) (requests-at f lt)
      ∙ at-first (step_key levels) (λ key. is_number key f) requests

  -- a request by a step leads from one level to the next
  step-levels : (f : ℕ) (q : Request) → is_step f q ≡ true → (q.to ≡ f) × ((n : ℕ) × HasLevel l roots n q.from × HasLevel l roots (n + 1) f)
  step-levels f q is =
      let key = key-is levels q f is in
      let next = next-is (entry_at levels q.from) (entry_at levels q.to) key.1 in
      (key.0, (next.0, level-told q.from next.0 next.1, subst (λ g. HasLevel l roots (next.0 + 1) g) key.0 (level-told q.to (next.0 + 1) next.2)))

  -- the first request by a step is the reason of its object
  first-reason : (f : ℕ) (q : Request) → is_rooted l.stage roots f ≡ false → find (is_step f) requests ≡ Some q → IsReason l roots f (Reference q.symbol q.from)
  first-reason f q unrooted found =
      let it = found-is (is_step f) requests q found in
      let step = step-levels f q it.1 in
      let n : ℕ = step.1.0 in (
        unrooted,
        n,
        step.1.2,
        record {
          asks = subst (LoadsBy l q.symbol q.from) step.0 (request-in q it.0);
          level = step.1.1;
          least = λ t e loads level.
              let r : Request = record { symbol = t; from = e; to = f } in
              let passes : is_step f r ≡ true = is-key levels r f refl (is-next n (entry_at levels e) (entry_at levels f) (told-level e n level) (told-level f (n + 1) step.1.2)) in
              first-least (request_in (sources_of l.stage.symbols) l.targets) (λ (p : Request). p.symbol) (numbered (sources_of l.stage.symbols) l.targets)
              (is_step f) 0 l.stage.symbols q r (subst (λ (qs : List Request). find (is_step f) qs ≡ Some q) asked found)
              (subst (λ (qs : List Request). Contains qs r) asked (in-request t e f loads)) passes;
        },
      )

  -- an object that isn't loaded without a reference has such a request
  some-request : (f : ℕ) → is_marked l.marks f ≡ true → is_rooted l.stage roots f ≡ false → (q : Request) × (find (is_step f) requests ≡ Some q)
  some-request f marked unrooted = by-level it.0 it.2
    where
      it : (n : ℕ) × (n < length l.stage.objects) × HasLevel l roots n f
      it = level-of-loaded l roots follows f marked

      by-level : (n : ℕ) → HasLevel l roots n f → (q : Request) × (find (is_step f) requests ≡ Some q)
      by-level zero level = absurd (let both : true ≡ false = sym level.chain ∙ unrooted in cc)
      by-level (suc n) level =
          let from = level-leads Rooted (Loads l) n f level in
          let r : Request = record { symbol = from.2.0; from = from.0; to = f } in
          let after : HasLevel l roots (n + 1) f = subst (λ m. HasLevel l roots m f) (sym (add-one n)) level in
          found-some (is_step f) requests r (in-request from.2.0 from.0 f from.2.1)
          (is-key levels r f refl (is-next n (entry_at levels from.0) (entry_at levels f) (told-level from.0 n from.1) (told-level f (n + 1) after)))

  -- ---- the reason

  reason-at : (f : ℕ) → is_marked l.marks f ≡ true → (r : Reason) × (reason_in k f ≡ Some r) × IsReason l roots f r
  reason-at f marked = by (is_mandatory l.stage f) refl (find (λ (r : FoundRoot). r.object == f) roots) refl
    where
      lt : f < length mandatory
      lt = loaded-inside f marked

      by : (b : Bool) → is_mandatory l.stage f ≡ b → (o : Option FoundRoot) → find (λ (r : FoundRoot). r.object == f) roots ≡ o
          → (r : Reason) × (reason_in k f ≡ Some r) × IsReason l roots f r
      by true is o found =
          (Required, ap (λ (b : Bool). cond b (Some Required) (reason_by_root (option_and_then (slice_get roots) (entry_at first_roots f)) (option_and_then (slice_get requests) (entry_at first_requests f)))) (mandatory-is f ∙ is), is)
      by false is (Some r) found = (
        Root r.name,
        ap (λ (b : Bool). cond b (Some Required) (reason_by_root (option_and_then (slice_get roots) (entry_at first_roots f)) (option_and_then (slice_get requests) (entry_at first_requests f)))) (mandatory-is f ∙ is)
            ∙ ap (λ (o : Option FoundRoot). reason_by_root o (option_and_then (slice_get requests) (entry_at first_requests f))) (root-is f lt ∙ found),
        (is, ap (option_map (λ (q : FoundRoot). q.name)) found),
      )
      by false is None found =
          let none : is_some (root_name_of roots f) ≡ false = ap (λ (o : Option FoundRoot). is_some (option_map (λ (q : FoundRoot). q.name) o)) found in
          let unrooted : is_rooted l.stage roots f ≡ false = ap (λ (b : Bool). b || is_some (root_name_of roots f)) is ∙ none in
          let it = some-request f marked unrooted in (
            Reference it.0.symbol it.0.from,
            ap (λ (b : Bool). cond b (Some Required) (reason_by_root (option_and_then (slice_get roots) (entry_at first_roots f)) (option_and_then (slice_get requests) (entry_at first_requests f)))) (mandatory-is f ∙ is)
                ∙ ap (λ (o : Option FoundRoot). reason_by_root o (option_and_then (slice_get requests) (entry_at first_requests f))) (root-is f lt ∙ found)
                ∙ ap (λ (o : Option Request). reason_by_request o) (request-is f lt ∙ it.1),
            first-reason f it.0 unrooted it.1,
          )

  -- a reason that is told is that of a loaded object
  told-is : (r : LoadedReason) → Contains (reasons_in k l.marks) r → IsReason l roots r.object r.reason
  told-is r within =
      let it = given-at (loaded_reason k) 0 l.marks r within in
      by it.0 it.1 (mark-there l.marks it.0 it.1 it.2) it.3
    where
      by : (i : ℕ) (b : Bool) → is_marked l.marks i ≡ b → loaded_reason k (0 + i) b ≡ Some r → IsReason l roots r.object r.reason
      by i false marked none = absurd (none_some r none)
      by i true marked given =
          let e : 0 + i ≡ i = omega arith in
          let it = reason-at i marked in
          let found : reason_in k (0 + i) ≡ Some it.0 = ap (reason_in k) e ∙ it.1 in
          let same : record { object = 0 + i; reason = it.0 } ≡ r = some_same (record { object = 0 + i; reason = it.0 }) r (sym (ap (option_map (λ (x : Reason). record { object = 0 + i; reason = x })) found) ∙ given) in
          subst (λ (x : LoadedReason). IsReason l roots x.object x.reason) same (subst (λ m. IsReason l roots m it.0) (sym e) it.2)

  pub reasons-told : AreReasons l roots (reasons_in k l.marks)
  reasons-told = record {
    each = objects-of k (is_marked l.marks) 0 l.marks (λ i b at. let e : 0 + i ≡ i = omega arith in ap (is_marked l.marks) e ∙ mark-there l.marks i b at)
        (λ f is. let it = reason-at f is in (it.0, it.1)) ∙ ap (λ (n : ℕ). filter (is_marked l.marks) (range_with_len 0 n)) follows.each;
    reason = λ i d lt. told-is (get_or (reasons_in k l.marks) i d) (Contains-get_or (reasons_in k l.marks) i d lt);
  }

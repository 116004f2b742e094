-- What is computed of a world is what the definitions say.
use Rattle.std.proofs.Common.{◌≡◌, ℕ, zero, suc, ◌+◌, List, [], ◌∷◌, length, Bool, true, false, not, Option, Some, None, Ok, Err, MatchOption, inl, inr, refl, sym, ◌∙◌, ap, subst, arith}
use Rattle.std.specs.Prelude.{◌&&◌, ◌||◌, IsTrue, slice_get, option_and_then}
use Rattle.std.specs.Option.{option_map_or}
use Rattle.std.proofs.lemmas.Bool.{eqb-true}
use Rattle.std.specs.List.{list_any, list_all, enumerate_from}
use Rattle.link_closure.specs.Closure.{IsClosed, is_marked}
use Rattle.link_input.specs.InputFiles.{Batch}
use Rattle.link_input.specs.ObjectFile.{ObjectFile, is_optional}
use Rattle.link_input.specs.Symbols.{Symbol, object_in}
use Rattle.link_rules.specs.declared.refusal.LinkError.{LinkError}
use Rattle.link_rules.specs.Places.{each_from, is_number}
use Rattle.link_rules.specs.World.{World, Stage, start_of, with_batch, object_of}
use Rattle.link_rules.specs.Names.{first_definition}
use Rattle.link_rules.specs.Loading.{is_root, is_required, IsRoot, HasEdge, IsLoaded, request_of, root_names, holds_name}
use Rattle.link_rules.specs.Marking.{ended}
use Rattle.link_rules.specs.Selection.{Selection, selection_of}
use Rattle.link_rules.specs.Undefined.{resolved}
use Rattle.link_rules.specs.Refusals.{text_refusal, batch_refusal, group_refusal, late_refusal}
use Rattle.link_rules.specs.Answer.{End, EndsWith, BatchesEnd, linked_from}
use Rattle.link_rules.proofs.Rounds.{either, any-found}
use Rattle.link_rules.proofs.Settled.{both_true}
use Rattle.link_rules_worlds.specs.Computing.{Request, Ending, arrived, stopped, rounds_missing, unless_cause, ending_loaded, ending_unless, ending_of, Case, Outcome, report, refusal, too_few_rounds, IsOutcome, IsAnswered, is_told, request_from, requests_at, asks_for, grown, grown_times, root_marks, loaded_by_rounds, is_marked_if, is_served, is_closed, outcome_from, outcome_at, outcome_unless, outcome_of}

-- a test and its negation do not both hold
not-both : (a : Bool) → not a ≡ true → a ≡ true → ⊥
not-both true e h = cc
not-both false e h = cc

-- equal things that are there are equal
some-same : {A : Type 0} (x y : A) → ◌≡◌ {A = Option A} (Some x) (Some y) → x ≡ y
some-same x y e = ap (λ (o : Option _). option_map_or (λ z. z) o x) e

-- ---- lists

-- all pass, so what stands at a place passes
all-at : {X : Type 0} (p : X → Bool) (xs : List X) (k : ℕ) (x : X) → list_all p xs ≡ true → slice_get xs k ≡ Some x → p x ≡ true
all-at p [] k x e at = absurd cc
all-at p (y ∷ ys) zero x e at = subst (λ z. p z ≡ true) (some-same y x at) (both_true (p y) (list_all p ys) e).0
all-at p (y ∷ ys) (suc k) x e at = all-at p ys k x (both_true (p y) (list_all p ys) e).1 at

-- the same of elements with their numbers
all-numbered : {X : Type 0} (p : ℕ × X → Bool) (n : ℕ) (xs : List X) (k : ℕ) (x : X) → list_all p (enumerate_from n xs) ≡ true → slice_get xs k ≡ Some x → p (n + k, x) ≡ true
all-numbered p n [] k x e at = absurd cc
all-numbered p n (y ∷ ys) zero x e at =
    let same : n ≡ n + 0 = omega arith in
    let here : p (n, y) ≡ true = (both_true (p (n, y)) (list_all p (enumerate_from (n + 1) ys)) e).0 in
    subst (λ m. p (m, x) ≡ true) same (subst (λ z. p (n, z) ≡ true) (some-same y x at) here)
all-numbered p n (y ∷ ys) (suc k) x e at =
    let next : n + 1 + k ≡ n + suc k = omega arith in
    subst (λ m. p (m, x) ≡ true) next (all-numbered p (n + 1) ys k x (both_true (p (n, y)) (list_all p (enumerate_from (n + 1) ys)) e).1 at)

-- a list made place by place is as long as the other
each-length : {X Y : Type 0} (f : ℕ → X → Y) (n : ℕ) (xs : List X) → length (each_from f n xs) ≡ length xs
each-length f n [] = refl
each-length f n (x ∷ xs) = let rest = each-length f (n + 1) xs in omega (arith, rest)

-- a mark that was made place by place
each-marked : {X : Type 0} (f : ℕ → X → Bool) (n : ℕ) (xs : List X) (k : ℕ) → is_marked (each_from f n xs) k ≡ true → (x : X) × (slice_get xs k ≡ Some x) × (f (n + k) x ≡ true)
each-marked f n [] k e = absurd cc
each-marked f n (x ∷ xs) zero e =
    let same : n ≡ n + 0 = omega arith in
    (x, refl, subst (λ m. f m x ≡ true) same e)
each-marked f n (x ∷ xs) (suc k) e =
    let next : n + 1 + k ≡ n + suc k = omega arith in
    let r = each-marked f (n + 1) xs k e in (r.0, r.1, subst (λ m. f m r.0 ≡ true) next r.2)

-- a mark that stands at a place is one of the set's
marked-at : (marks : List Bool) (k : ℕ) (b : Bool) → slice_get marks k ≡ Some b → b ≡ true → is_marked marks k ≡ true
marked-at [] k b at is = absurd cc
marked-at (x ∷ xs) zero b at is = some-same x b at ∙ is
marked-at (x ∷ xs) (suc k) b at is = marked-at xs k b at is

-- a test of numbers tells equality
number-is : (o : Option ℕ) (g : ℕ) → is_number o g ≡ true → o ≡ Some g
number-is None g e = absurd cc
number-is (Some t) g e = let same : t ≡ g = eqb-true t g e in ap (λ (n : ℕ). Some n) same

-- ---- the rounds stay in each closed set

-- what a marked object asks for is in every closed set that holds the marks
from-request : (w : Stage) (marks : List Bool) (other : ℕ → Bool) → IsClosed (IsRoot w) (HasEdge w) other
    → ((f : ℕ) → is_marked marks f ≡ true → IsTrue (other f)) → (s g : ℕ) (x : Symbol) → slice_get w.symbols s ≡ Some x
    → (from : Option ℕ) → object_in x.origin ≡ from → asks_for marks g (from, request_of w s x) ≡ true → IsTrue (other g)
from-request w marks other closed within s g x at None in_object e = absurd cc
from-request w marks other closed within s g x at (Some f) in_object e =
    let parts = both_true (is_marked marks f) (is_number (request_of w s x) g) e in
    closed.1 f g (within f parts.0) (s, x, at, in_object, number-is (request_of w s x) g parts.1)

-- what stands at a place of the requests is the request of the symbol there
asked-at : (w : Stage) (n : ℕ) (xs : List Symbol) (k : ℕ) (r : Request) → slice_get (each_from (request_from w) n xs) k ≡ Some r
    → (x : Symbol) × (slice_get xs k ≡ Some x) × (r ≡ request_from w (n + k) x)
asked-at w n [] k r at = absurd cc
asked-at w n (x ∷ xs) zero r at =
    let same : n ≡ n + 0 = omega arith in
    (x, refl, sym (some-same (request_from w n x) r at) ∙ ap (λ m. request_from w m x) same)
asked-at w n (x ∷ xs) (suc k) r at =
    let next : n + 1 + k ≡ n + suc k = omega arith in
    let it = asked-at w (n + 1) xs k r at in (it.0, it.1, it.2 ∙ ap (λ m. request_from w m it.0) next)

-- a round stays in every closed set that holds the marks
grown-within : (w : Stage) (marks : List Bool) (other : ℕ → Bool) → IsClosed (IsRoot w) (HasEdge w) other
    → ((f : ℕ) → is_marked marks f ≡ true → IsTrue (other f)) → (g : ℕ) → is_marked (grown (requests_at w) marks) g ≡ true → IsTrue (other g)
grown-within w marks other closed within g e =
    let asked : List Request = requests_at w in
    let made = each-marked (λ k b. b || list_any (asks_for marks k) asked) 0 marks g e in
    let same : 0 + g ≡ g = omega arith in
    let here : (made.0 || list_any (asks_for marks g) asked) ≡ true = subst (λ m. (made.0 || list_any (asks_for marks m) asked) ≡ true) same made.2 in
    elim (either made.0 (list_any (asks_for marks g) asked) here) [
      | inl h ↦ within g (marked-at marks g made.0 made.1 h)
      | inr h ↦
          let r = any-found (asks_for marks g) asked h in
          let x = asked-at w 0 w.symbols r.0 r.1 r.2 in
          let zero_add : 0 + r.0 ≡ r.0 = omega arith in
          let it : r.1 ≡ request_from w r.0 x.0 = x.2 ∙ ap (λ m. request_from w m x.0) zero_add in
          from-request w marks other closed within r.0 g x.0 x.1 (object_in x.0.origin) refl (subst (λ q. asks_for marks g q ≡ true) it r.3)
    ]

-- so do several
rounds-within : (w : Stage) (n : ℕ) (marks : List Bool) (other : ℕ → Bool) → IsClosed (IsRoot w) (HasEdge w) other
    → ((f : ℕ) → is_marked marks f ≡ true → IsTrue (other f)) → (g : ℕ) → is_marked (grown_times n (requests_at w) marks) g ≡ true → IsTrue (other g)
rounds-within w zero marks other closed within g e = within g e
rounds-within w (suc n) marks other closed within g e =
    rounds-within w n (grown (requests_at w) marks) other closed (grown-within w marks other closed within) g e

-- the roots are in every closed set
roots-within : (w : Stage) (other : ℕ → Bool) → IsClosed (IsRoot w) (HasEdge w) other → (f : ℕ) → is_marked (root_marks w) f ≡ true → IsTrue (other f)
roots-within w other closed f e =
    let made = each-marked (λ k (o : ObjectFile). is_root w k) 0 w.objects f e in
    let same : 0 + f ≡ f = omega arith in
    closed.0 f (subst (λ m. is_root w m ≡ true) same made.2)

-- rounds keep the number of marks
rounds-length : (n : ℕ) (asked : List Request) (marks : List Bool) → length (grown_times n asked marks) ≡ length marks
rounds-length zero asked marks = refl
rounds-length (suc n) asked marks =
    rounds-length n asked (grown asked marks) ∙ each-length (λ k b. b || list_any (asks_for marks k) asked) 0 marks

-- ---- what passes the test is closed

-- what an earlier batch loaded is marked
kept : (marks : List Bool) (n : ℕ) (old : List Bool) (f : ℕ) → list_all (λ (m : ℕ × Bool). not m.1 || is_marked marks m.0) (enumerate_from n old) ≡ true
    → is_marked old f ≡ true → is_marked marks (n + f) ≡ true
kept marks n [] f all e = absurd cc
kept marks n (b ∷ bs) zero all e =
    let same : n ≡ n + 0 = omega arith in
    elim (either (not b) (is_marked marks n) (both_true _ (list_all (λ (m : ℕ × Bool). not m.1 || is_marked marks m.0) (enumerate_from (n + 1) bs)) all).0) [
      | inl h ↦ absurd (not-both b h e)
      | inr h ↦ subst (λ m. is_marked marks m ≡ true) same h
    ]
kept marks n (b ∷ bs) (suc f) all e =
    let next : n + 1 + f ≡ n + suc f = omega arith in
    subst (λ m. is_marked marks m ≡ true) next (kept marks (n + 1) bs f (both_true _ (list_all (λ (m : ℕ × Bool). not m.1 || is_marked marks m.0) (enumerate_from (n + 1) bs)) all).1 e)

-- an object that is not optional is marked
required : (w : Stage) (marks : List Bool) (f : ℕ) (o : Option ObjectFile) → slice_get w.objects f ≡ o
    → list_all (λ o. is_optional o.1 || is_marked marks o.0) (enumerate_from 0 w.objects) ≡ true
    → option_map_or (λ o. not (is_optional o)) o false ≡ true → is_marked marks f ≡ true
required w marks f None at all e = absurd cc
required w marks f (Some o) at all e =
    let same : 0 + f ≡ f = omega arith in
    let here = all-numbered (λ p. is_optional p.1 || is_marked marks p.0) 0 w.objects f o all at in
    elim (either (is_optional o) (is_marked marks (0 + f)) here) [
      | inl h ↦ absurd (not-both (is_optional o) e h)
      | inr h ↦ subst (λ m. is_marked marks m ≡ true) same h
    ]

-- an object of a root name is marked
named : (w : Stage) (marks : List Bool) (f : ℕ)
    → list_all (λ name. is_marked_if marks (option_and_then (object_of w) (first_definition w name))) (root_names w) ≡ true
    → list_any (holds_name w f) (root_names w) ≡ true → is_marked marks f ≡ true
named w marks f all e =
    let r = any-found (holds_name w f) (root_names w) e in
    let held = number-is (option_and_then (object_of w) (first_definition w r.1)) f r.3 in
    let marked = all-at (λ name. is_marked_if marks (option_and_then (object_of w) (first_definition w name))) (root_names w) r.0 r.1 all r.2 in
    subst (λ o. is_marked_if marks o ≡ true) held marked

-- what a marked object asks for is marked
served : (marks : List Bool) (f g : ℕ) (from to : Option ℕ) → is_served marks (from, to) ≡ true → from ≡ Some f → to ≡ Some g → is_marked marks f ≡ true → is_marked marks g ≡ true
served marks f g from to e is_from is_to held =
    let here : is_served marks (Some f, Some g) ≡ true = subst (λ t. is_served marks (Some f, t) ≡ true) is_to (subst (λ o. is_served marks (o, to) ≡ true) is_from e) in
    elim (either (not (is_marked marks f)) (is_marked marks g) here) [
      | inl h ↦ absurd (not-both (is_marked marks f) h held)
      | inr h ↦ h
    ]

-- a request of a symbol stands at the symbol's place
asked-there : (w : Stage) (n : ℕ) (xs : List Symbol) (k : ℕ) (x : Symbol) → slice_get xs k ≡ Some x → slice_get (each_from (request_from w) n xs) k ≡ Some (request_from w (n + k) x)
asked-there w n [] k x at = absurd cc
asked-there w n (y ∷ ys) zero x at =
    let same : n ≡ n + 0 = omega arith in
    ap (λ z. Some (request_from w n z)) (some-same y x at) ∙ ap (λ m. Some (request_from w m x)) same
asked-there w n (y ∷ ys) (suc k) x at =
    let next : n + 1 + k ≡ n + suc k = omega arith in
    asked-there w (n + 1) ys k x at ∙ ap (λ m. Some (request_from w m x)) next

-- marks that pass the test are closed
closed-by : (w : Stage) (marks : List Bool) → is_closed w marks ≡ true → IsClosed (IsRoot w) (HasEdge w) (is_marked marks)
closed-by w marks e =
    let stays = list_all (λ (m : ℕ × Bool). not m.1 || is_marked marks m.0) (enumerate_from 0 w.earlier.loaded) in
    let optional = list_all (λ o. is_optional o.1 || is_marked marks o.0) (enumerate_from 0 w.objects) in
    let names = list_all (λ name. is_marked_if marks (option_and_then (object_of w) (first_definition w name))) (root_names w) in
    let asked = list_all (is_served marks) (requests_at w) in
    let first = both_true (stays && optional && names) asked e in
    let second = both_true (stays && optional) names first.0 in
    let third = both_true stays optional second.0 in (
      λ f root.
          let zero_add : 0 + f ≡ f = omega arith in
          elim (either (is_marked w.earlier.loaded f) (is_required w f) root) [
            | inl h ↦ subst (λ m. is_marked marks m ≡ true) zero_add (kept marks 0 w.earlier.loaded f third.0 h)
            | inr h ↦ elim (either (option_map_or (λ o. not (is_optional o)) (slice_get w.objects f) false) (list_any (holds_name w f) (root_names w)) h) [
              | inl h ↦ required w marks f (slice_get w.objects f) refl third.1 h
              | inr h ↦ named w marks f second.1 h
            ]
          ],
      λ f g held edge.
          let zero_add : 0 + edge.0 ≡ edge.0 = omega arith in
          served marks f g (object_in edge.1.origin) (request_of w edge.0 edge.1)
          (all-at (is_served marks) (requests_at w) edge.0 (request_from w edge.0 edge.1) first.1
          (asked-there w 0 w.symbols edge.0 edge.1 edge.2 ∙ ap (λ m. Some (request_from w m edge.1)) zero_add)) edge.3 edge.4 held,
    )

-- as many rounds as there are objects give the loaded objects, if they are closed
pub loaded-by_rounds : (w : Stage) → is_closed w (loaded_by_rounds w) ≡ true → IsLoaded w (loaded_by_rounds w)
loaded-by_rounds w e = record {
  each = rounds-length (length w.objects) (requests_at w) (root_marks w) ∙ each-length (λ f (o : ObjectFile). is_root w f) 0 w.objects;
  closed = closed-by w (loaded_by_rounds w) e;
  least = λ other closed. rounds-within w (length w.objects) (root_marks w) other closed (roots-within w other closed);
}

-- ---- how the batches end

-- an ending tells an end of which a property holds, unless rounds are missing
abbrev Tells : Ending → (End → Type 0) → Type 0
Tells (arrived l) P = P (Ok l)
Tells (stopped cause) P = P (Err cause)
Tells rounds_missing P = Unit {0}

-- what a property leads to is told too
tells-more : (e : Ending) (P Q : End → Type 0) → ((end : End) → P end → Q end) → Tells e P → Tells e Q
tells-more (arrived l) P Q leads told = leads (Ok l) told
tells-more (stopped cause) P Q leads told = leads (Err cause) told
tells-more rounds_missing P Q leads told = tt

-- by a cause, or else by what follows
tells-unless : (o : Option LinkError) (next : Selection → Ending) (l : Selection) (P : End → Type 0) → Tells (next l) P
    → Tells (unless_cause o next l) (λ end. MatchOption o (P end) (λ e. end ≡ Err e))
tells-unless None next l P told = told
tells-unless (Some cause) next l P told = refl

-- what follows what is selected, once these objects are loaded
abbrev AtGroups : Stage → (Selection → End → Type 0) → List Bool → End → Type 0
AtGroups w Next marks end = MatchOption (group_refusal (selection_of w marks)) (Next (selection_of w marks) end) (λ e. end ≡ Err e)

-- with loaded objects
tells-loaded : (w : Stage) (next : Selection → Ending) (Next : Selection → End → Type 0) → ((l : Selection) → Tells (next l) (Next l)) → (marks : List Bool)
    → (is : Bool) → is_closed w marks ≡ is → (is_closed w marks ≡ true → IsLoaded w marks)
    → Tells (ending_loaded w next marks) (λ end. (m : List Bool) × IsLoaded w m × AtGroups w Next m end)
tells-loaded w next Next told marks true is loaded =
    let l = selection_of w marks in
    rw is (tells-more (unless_cause (group_refusal l) next l) (AtGroups w Next marks) _ (λ end at. (marks, loaded is, at))
    (tells-unless (group_refusal l) next l (Next l) (told l)))
tells-loaded w next Next told marks false is loaded = rw is tt

-- with a batch
tells-batch : (o : Option LinkError) (w : Stage) (next : Selection → Ending) (Next : Selection → End → Type 0) → ((l : Selection) → Tells (next l) (Next l))
    → Tells (ending_unless o w next) (λ end. MatchOption o ((m : List Bool) × IsLoaded w m × AtGroups w Next m end) (λ e. end ≡ Err e))
tells-batch None w next Next told = tells-loaded w next Next told (loaded_by_rounds w) (is_closed w (loaded_by_rounds w)) refl (loaded-by_rounds w)
tells-batch (Some cause) w next Next told = refl

-- the ending of the batches tells their end
tells-end : (is_late : Bool) (before : Stage) (b : Batch) (later : List Batch) → Tells (ending_of is_late before b later) (EndsWith is_late before b later)
tells-end is_late before b [] = tells-batch (batch_refusal is_late before b) (with_batch before b) (λ l. arrived l) (λ l end. end ≡ Ok l) (λ l. refl)
tells-end is_late before b (c ∷ cs) =
    tells-batch (batch_refusal is_late before b) (with_batch before b) (λ l. ending_of true (ended l) c cs) (λ l. EndsWith true (ended l) c cs) (λ l. tells-end true (ended l) c cs)

-- ---- the outcome

-- the outcome by the late cause, if there is one
by-late : (w : World) (last : Selection) → text_refusal w ≡ None → BatchesEnd w (Ok last) → (late : Option LinkError) → late_refusal (resolved last) ≡ late
    → IsOutcome w (outcome_from (resolved last) late)
by-late w last starts ends None e =
    (linked_from (resolved last), record { starts = starts; last = last; ends = ends; goes_on = e; is = refl }, refl)
by-late w last starts ends (Some error) e = (error, rw starts (inr (last, ends, e)), refl)

-- the outcome by how the batches end
by-ending : (w : World) → text_refusal w ≡ None → (e : Ending) → Tells e (BatchesEnd w) → (o : Outcome) → outcome_at e ≡ o → (o ≡ too_few_rounds → ⊥) → IsOutcome w o
by-ending w starts (arrived l) ends o is fine = subst (λ p. IsOutcome w p) is (by-late w l starts ends (late_refusal (resolved l)) refl)
by-ending w starts (stopped error) ends o is fine = subst (λ p. IsOutcome w p) is (error, rw starts (inl ends), refl)
by-ending w starts rounds_missing ends o is fine = absurd (fine (sym is))

-- the outcome by whether a text is a cause
by-text : (w : World) (text : Option LinkError) → text_refusal w ≡ text → (o : Outcome) → outcome_unless w text ≡ o → (o ≡ too_few_rounds → ⊥) → IsOutcome w o
by-text w None starts o e fine = by-ending w starts (ending_of false (start_of w) w.first w.later) (tells-end false (start_of w) w.first w.later) o e fine
by-text w (Some error) starts o e fine = subst (λ p. IsOutcome w p) e (error, rw starts refl, refl)

-- what is computed of a world is what a link of it answers
pub outcome-is : (w : World) (o : Outcome) → outcome_of w ≡ o → (o ≡ too_few_rounds → ⊥) → IsOutcome w o
outcome-is w o e fine = by-text w (text_refusal w) refl o e fine

-- the outcome by its kind
told : (w : World) (o : Outcome) → outcome_of w ≡ o → is_told o ≡ true → IsOutcome w o
told w (report text) e fine = outcome-is w (report text) e (λ h. cc)
told w (refusal text) e fine = outcome-is w (refusal text) e (λ h. cc)
told w too_few_rounds e fine = absurd cc

-- a world whose outcome is computed is answered so
pub answered : (c : Case) → outcome_of c.world ≡ c.outcome → is_told c.outcome ≡ true → IsAnswered c
answered c e fine = told c.world c.outcome e fine

-- one more that holds
pub also : {A B : Type 0} → A → B → A × B
also a b = (a, b)

-- Edges and rows: a number is added to a row, and the edges are those of the rows.
use Rattle.std.proofs.Common.{◌≡◌, ◌≢◌, ◌↔◌, ℕ, zero, suc, ◌<◌, ◌⊎◌, List, [], ◌∷◌, ◌++◌, length, get_or, Some, Vec, Global, subst, sym, ◌∙◌, refl, ap, inl, inr, arith, Bool, Result, Ok, Err, IfOk}
use Rattle.std.specs.List.{All, Contains, slice_get, slice_set}
use Rattle.std.proofs.lemmas.Bool.{cases_eq}
use Rattle.std.proofs.lemmas.Option.{slice_get_within, get_or_from_slice_get}
use Rattle.std.proofs.lemmas.List.Elements.{Contains-push_cases, Contains-push, Contains-append_left}
use Rattle.link_closure.specs.Closure.{IsLeastClosed}
use Rattle.link_closure.specs.declared.Edge.{Edge}
use Rattle.link_closure.specs.Graph.{Graph, IsEdge, Leads, AreBelow}
use Rattle.link_closure.proofs.Turn.{either, some-inj}

-- what is set at a place stands there
pub set-same : {X : Type 0} (rows : List X) (i : ℕ) (row : X) → i < length rows → slice_get (slice_set rows i row) i ≡ Some row
set-same [] i row lt = absurd (omega arith)
set-same (x ∷ rows) zero row lt = refl
set-same (x ∷ rows) (suc i) row lt = set-same rows i row (omega arith)

-- what stands at the other places stays
pub set-other : {X : Type 0} (rows : List X) (i j : ℕ) (row : X) → j ≢ i → slice_get (slice_set rows i row) j ≡ slice_get rows j
set-other [] i j row differs = refl
set-other (x ∷ rows) zero zero row differs = absurd (differs refl)
set-other (x ∷ rows) zero (suc j) row differs = refl
set-other (x ∷ rows) (suc i) zero row differs = refl
set-other (x ∷ rows) (suc i) (suc j) row differs = set-other rows i j row (λ e. differs (ap suc e))

-- a row, before and after a number was added
pub record Pushed (rows : Graph) (from to : ℕ) (row row' : Vec ℕ Global) : Type 0 where
  pub inside : from < length rows
  pub at : slice_get rows from ≡ Some row
  pub items : row'.items ≡ row.items ++ to ∷ []

pub pushed-new : (rows : Graph) (from to : ℕ) (row row' : Vec ℕ Global) → Pushed rows from to row row' → Leads (slice_set rows from row') from to
pushed-new rows from to row row' p = (row', set-same rows from row' p.inside, rw p.items (Contains-push row.items to))

pub pushed-old : (rows : Graph) (from to : ℕ) (row row' : Vec ℕ Global) → Pushed rows from to row row' → (f g : ℕ) → Leads rows f g → Leads (slice_set rows from row') f g
pushed-old rows from to row row' p f g (old, at, has) =
    either (cases_eq f from)
    (λ same. let P : Vec ℕ Global → Type 0 = λ r. Contains r.items g in
    let here : Contains row.items g = subst P (some-inj (sym at ∙ ap (slice_get rows) same ∙ p.at)) has in
    (row', ap (slice_get (slice_set rows from row')) same ∙ set-same rows from row' p.inside, rw p.items (Contains-append_left row.items (to ∷ []) g here)))
    (λ differs. (old, set-other rows from f row' differs ∙ at, has))

pub pushed-only : (rows : Graph) (from to : ℕ) (row row' : Vec ℕ Global) → Pushed rows from to row row' → (f g : ℕ) → Leads (slice_set rows from row') f g
    → Leads rows f g ⊎ ((f ≡ from) × (g ≡ to))
pushed-only rows from to row row' p f g (new, at, has) =
    either (cases_eq f from)
    (λ same. let P : Vec ℕ Global → Type 0 = λ r. Contains r.items g in
    let here : Contains row'.items g = subst P (some-inj (sym at ∙ ap (slice_get (slice_set rows from row')) same ∙ set-same rows from row' p.inside)) has in
    either (Contains-push_cases row.items to g (rw p.items at here))
    (λ before. inl (row, ap (slice_get rows) same ∙ p.at, before))
    (λ is. inr (same, sym is)))
    (λ differs. inl (new, sym (set-other rows from f row' differs) ∙ at, has))

-- an edge at the end of a list
pub edge-at : (edges : List Edge) (e : Edge) (f g : ℕ) → f ≡ e.from → g ≡ e.to → Contains (edges ++ e ∷ []) (record { from = f; to = g })
edge-at edges e f g from to =
    subst (λ (n : ℕ). Contains (edges ++ e ∷ []) (record { from = n; to = g })) (sym from)
    (subst (λ (n : ℕ). Contains (edges ++ e ∷ []) (record { from = e.from; to = n })) (sym to) (Contains-push edges e))

nothing-in : (xs : List ℕ) (g : ℕ) → xs ≡ [] → Contains xs g → ⊥
nothing-in [] g none has = absurd (omega (arith, has.1))
nothing-in (x ∷ xs) g none has = absurd (cc)

-- rows that lead nowhere
pub empty-leads : (rows : Graph) (f g : ℕ) → All (λ (row : Vec ℕ Global). row.items ≡ []) rows → Leads rows f g → ⊥
empty-leads rows f g each (row, at, has) =
    let inside = slice_get_within rows f row at in
    let none : row.items ≡ [] = ap (λ (r : Vec ℕ Global). r.items) (sym (get_or_from_slice_get rows f row row at)) ∙ each f row inside in
    nothing-in row.items g none has

pub empty-below : (n : ℕ) (rows : Graph) → All (λ (row : Vec ℕ Global). row.items ≡ []) rows → AreBelow n rows
empty-below n rows each = λ k d lt.
    let none : (get_or rows k d).items ≡ [] = each k d lt in
    rw none (λ i e lt'. absurd (omega (arith, lt')))

-- the least set over the edges is that over the rows
pub least-over-edges : (Root : ℕ → Type 0) (graph : Graph) (edges : List Edge) (n : ℕ) (marks : List Bool)
    → ((f g : ℕ) → Leads graph f g ↔ IsEdge edges f g) → IsLeastClosed Root (Leads graph) n marks → IsLeastClosed Root (IsEdge edges) n marks
least-over-edges Root graph edges n marks same least = record {
  each = least.each;
  closed = (least.closed.0, λ f g held edge. least.closed.1 f g held ((same f g).1 edge));
  least = λ other closed f held. least.least other (closed.0, λ a b held' leads. closed.1 a b held' ((same a b).0 leads)) f held;
}

-- what holds of an answer also holds in another way
pub ok-along : {A E : Type 0} (r : Result A E) (P Q : A → Type 0) → ((x : A) → P x → Q x) → IfOk r P → IfOk r Q
ok-along (Ok x) P Q along held = along x held
ok-along (Err e) P Q along held = tt

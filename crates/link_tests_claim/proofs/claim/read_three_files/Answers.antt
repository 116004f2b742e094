use Rattle.std.proofs.Common.{◌≡◌, ◌≢◌, ⊎_elim, inr, zero, suc, ℕ, [], ◌∷◌, sym, refl, ap, ◌∙◌, subst, arith, rules}
use Rattle.std.specs.Prelude.{Contains}
use Rattle.link_closure.specs.declared.workload.Mark.{Mark}
use Rattle.link_closure.specs.declared.workload.Item.{Item}
use Rattle.link_closure.specs.declared.workload.Workload.{Workload}
use Rattle.link_claim.specs.declared.view.View.{View}
use Rattle.link_closure.specs.Workload.{HasItem, Requests, Marks, IsRoot}
use Rattle.link_claim.specs.Views.{MayMark}
use Rattle.link_claim.specs.Later.{HasRead, HasReadAll}
use Rattle.link_claim.specs.Examples.{mark, three_files, item0, item1, item2}
use Rattle.link_claim.proofs.Later.{after_mark}
use Rattle.link_closure.proofs.Joins.{contains_here, contains_later, contains_cases, contains_none}
use Rattle.link_tests_claim.proofs.claim.read_three_files.Goals as goal

-- the element of a list of one
only : {X : Type 0} (x y : X) → Contains (x ∷ []) y → x ≡ y
only x y has = ⊎_elim (λ e. e) (λ none. contains_none y none) (contains_cases x y [] has)

-- the items of the three files
module _ (v : View) (work : v.work ≡ three_files) (known : v.known ≡ 1 ∷ 0 ∷ []) (first : Contains v.known_items 0) (second : Contains v.known_items 1) (root : Contains v.marks (mark 1 1)) (own : Contains v.marks (mark 0 2)) where
  here : (i : ℕ) (it : Item) → HasItem v.work i it → HasItem three_files i it
  here i it has = subst (λ (w : Workload). HasItem w i it) work has

  knows_one : Contains v.known 1
  knows_one = subst (λ fs. Contains fs 1) (sym known) (contains_here 1 (0 ∷ []))

  knows_zero : Contains v.known 0
  knows_zero = subst (λ fs. Contains fs 0) (sym known) (contains_later 1 0 (0 ∷ []) (contains_here 0 []))

  -- an item that was begun, all of whose requests are known and whose marks are listed
  reads : (i : ℕ) (it : Item) → HasItem three_files i it → Contains v.known_items i → ((f : ℕ) → Contains it.requests f → Contains v.known f) → ((m : Mark) → Contains it.marks m → Contains v.marks m) → HasRead v i
  reads i it is begun requests marks = record {
    begun = begun;
    requests = λ f asked. requests f (subst (λ (t : Item). Contains t.requests f) (same (here i asked.0 asked.1)) asked.2);
    marks = λ m listed. marks m (subst (λ (t : Item). Contains t.marks m) (same (here i listed.0 listed.1)) listed.2);
  }
    where
      same : {other : Item} → HasItem three_files i other → other ≡ it
      same has = cc

  all_read : HasReadAll v
  all_read = record {
    roots = λ f has. subst (Contains v.known) (only 0 f (subst (λ (w : Workload). IsRoot w f) work has)) knows_zero;
    root_marks = λ m has. subst (Contains v.marks) (only (mark 1 1) m (subst (λ (w : Workload). Contains w.root_marks m) work has)) root;
    items = λ i it has at_file. each i it (here i it has) at_file;
  }
    where
      unknown : (f : ℕ) → f ≢ 1 → f ≢ 0 → ¬ Contains v.known f
      unknown f one none has = ⊎_elim (λ e. one (sym e)) (λ later. none (sym (only 0 f later))) (contains_cases 1 f (0 ∷ []) (subst (λ fs. Contains fs f) known has))

      each : (i : ℕ) (it : Item) → HasItem three_files i it → Contains v.known it.file → HasRead v i
      each zero it has at_file = reads 0 item0 refl first (λ f asked. subst (Contains v.known) (only 1 f asked) knows_one) (λ m listed. subst (Contains v.marks) (only (mark 0 2) m listed) own)
      each (suc zero) it has at_file = reads 1 item1 refl second (λ f asked. subst (Contains v.known) (only 0 f asked) knows_zero) (λ m listed. contains_none m listed)
      each (suc (suc zero)) it has at_file = let e : item2 ≡ it = cc in absurd (unknown 2 (λ e. absurd (omega arith)) (λ e. absurd (omega arith)) (subst (λ (t : Item). Contains v.known t.file) (sym e) at_file))
      each (suc (suc (suc i))) it has at_file = absurd (cc)

pub begin-requires-clause-may : goal.begin-requires-clause-may
begin-requires-clause-may c =
    let work = c.or_assign.ensures.later.same ∙ c.request.ensures.later.same ∙ ap (λ (v : View). v.work) c.requires.view in
    (item0, subst (λ (w : Workload). HasItem w 0 item0) (sym work) refl, c.or_assign.ensures.later.known 0 c.request.ensures.known)

pub request-requires-2-clause-asked : goal.request-requires-2-clause-asked
request-requires-2-clause-asked c =
    let work = c.begin.ensures.later.same ∙ c.or_assign.ensures.later.same ∙ c.request.ensures.later.same ∙ ap (λ (v : View). v.work) c.requires.view in
    inr (0, c.begin.ensures.known, subst (λ (w : Workload). Requests w 0 1) (sym work) (item0, refl, contains_here 1 []))

pub or_assign-requires-2-clause-may : goal.or_assign-requires-2-clause-may
or_assign-requires-2-clause-may c =
    let work = c.request-2.ensures.later.same ∙ c.begin.ensures.later.same ∙ c.or_assign.ensures.later.same ∙ c.request.ensures.later.same ∙ ap (λ (v : View). v.work) c.requires.view in
    let symbol = c.get_atomic-2.ensures.symbol ∙ c.from_usize-2.ensures in
    subst (λ x. MayMark c.request-2.new.self.view (mark x 2)) (sym symbol)
    (inr (0, c.request-2.ensures.later.items 0 c.begin.ensures.known, subst (λ (w : Workload). Marks w 0 (mark 0 2)) (sym work) (item0, refl, contains_here (mark 0 2) [])))

pub begin-requires-2-clause-may : goal.begin-requires-2-clause-may
begin-requires-2-clause-may c =
    let work = c.or_assign-2.ensures.later.same ∙ c.request-2.ensures.later.same ∙ c.begin.ensures.later.same ∙ c.or_assign.ensures.later.same ∙ c.request.ensures.later.same ∙ ap (λ (v : View). v.work) c.requires.view in
    (item1, subst (λ (w : Workload). HasItem w 1 item1) (sym work) refl, c.or_assign-2.ensures.later.known 1 c.request-2.ensures.known)

pub returns-clause-known : goal.returns-clause-known
returns-clause-known c =
    let first = (after_mark _ c.or_assign.ensures.view.0 c.request.new.self.view c.or_assign.new.seat.view c.or_assign.ensures.view.1).2 in
    let second = (after_mark _ c.or_assign-2.ensures.view.0 c.request-2.new.self.view c.or_assign-2.new.seat.view c.or_assign-2.ensures.view.1).2 in
    search (rules, first, second)

pub returns-clause-read : goal.returns-clause-read
returns-clause-read c =
    let work = c.begin-2.ensures.later.same ∙ c.or_assign-2.ensures.later.same ∙ c.request-2.ensures.later.same ∙ c.begin.ensures.later.same ∙ c.or_assign.ensures.later.same ∙ c.request.ensures.later.same ∙ ap (λ (v : View). v.work) c.requires.view in
    let first = c.begin-2.ensures.later.items 0 (c.or_assign-2.ensures.later.items 0 (c.request-2.ensures.later.items 0 c.begin.ensures.known)) in
    let v = c.begin-2.new.self.view in
    let root = subst (λ x. Contains v.marks (mark x 1)) (c.get_atomic.ensures.symbol ∙ c.from_usize.ensures)
    (c.begin-2.ensures.later.marks _ (c.or_assign-2.ensures.later.marks _ (c.request-2.ensures.later.marks _ (c.begin.ensures.later.marks _ c.or_assign.ensures.listed)))) in
    let own = subst (λ x. Contains v.marks (mark x 2)) (c.get_atomic-2.ensures.symbol ∙ c.from_usize-2.ensures) (c.begin-2.ensures.later.marks _ c.or_assign-2.ensures.listed) in
    all_read v work (returns-clause-known c) first c.begin-2.ensures.known root own

-- A table that notes of each member its group, as it grows.
use Rattle.std.proofs.Common.{◌≡◌, ◌<◌, ◌+◌, ◌==◌, ◌||◌, ℕ, Bool, true, false, if◌then◌else◌, List, [], ◌∷◌, ◌++◌, zero, suc, replicate, length, get_or, set, take, drop, Option, Some, None, refl, sym, ap, subst, inl, inr, ◌∙◌}
use Rattle.std.specs.Option.{option_or, is_some}
use Rattle.std.proofs.lemmas.Bool.{cases_eq, eq-eqb, eqb-true, ne_eqb, both_ways}
use Rattle.std.proofs.lemmas.List.{get_or-set_same, get_or-set_other, at_drop_more, drop_more}
use Rattle.std.proofs.lemmas.List.Folds.{list_any_more}
use Rattle.link_input.specs.declared.object.SectionGroup.{SectionGroup}
use Rattle.link_input.specs.Checks.{first_place}
use Rattle.link_rules.specs.Places.{contains}
use Rattle.link_rules.specs.Refusals.{first_repeated}
use Rattle.link_resolve_comdat.specs.Tables.{members_of, group_at, is_noted, first_again}

-- what a table says once one section is noted
pub group_at-set : (table : List (Option ℕ)) (x g n : ℕ) → x < length table → group_at (set table x (Some g)) n ≡ (if x == n then Some g else group_at table n)
group_at-set table x g n lt = elim (cases_eq x n) [
  | inl same ↦ subst (λ (m : ℕ). group_at (set table x (Some g)) m ≡ (if x == m then Some g else group_at table m)) same (rw (eq-eqb x x refl) (get_or-set_same table x (Some g) None lt))
  | inr other ↦ rw (ne_eqb x n other) (get_or-set_other table x n (Some g) None (λ e. other (sym e)))
]

-- of which sections it says something then
pub is_noted-set : (table : List (Option ℕ)) (x g : ℕ) → x < length table → is_noted (set table x (Some g)) ≡ (λ n. (x == n) || is_noted table n)
is_noted-set table x g lt = λ i n. each n i
  where
    by : (same : Bool) (o : Option ℕ) → is_some (if same then Some g else o) ≡ (same || is_some o)
    by true o = refl
    by false o = refl

    each : (n : ℕ) → is_noted (set table x (Some g)) n ≡ ((x == n) || is_noted table n)
    each n = ap is_some (group_at-set table x g n lt) ∙ by (x == n) (group_at table n)

-- a member more: what was noted at first, or the group
pub noted-more : (o here : Option ℕ) (g : ℕ) (before same : Bool) → here ≡ option_or o (if before then Some g else None) → (same ≡ true → here ≡ None)
    → (if same then Some g else here) ≡ option_or o (if before || same then Some g else None)
noted-more (Some k) here g before true is absent = let clash : Some k ≡ None = sym is ∙ absent refl in cc
noted-more None here g true true is absent = refl
noted-more None here g false true is absent = refl
noted-more o here g true false is absent = is
noted-more o here g false false is absent = is

-- a member that is not noted is the first one again only where a later one is
pub first_again-step : (before : ℕ → Bool) (x : ℕ) (xs : List ℕ) → before x ≡ false → first_again before (x ∷ xs) ≡ first_again (λ n. (x == n) || before n) xs
first_again-step before x xs new = rw new refl

-- a member that is noted is the first one again
pub first_again-here : (before : ℕ → Bool) (x : ℕ) (xs : List ℕ) → before x ≡ true → first_again before (x ∷ xs) ≡ Some x
first_again-here before x xs old = rw old refl

-- in order: the first one again among some, or behind them
pub first_again-append : (before : ℕ → Bool) (xs ys : List ℕ) → first_again before (xs ++ ys) ≡ option_or (first_again before xs) (first_again (λ n. contains n xs || before n) ys)
first_again-append before [] ys = refl
first_again-append before (x ∷ xs) ys = by (before x) refl (first_again-append (λ n. (x == n) || before n) xs ys)
  where
    turn : (a b c : Bool) → (b || (a || c)) ≡ ((a || b) || c)
    turn true true c = refl
    turn true false c = refl
    turn false true c = refl
    turn false false c = refl

    same : ◌≡◌ {A = ℕ → Bool} (λ n. contains n xs || ((x == n) || before n)) (λ n. contains n (x ∷ xs) || before n)
    same = λ i n. turn (x == n) (contains n xs) (before n) i

    by : (b : Bool) → before x ≡ b
        → first_again (λ n. (x == n) || before n) (xs ++ ys) ≡ option_or (first_again (λ n. (x == n) || before n) xs) (first_again (λ n. contains n xs || ((x == n) || before n)) ys)
        → (if b then Some x else first_again (λ n. (x == n) || before n) (xs ++ ys))
        ≡ option_or (if b then Some x else first_again (λ n. (x == n) || before n) xs) (first_again (λ n. contains n (x ∷ xs) || before n) ys)
    by true e rest = refl
    by false e rest = rest ∙ ap (λ (f : ℕ → Bool). option_or (first_again (λ n. (x == n) || before n) xs) (first_again f ys)) same

-- the test may be the list of those that stood before
pub first_repeated-again : (before xs : List ℕ) → first_repeated before xs ≡ first_again (λ n. contains n before) xs
first_repeated-again before [] = refl
first_repeated-again before (x ∷ xs) = ap (λ o. if contains x before then Some x else o) (first_repeated-again (x ∷ before) xs)

-- where no number comes again, one that stood before comes nowhere
pub not-again : (before : ℕ → Bool) (xs : List ℕ) (n : ℕ) → first_again before xs ≡ None → before n ≡ true → contains n xs ≡ false
not-again before [] n none was = refl
not-again before (x ∷ xs) n none was = by (before x) refl none (not-again (λ m. (x == m) || before m) xs n)
  where
    apart : before x ≡ false → (x == n) ≡ false
    apart new = elim (cases_eq x n) [ inl same ↦ absurd (both_ways (before x) new (ap before same ∙ was)) | inr other ↦ ne_eqb x n other ]

    by : (b : Bool) → before x ≡ b → (if b then Some x else first_again (λ m. (x == m) || before m) xs) ≡ None
        → (first_again (λ m. (x == m) || before m) xs ≡ None → ((x == n) || before n) ≡ true → contains n xs ≡ false) → contains n (x ∷ xs) ≡ false
    by true e h rest = cc
    by false e h rest =
        let behind : ((x == n) || before n) ≡ true = rw (was, apart e) refl in
        rw (apart e) (rest h behind)

none_from : (o : Option ℕ) → is_some o ≡ false → o ≡ None
none_from None e = refl
none_from (Some k) e = cc

-- a turn over members: what is noted
pub noted-step : (first table : List (Option ℕ)) (members : List ℕ) (g i n : ℕ) → i < length members → get_or members i 0 < length table → is_noted table (get_or members i 0) ≡ false
    → group_at table n ≡ option_or (group_at first n) (if contains n (take i members) then Some g else None)
    → group_at (set table (get_or members i 0) (Some g)) n ≡ option_or (group_at first n) (if contains n (take (i + 1) members) then Some g else None)
noted-step first table members g i n lt inside new before =
    let x = get_or members i 0 in
    let more = list_any_more (λ m. m == n) members i 0 lt in
    let absent : (x == n) ≡ true → group_at table n ≡ None =
    λ same. subst (λ (m : ℕ). group_at table m ≡ None) (eqb-true x n same) (none_from (group_at table x) new) in
    group_at-set table x g n inside ∙ noted-more (group_at first n) (group_at table n) g (contains n (take i members)) (x == n) before absent
    ∙ ap (λ (b : Bool). option_or (group_at first n) (if b then Some g else None)) (sym more)

-- a turn over members: what is still to come
pub again-step : (table : List (Option ℕ)) (members : List ℕ) (g i : ℕ) → i < length members → get_or members i 0 < length table → is_noted table (get_or members i 0) ≡ false
    → first_again (is_noted table) (drop i members) ≡ first_again (is_noted (set table (get_or members i 0) (Some g))) (drop (i + 1) members)
again-step table members g i lt inside new =
    at_drop_more (first_again (is_noted table)) members i 0 lt ∙ first_again-step (is_noted table) (get_or members i 0) (drop (i + 1) members) new
    ∙ ap (λ (f : ℕ → Bool). first_again f (drop (i + 1) members)) (sym (is_noted-set table (get_or members i 0) g inside))

-- the members of the groups from one on
members-drop : (groups : List SectionGroup) (i : ℕ) (g : SectionGroup) → i < length groups → g ≡ get_or groups i g → members_of (drop i groups) ≡ g.members ++ members_of (drop (i + 1) groups)
members-drop groups i g lt is = ap members_of (drop_more groups i g lt) ∙ ap (λ (x : SectionGroup). x.members ++ members_of (drop (i + 1) groups)) (sym is)

-- a turn over groups: the first member that comes again is one of this group
pub again-in : (before : ℕ → Bool) (groups : List SectionGroup) (i : ℕ) (g : SectionGroup) (section : ℕ) → i < length groups → g ≡ get_or groups i g → Some section ≡ first_again before g.members
    → Some section ≡ first_again before (members_of (drop i groups))
again-in before groups i g section lt is found =
    rw (members-drop groups i g lt is, first_again-append before g.members (members_of (drop (i + 1) groups)), ← found) refl

-- which sections a table says something of, once it notes a group's members
noted_by : (old new : List (Option ℕ)) (members : List ℕ) (i : ℕ) → ((n : ℕ) → group_at new n ≡ option_or (group_at old n) (if contains n members then Some i else None))
    → ◌≡◌ {A = ℕ → Bool} (λ n. contains n members || is_noted old n) (is_noted new)
noted_by old new members i notes = λ j n. each n j
  where
    by : (o : Option ℕ) (b : Bool) → (b || is_some o) ≡ is_some (option_or o (if b then Some i else None))
    by None true = refl
    by None false = refl
    by (Some k) true = refl
    by (Some k) false = refl

    each : (n : ℕ) → (contains n members || is_noted old n) ≡ is_noted new n
    each n = by (group_at old n) (contains n members) ∙ ap is_some (sym (notes n))

-- a turn over groups: none of this group comes again
pub again-behind : (old new : List (Option ℕ)) (groups : List SectionGroup) (i : ℕ) (g : SectionGroup) → i < length groups → g ≡ get_or groups i g → None ≡ first_again (is_noted old) g.members
    → ((n : ℕ) → group_at new n ≡ option_or (group_at old n) (if contains n g.members then Some i else None))
    → first_again (is_noted old) (members_of (drop i groups)) ≡ first_again (is_noted new) (members_of (drop (i + 1) groups))
again-behind old new groups i g lt is none notes =
    ap (first_again (is_noted old)) (members-drop groups i g lt is) ∙ first_again-append (is_noted old) g.members (members_of (drop (i + 1) groups))
    ∙ ap (λ (o : Option ℕ). option_or o (first_again (λ n. contains n g.members || is_noted old n) (members_of (drop (i + 1) groups)))) (sym none)
    ∙ ap (λ (f : ℕ → Bool). first_again f (members_of (drop (i + 1) groups))) (noted_by old new g.members i notes)

-- a turn over groups: which group each section has
pub groups-behind : (old new : List (Option ℕ)) (groups : List SectionGroup) (i n : ℕ) (g : SectionGroup) → i < length groups → g ≡ get_or groups i g
    → group_at new n ≡ option_or (group_at old n) (if contains n g.members then Some i else None)
    → option_or (group_at new n) (first_place (λ j x. contains n x.members) (i + 1) (drop (i + 1) groups)) ≡ option_or (group_at old n) (first_place (λ j x. contains n x.members) i (drop i groups))
groups-behind old new groups i n g lt is notes =
    ap (λ (o : Option ℕ). option_or o (first_place (λ j x. contains n x.members) (i + 1) (drop (i + 1) groups))) notes
    ∙ by (group_at old n) (contains n g.members) (first_place (λ j x. contains n x.members) (i + 1) (drop (i + 1) groups))
    ∙ ap (λ (x : SectionGroup). option_or (group_at old n) (if contains n x.members then Some i else first_place (λ j x. contains n x.members) (i + 1) (drop (i + 1) groups))) is
    ∙ ap (λ (o : Option ℕ). option_or (group_at old n) o) (sym (at_drop_more (first_place (λ j x. contains n x.members) i) groups i g lt))
  where
    by : (o : Option ℕ) (b : Bool) (later : Option ℕ) → option_or (option_or o (if b then Some i else None)) later ≡ option_or o (if b then Some i else later)
    by None true later = refl
    by None false later = refl
    by (Some k) b later = refl

-- an empty table notes nothing
pub group_at-empty : (count n : ℕ) → group_at (replicate count None) n ≡ None
group_at-empty zero n = refl
group_at-empty (suc count) zero = refl
group_at-empty (suc count) (suc n) = group_at-empty count n

-- so in it the first member that comes again is the first repeated one
pub again-empty : (count : ℕ) (members : List ℕ) → first_again (is_noted (replicate count None)) members ≡ first_repeated [] members
again-empty count members =
    ap (λ (f : ℕ → Bool). first_again f members) (λ i n. ap is_some (group_at-empty count n) i) ∙ sym (first_repeated-again [] members)

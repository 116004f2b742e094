-- A table that marks sections, as it grows.
use Rattle.std.proofs.Common.{◌≡◌, ◌<◌, ◌==◌, ◌||◌, ◌&&◌, ◌+◌, ℕ, Bool, true, false, not, List, [], ◌∷◌, zero, suc, replicate, length, get_or, set, drop, refl, sym, ap, subst, inl, inr, ◌∙◌, All, arith, length-append}
use Rattle.std.proofs.lemmas.Bool.{cases_eq, eq-eqb, ne_eqb, or_right}
use Rattle.std.specs.List.{list_any, list_all, zip}
use Rattle.std.proofs.lemmas.List.{get_or-set_same, get_or-set_other, get_or_append_left, get_or_at, at_drop_more, drop_more}
use Rattle.std.proofs.lemmas.List.Elements.{All-push}
use Rattle.std.proofs.lemmas.List.Folds.{list_any-append}
use Rattle.link_closure.specs.Closure.{is_marked}
use Rattle.link_input.specs.declared.object.SectionGroup.{SectionGroup}
use Rattle.link_rules.specs.Places.{contains}
use Rattle.link_resolve_comdat.specs.ObjectGroups.{sections_of}
use Rattle.link_resolve_comdat.specs.Tables.{AreInside}
use Rattle.link_resolve_comdat.proofs.Truth.{or-assoc, or-false}

-- one section more is marked
pub is_marked-set : (marks : List Bool) (x n : ℕ) → x < length marks → is_marked (set marks x true) n ≡ (is_marked marks n || (x == n))
is_marked-set marks x n lt = elim (cases_eq x n) [
  | inl same ↦ subst (λ (m : ℕ). is_marked (set marks x true) m ≡ (is_marked marks m || (x == m))) same (rw (eq-eqb x x refl) (get_or-set_same marks x true false lt ∙ sym (or_right (is_marked marks x) true refl)))
  | inr other ↦ rw (ne_eqb x n other) (get_or-set_other marks x n true false (λ e. other (sym e)) ∙ sym (or-false (is_marked marks n)))
]

-- the members of a group that is inside are inside
pub inside-members : (sections : ℕ) (g : SectionGroup) → All (λ section. section < sections) (sections_of g) → All (λ section. section < sections) g.members
inside-members sections g inside = λ k d lt.
    rw get_or_append_left at (inside k d (omega (arith, length-append g.members (g.index ∷ []))))

-- and so is its header
pub inside-header : (sections : ℕ) (g : SectionGroup) → All (λ section. section < sections) (sections_of g) → g.index < sections
inside-header sections g inside =
    let P : ℕ → Type 0 = λ n. n < sections in
    subst P (get_or_at g.members g.index [] 0 (length g.members) refl) (inside (length g.members) 0 (omega (arith, length-append g.members (g.index ∷ []))))

-- the members of one of some groups that are inside
pub inside-at : (sections room : ℕ) (groups : List SectionGroup) (i : ℕ) (g : SectionGroup) → AreInside sections groups → i < length groups → g ≡ get_or groups i g → room ≡ sections
    → All (λ section. section < room) (sections_of g)
inside-at sections room groups i g inside lt is same =
    let P : SectionGroup → Type 0 = λ x. All (λ section. section < room) (sections_of x) in
    subst P (sym is) (let Q : ℕ → Type 0 = λ n. All (λ section. section < n) (sections_of (get_or groups i g)) in subst Q (sym same) (inside i g lt))

-- a turn over members
pub marked-step : (first marks : List Bool) (members : List ℕ) (i n : ℕ) → i < length members → get_or members i 0 < length marks
    → (is_marked marks n || contains n (drop i members)) ≡ (is_marked first n || contains n members)
    → (is_marked (set marks (get_or members i 0) true) n || contains n (drop (i + 1) members)) ≡ (is_marked first n || contains n members)
marked-step first marks members i n lt inside before =
    ap (λ (b : Bool). b || contains n (drop (i + 1) members)) (is_marked-set marks (get_or members i 0) n inside)
    ∙ or-assoc (is_marked marks n) (get_or members i 0 == n) (contains n (drop (i + 1) members))
    ∙ ap (λ (b : Bool). is_marked marks n || b) (sym (at_drop_more (contains n) members i 0 lt)) ∙ before

-- the members are marked, and then the header
pub marked-header : (first marks : List Bool) (g : SectionGroup) (n : ℕ) → g.index < length marks → is_marked marks n ≡ (is_marked first n || contains n g.members)
    → is_marked (set marks g.index true) n ≡ (is_marked first n || contains n (sections_of g))
marked-header first marks g n inside before =
    is_marked-set marks g.index n inside ∙ ap (λ (b : Bool). b || (g.index == n)) before ∙ or-assoc (is_marked first n) (contains n g.members) (g.index == n)
    ∙ ap (λ (b : Bool). is_marked first n || b) (ap (λ (b : Bool). contains n g.members || b) (sym (or-false (g.index == n))) ∙ sym (list_any-append (λ m. m == n) g.members (g.index ∷ [])))

-- a group that isn't kept has the section
abbrev pub is_lost : ℕ → List SectionGroup → List Bool → Bool
is_lost n groups kept = list_any (λ g. not g.1 && contains n (sections_of g.0)) (zip groups kept)

-- the groups from one on that aren't kept
pub lost-drop : (n : ℕ) (groups : List SectionGroup) (kept : List Bool) (i : ℕ) (g : SectionGroup) (k : Bool) → i < length groups → i < length kept → g ≡ get_or groups i g → k ≡ get_or kept i k
    → is_lost n (drop i groups) (drop i kept) ≡ ((not k && contains n (sections_of g)) || is_lost n (drop (i + 1) groups) (drop (i + 1) kept))
lost-drop n groups kept i g k lt lt_kept is is_kept =
    rw (drop_more groups i g lt, drop_more kept i k lt_kept, ← is, ← is_kept) refl

-- where all are kept, none is lost
pub lost-none : (n : ℕ) (groups : List SectionGroup) (kept : List Bool) → list_all (λ k. k) kept ≡ true → is_lost n groups kept ≡ false
lost-none n [] kept all = refl
lost-none n (g ∷ gs) [] all = refl
lost-none n (g ∷ gs) (true ∷ ks) all = lost-none n gs ks all
lost-none n (g ∷ gs) (false ∷ ks) all = cc

-- nothing is marked in a table that is empty or new
pub marked-none : (count n : ℕ) → is_marked (replicate count false) n ≡ false
marked-none zero n = refl
marked-none (suc count) zero = refl
marked-none (suc count) (suc n) = marked-none count n

-- a group is inside where its header and its members are
pub all-inside : (sections : ℕ) (g : SectionGroup) → g.index < sections → All (λ section. section < sections) g.members → All (λ section. section < sections) (sections_of g)
all-inside sections g header members = All-push (λ section. section < sections) g.members g.index members header

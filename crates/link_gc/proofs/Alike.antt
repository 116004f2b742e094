-- The sets that are closed under the edges that are gathered of a link are those that are closed under what its sections keep.
use Rattle.std.proofs.Common.{◌≡◌, ◌∙◌, ◌+◌, ℕ, Bool, true, false, List, [], ◌∷◌, Option, None, Some, Contains, IsTrue, if◌then◌else◌, ap, inl, inr, refl, sym, subst}
use Rattle.std.specs.Prelude.{◌↔◌, option_and_then, option_map, slice_get}
use Rattle.link_closure.specs.Closure.{IsClosed, IsLeastClosed}
use Rattle.link_closure.specs.Graph.{IsEdge, IsMarked}
use Rattle.link_closure.specs.declared.Edge.{Edge}
use Rattle.link_closure.proofs.Least.{least_of_alike, least_of_same}
use Rattle.link_input.specs.declared.object.SectionGroup.{SectionGroup}
use Rattle.link_input.specs.ObjectFile.{ObjectFile}
use Rattle.link_rules.specs.Places.{first_of}
use Rattle.link_rules.specs.Selection.{Selection}
use Rattle.link_rules.specs.Undefined.{resolved}
use Rattle.link_rules.specs.World.{first_symbol_of}
use Rattle.link_rules.proofs.AllRoots.{given-from, given-in}
use Rattle.link_rules.proofs.Settled.{here, here_or_there, none_some, some_same, there}
use Rattle.link_gc_sections.specs.LiveSections.{AreLive, IsRootNumber, KeepsNumber, SectionPlace, home, is_node, section_count, section_number}
use Rattle.link_gc.specs.Gathering.{IsGatheredEdge, kept_members}
use Rattle.link_gc.specs.Numbering.{home_number, node_number}
use Rattle.link_gc.proofs.Hubs.{hub-whole}

-- ---- numbers

-- a section that has a number may be kept, and that is its number
pub node-of : (l : Selection) (p : SectionPlace) (n : ℕ) → node_number l p ≡ Some n → IsTrue (is_node l p) × (section_number l.stage p ≡ n)
node-of l p n is = by (is_node l p) is
  where
    by : (b : Bool) → (if b then Some (section_number l.stage p) else None) ≡ Some n → IsTrue b × (section_number l.stage p ≡ n)
    by true same = (refl, some_same (section_number l.stage p) n same)
    by false none = absurd (none_some n none)

-- a section that may be kept has its number
pub number-of : (l : Selection) (p : SectionPlace) (n : ℕ) → IsTrue (is_node l p) → section_number l.stage p ≡ n → node_number l p ≡ Some n
number-of l p n node is = ap (λ (b : Bool). if b then Some (section_number l.stage p) else None) node ∙ ap (λ (k : ℕ). Some k) is

-- a home is a section that may be kept
home-node : (l : Selection) (o : Option SectionPlace) (q : SectionPlace) → option_and_then (λ p. if is_node l p then Some p else None) o ≡ Some q → IsTrue (is_node l q)
home-node l None q is = absurd (none_some q is)
home-node l (Some p) q is = by (is_node l p) refl is
  where
    by : (b : Bool) → is_node l p ≡ b → (if b then Some p else None) ≡ Some q → IsTrue (is_node l q)
    by true node same = subst (λ (x : SectionPlace). IsTrue (is_node l x)) (some_same p q same) node
    by false node none = absurd (none_some q none)

-- where the home of a symbol has a number, it is a section that may be kept, and that is its number
pub home-of : (l : Selection) (s m : ℕ) → home_number l s ≡ Some m
    → (q : SectionPlace) × (home (resolved l) s ≡ Some q) × (section_number l.stage q ≡ m) × IsTrue (is_node l q)
home-of l s m is = by (home (resolved l) s) refl is
  where
    by : (o : Option SectionPlace) → home (resolved l) s ≡ o → option_map (section_number l.stage) o ≡ Some m
        → (q : SectionPlace) × (home (resolved l) s ≡ Some q) × (section_number l.stage q ≡ m) × IsTrue (is_node l q)
    by None at none = absurd (none_some m none)
    by (Some q) at same = (q, at, some_same (section_number l.stage q) m same, home-node l _ q at)

-- ---- what is gathered is kept

-- the first of a list is in it
first-in : {X : Type 0} (xs : List X) (x : X) → first_of xs ≡ Some x → Contains xs x
first-in [] x is = absurd (none_some x is)
first-in {X} (y ∷ ys) x is = subst (λ (z : X). Contains (y ∷ ys) z) (some_same y x is) (here y ys)

-- a member of a group keeps each member and the header
brings : (l : Selection) (f : ℕ) (o : ObjectFile) (group : SectionGroup) (a b n m : ℕ) → slice_get l.stage.objects f ≡ Some o → Contains o.object.groups group
    → Contains group.members a → node_number l (f, a) ≡ Some n → Contains (group.index ∷ group.members) b → node_number l (f, b) ≡ Some m → KeepsNumber (resolved l) n m
brings l f o group a b n m at held member from within to =
    let first = node-of l (f, a) n from in
    let second = node-of l (f, b) m to in
    ((f, a), (f, b), first.1, second.1, (first.0, second.0, inr (o, group, at, held, member, refl, within)))

-- an edge that is gathered leads to what is kept
pub keeps-gathered : (l : Selection) (n m : ℕ) → IsGatheredEdge l n m → KeepsNumber (resolved l) n m
keeps-gathered l n m (f, o, at, inl (reference, held, from, to)) =
    let first = node-of l (f, reference.from) n from in
    let second = home-of l (first_symbol_of l.stage f + reference.to) m to in
    ((f, reference.from), second.0, first.1, second.2, (first.0, second.3, inl (o, reference, at, held, refl, second.1)))
keeps-gathered l n m (f, o, at, inr (group, held, (hub, first, inl (within, is)))) =
    let a = given-from (λ member. node_number l (f, member)) group.members n within in
    let b = given-from (λ member. node_number l (f, member)) group.members hub (first-in (kept_members l f group) hub first) in
    subst (λ (k : ℕ). KeepsNumber (resolved l) n k) (sym is) (brings l f o group a.0 b.0 n hub at held a.1 a.2 (there group.index group.members b.0 b.1) b.2)
keeps-gathered l n m (f, o, at, inr (group, held, (hub, first, inr (inl (is, within))))) =
    let a = given-from (λ member. node_number l (f, member)) group.members hub (first-in (kept_members l f group) hub first) in
    let b = given-from (λ member. node_number l (f, member)) group.members m within in
    subst (λ (k : ℕ). KeepsNumber (resolved l) k m) (sym is) (brings l f o group a.0 b.0 hub m at held a.1 a.2 (there group.index group.members b.0 b.1) b.2)
keeps-gathered l n m (f, o, at, inr (group, held, (hub, first, inr (inr (is, header))))) =
    let a = given-from (λ member. node_number l (f, member)) group.members hub (first-in (kept_members l f group) hub first) in
    subst (λ (k : ℕ). KeepsNumber (resolved l) k m) (sym is) (brings l f o group a.0 group.index hub m at held a.1 a.2 (here group.index group.members) header)

-- ---- what is kept is reached by edges

-- a set that is closed under the edges has all that is kept
follows : (l : Selection) (holds : ℕ → Bool) → ((n m : ℕ) → IsTrue (holds n) → IsGatheredEdge l n m → IsTrue (holds m))
    → (n m : ℕ) → IsTrue (holds n) → KeepsNumber (resolved l) n m → IsTrue (holds m)
follows l holds closed n m held (p, q, from, to, (node, node_too, inl (o, reference, at, within, own, is_home))) =
    closed n m held (
      p.0,
      o,
      at,
      inl (
        reference,
        within,
        ap (λ (k : ℕ). node_number l (p.0, k)) own ∙ number-of l p n node from,
        ap (option_map (section_number l.stage)) is_home ∙ ap (λ (k : ℕ). Some k) to,
      ),
    )
follows l holds closed n m held (p, q, from, to, (node, node_too, inr (o, group, at, is_group, member, same, within))) =
    let start = number-of l p n node from in
    let end : node_number l (p.0, q.1) ≡ Some m = ap (λ (f : ℕ). node_number l (f, q.1)) (sym same) ∙ number-of l q m node_too to in
    hub-whole (kept_members l p.0 group) (node_number l (p.0, group.index)) holds (λ a b has edge. closed a b has (p.0, o, at, inr (group, is_group, edge))) n m held
    (given-in (λ k. node_number l (p.0, k)) group.members p.1 n member start)
    (elim (here_or_there group.index group.members q.1 within) [
      | inl is ↦ inr (ap (λ (k : ℕ). node_number l (p.0, k)) is ∙ end)
      | inr deeper ↦ inl (given-in (λ k. node_number l (p.0, k)) group.members q.1 m deeper end)
    ])

-- closed sets are the same
alike : (l : Selection) (holds : ℕ → Bool) → IsClosed (IsRootNumber (resolved l)) (IsGatheredEdge l) holds ↔ IsClosed (IsRootNumber (resolved l)) (KeepsNumber (resolved l)) holds
alike l holds =
    (λ closed. (closed.0, follows l holds closed.1), λ closed. (closed.0, λ n m has edge. closed.1 n m has (keeps-gathered l n m edge)))

-- what is marked from the roots by the edges that are gathered is live
pub are-live : (l : Selection) (roots : List Bool) (edges : List Edge) (count : ℕ) (marks : List Bool) → count ≡ section_count l.stage
    → ((n : ℕ) → IsMarked roots n ↔ IsRootNumber (resolved l) n) → ((n m : ℕ) → IsEdge edges n m ↔ IsGatheredEdge l n m)
    → IsLeastClosed (IsMarked roots) (IsEdge edges) count marks → AreLive (resolved l) marks
are-live l roots edges count marks is rooted led least =
    let gathered = least_of_same (IsMarked roots) (IsRootNumber (resolved l)) (IsEdge edges) (IsGatheredEdge l) count marks rooted led least in
    let kept = least_of_alike (IsRootNumber (resolved l)) (IsRootNumber (resolved l)) (IsGatheredEdge l) (KeepsNumber (resolved l)) count marks (alike l) gathered in
    subst (λ (k : ℕ). IsLeastClosed (IsRootNumber (resolved l)) (KeepsNumber (resolved l)) k marks) is kept

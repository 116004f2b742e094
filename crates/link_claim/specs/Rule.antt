-- The rule of the shared words: what holds of the words and of all views between any two steps.
use Rattle.std.specs.Prelude.{◌≡◌, ℕ, ◌+◌, ◌-◌, ◌<◌, ◌≤◌, ◌==◌, if◌then◌else◌, IsTrue, IsFalse, ◌⊎◌, List, [], ◌∷◌, map, length, bit_or, slice_index, Contains, IsPermutation}
use Rattle.std.specs.Int.{bit_at}
use Rattle.std.specs.List.{filter, slice_index_or}
use mathlib.Core.Option.{some}
use lib.ListN.{get_elem?}
use Rattle.atomic_table.specs.Table.{State}
use Rattle.link_closure.specs.declared.workload.Mark.{Mark}
use Rattle.link_closure.specs.declared.workload.Item.{Item}
use Rattle.link_closure.specs.declared.workload.Workload.{Workload}
use Rattle.link_claim.specs.declared.state.Core.{Core}
use Rattle.link_claim.specs.declared.state.Claimed.{Claimed}
use Rattle.link_claim.specs.declared.state.Begun.{Begun}
use Rattle.link_claim.specs.declared.state.Marked.{Marked}
use Rattle.link_claim.specs.declared.view.View.{View}
use Rattle.link_claim.specs.declared.view.Written.{Written}
use Rattle.link_closure.specs.Workload.{IsSound, HasItem, Marks, IsInEachClosed, IsWithin, bits_for}
use Rattle.link_claim.specs.Workload.{begin_base, flag_base, word_count}
use Rattle.link_claim.specs.Steps.{IsReached, is_claimed, is_begun}
use Rattle.link_claim.specs.Views.{first_view, spent_view}

-- the words and all views
abbrev pub Sharing : Type 0
Sharing = State (Unit {0}) View

-- how often k stands in the list
abbrev pub times : ℕ → List ℕ → ℕ
times k [] = 0
times k (x ∷ xs) = (if x == k then 1 else 0) + times k xs

-- the sum over all views
abbrev pub total : (View → ℕ) → List View → ℕ
total f [] = 0
total f (v ∷ vs) = f v + total f vs

-- the bits that all views list for the symbol x
abbrev pub all_bits : ℕ → List View → ℕ
all_bits x [] = 0
all_bits x (v ∷ vs) = bit_or (bits_for x v.marks) (all_bits x vs)

-- how often the bit k of the symbol x was written where it was missing
abbrev pub times_new : (x k : ℕ) → List Written → ℕ
times_new x k [] = 0
times_new x k (j ∷ js) = (if j.mark.symbol == x then bit_at j.mark.bits k - bit_at j.found k else 0) + times_new x k js

-- each of these words is 0 or 1, and how often its number stands in the lists of all views
abbrev pub Counts : (base count : ℕ) → (View → List ℕ) → List ℕ → List View → Type 0
Counts base count list words views =
    (k : ℕ) → k < count
    → (slice_index words (base + k) ≡ total (λ v. times k (list v)) views) × (slice_index words (base + k) ≤ 1)

-- what holds of one view
pub record Fits (w : Workload) (words : List ℕ) (v : View) : Type 0 where
  -- it names the work, unless it was joined to another: then it knows and lists nothing
  pub same : IsTrue v.live → v.work ≡ w
  pub spent : IsFalse v.live → v ≡ spent_view
  -- a known file has word 1, and is in every closed set
  pub known : (f : ℕ) → Contains v.known f → (f < w.files) × (slice_index words (1 + f) ≡ 1) × IsInEachClosed w f
  pub claims : (f : ℕ) → Contains v.claims f → Contains v.known f
  -- a known item has word 1, and its file is known
  pub items : (i : ℕ) → Contains v.known_items i
      → (slice_index words (begin_base w + i) ≡ 1) × ((it : Item) × HasItem w i it × Contains v.known it.file)
  pub begins : (i : ℕ) → Contains v.begins i → Contains v.known_items i
  -- a listed mark is a root mark or one of a known item
  pub marks : (m : Mark) → Contains v.marks m
      → Contains w.root_marks m ⊎ ((i : ℕ) × Contains v.known_items i × Marks w i m)
  -- a missed mark is not there from the start, and a written one is listed
  pub missed : (m : Mark) → Contains v.missed m → ¬ IsWithin m.bits (slice_index w.opening m.symbol)
  pub writes : (j : Written) → Contains v.writes j → Contains v.marks j.mark

-- the words have the bits and the flags of the core's state
pub record AreWordsOf (w : Workload) (core : Core) (words : List ℕ) : Type 0 where
  pub claimed : (f : ℕ) → f < w.files → slice_index words (1 + f) ≡ (if is_claimed core f then 1 else 0)
  pub begun : (i : ℕ) → i < length w.items → slice_index words (begin_base w + i) ≡ (if is_begun core i then 1 else 0)
  pub flags : (x : ℕ) → x < length w.opening → slice_index words (flag_base w + x) ≡ slice_index core.flags x

-- the seat of this number; one that is yet to come is live, and lists nothing
abbrev pub seat_at : Workload → List View → ℕ → View
seat_at w views id = slice_index_or views id (first_view w)

-- what these events of the core name, of the workers whose holder is the seat
abbrev pub held : {E X : Type 0} → (E → ℕ) → (E → X) → (ℕ → ℕ) → ℕ → List E → List X
held worker named holder id events = map named (filter (λ e. holder (worker e) == id) events)

-- each worker of the core is a seat. What a worker listed is held by one seat, a live worker's by that very seat, and
-- each view lists just what its seat holds, in some order
pub record AreListsOf (w : Workload) (core : Core) (views : List View) : Type 0 where
  pub holder : ℕ → ℕ
  pub own : (id : ℕ) → IsTrue (seat_at w views id).live → holder id ≡ id
  pub claims : (id : ℕ)
      → IsPermutation (held (λ (k : Claimed). k.worker) (λ k. k.file) holder id core.claims) (seat_at w views id).claims
  pub begins : (id : ℕ)
      → IsPermutation (held (λ (k : Begun). k.worker) (λ k. k.item) holder id core.begins) (seat_at w views id).begins
  pub marks : (id : ℕ)
      → IsPermutation (held (λ (k : Marked). k.worker) (λ k. k.mark) holder id core.marks) (seat_at w views id).marks

-- the words and the lists are those of a state that some legal steps of the core lead to
pub record IsRun (w : Workload) (words : List ℕ) (views : List View) : Type 0 where
  pub core : Core
  pub reached : IsReached w core
  pub words_of : AreWordsOf w core words
  pub lists_of : AreListsOf w core views

-- what holds between any two steps
pub record Holds (w : Workload) (s : Sharing) : Type 0 where
  pub sound : IsSound w
  pub wide : length s.words ≡ word_count w
  pub spare : slice_index s.words 0 ≡ 0
  pub views : (id : ℕ) (v : View) → get_elem? s.views id ≡ some v → Fits w s.words v
  pub claims : Counts 1 w.files (λ v. v.claims) s.words s.views
  pub begins : Counts (begin_base w) (length w.items) (λ v. v.begins) s.words s.views
  -- a flag word is its opening word, joined with all listed bits
  pub flags : (x : ℕ) → x < length w.opening
      → slice_index s.words (flag_base w + x) ≡ bit_or (slice_index w.opening x) (all_bits x s.views)
  -- a bit of it is an opening bit, or one that just one write of all views found missing, or not set
  pub writes : (x k : ℕ) → x < length w.opening
      → bit_at (slice_index s.words (flag_base w + x)) k
      ≡ bit_at (slice_index w.opening x) k + total (λ v. times_new x k v.writes) s.views
  pub ran : IsRun w s.words s.views

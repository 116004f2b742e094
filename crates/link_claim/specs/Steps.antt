-- The steps of any number of workers: which are legal, and what each changes.
use Rattle.std.specs.Prelude.{◌≡◌, ℕ, if◌then◌else◌, Bool, true, false, IsTrue, ◌⊎◌, List, [], ◌∷◌, map, length, replicate, bit_or, slice_index, slice_set, Contains}
use Rattle.link_closure.specs.Closure.{is_marked}
use Rattle.link_closure.specs.declared.workload.Mark.{Mark}
use Rattle.link_closure.specs.declared.workload.Item.{Item}
use Rattle.link_closure.specs.declared.workload.Workload.{Workload}
use Rattle.link_claim.specs.declared.state.Core.{Core}
use Rattle.link_claim.specs.declared.state.Marked.{Marked}
use Rattle.link_claim.specs.declared.state.Step.{Step}
use Rattle.link_claim.specs.declared.state.Step.TheVariants.{Claim, Begin, Mark as MarkStep, Read}
use Rattle.link_closure.specs.Workload.{HasItem, Requests, Marks, IsRoot}

-- no bit is set, and the flags are the opening ones
abbrev pub start : Workload → Core
start w = record {
  claimed = replicate w.files false;
  begun = replicate (length w.items) false;
  flags = w.opening;
  claims = [];
  begins = [];
  marks = [];
}

abbrev pub is_claimed : Core → ℕ → Bool
is_claimed c f = is_marked c.claimed f

abbrev pub is_begun : Core → ℕ → Bool
is_begun c i = is_marked c.begun i

-- the marks that were listed, without their workers
abbrev pub marks_of : Core → List Mark
marks_of c = map (λ (k : Marked). k.mark) c.marks

-- a claim is of a root or of a request of a begun item, a begin is of an item of a claimed file, and a mark is a root
-- mark or one of a begun item
abbrev pub legal : Workload → Core → Step → Type 0
legal w c (Claim by f) = IsRoot w f ⊎ ((i : ℕ) × IsTrue (is_begun c i) × Requests w i f)
legal w c (Begin by i) = (it : Item) × HasItem w i it × IsTrue (is_claimed c it.file)
legal w c (MarkStep by m) = Contains w.root_marks m ⊎ ((i : ℕ) × IsTrue (is_begun c i) × Marks w i m)
legal w c (Read by) = Unit {0}

-- a claim or a begin sets its bit and is listed, where the bit was not set; a mark joins its bits and is listed
abbrev pub state_after : Core → Step → Core
state_after c (Claim by f) =
    if is_claimed c f then c
    else record c { claimed = slice_set c.claimed f true; claims = record { worker = by; file = f } ∷ c.claims }
state_after c (Begin by i) =
    if is_begun c i then c
    else record c { begun = slice_set c.begun i true; begins = record { worker = by; item = i } ∷ c.begins }
state_after c (MarkStep by m) =
    record c {
      flags = slice_set c.flags m.symbol (bit_or (slice_index c.flags m.symbol) m.bits);
      marks = record { worker = by; mark = m } ∷ c.marks;
    }
state_after c (Read by) = c

-- the state after all steps
abbrev pub after : Core → List Step → Core
after c [] = c
after c (x ∷ xs) = after (state_after c x) xs

-- each step is legal where it comes
abbrev pub AllLegal : Workload → Core → List Step → Type 0
AllLegal w c [] = Unit {0}
AllLegal w c (x ∷ xs) = legal w c x × AllLegal w (state_after c x) xs

-- some list of steps, each legal where it comes, leads from the start to this state
pub record IsReached (w : Workload) (c : Core) : Type 0 where
  pub steps : List Step
  pub legal : AllLegal w (start w) steps
  pub ends : after (start w) steps ≡ c

-- the roots are claimed, every item of a claimed file is begun, each begun item's requests are claimed, and its marks
-- and the root marks are listed
pub record IsAllRead (w : Workload) (c : Core) : Type 0 where
  pub roots : (f : ℕ) → IsRoot w f → IsTrue (is_claimed c f)
  pub items : (i : ℕ) (it : Item) → HasItem w i it → IsTrue (is_claimed c it.file) → IsTrue (is_begun c i)
  pub requests : (i f : ℕ) → IsTrue (is_begun c i) → Requests w i f → IsTrue (is_claimed c f)
  pub root_marks : (m : Mark) → Contains w.root_marks m → Contains (marks_of c) m
  pub marks : (i : ℕ) (m : Mark) → IsTrue (is_begun c i) → Marks w i m → Contains (marks_of c) m

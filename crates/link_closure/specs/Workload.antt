-- What is to be done: which files are asked for by which, and which bits are joined to which symbol's flags.
use Rattle.std.specs.Prelude.{◌≡◌, ℕ, ◌<◌, ◌==◌, if◌then◌else◌, Bool, IsTrue, List, [], ◌∷◌, length, bit_or, slice_get, slice_index, Some, Contains}
use Rattle.link_closure.specs.Closure.{IsClosed}
use Rattle.link_closure.specs.declared.workload.Mark.{Mark}
use Rattle.link_closure.specs.declared.workload.Item.{Item}
use Rattle.link_closure.specs.declared.workload.Workload.{Workload}

-- the item of the number i
abbrev pub HasItem : Workload → ℕ → Item → Type 0
HasItem w i it = slice_get w.items i ≡ Some it

-- the item i requests the file f
abbrev pub Requests : Workload → ℕ → ℕ → Type 0
Requests w i f = (it : Item) × HasItem w i it × Contains it.requests f

-- the item i has the mark m
abbrev pub Marks : Workload → ℕ → Mark → Type 0
Marks w i m = (it : Item) × HasItem w i it × Contains it.marks m

-- the file is asked for from the start
abbrev pub IsRoot : Workload → ℕ → Type 0
IsRoot w f = Contains w.roots f

-- an item of the file f requests the file g
abbrev pub HasEdge : Workload → ℕ → ℕ → Type 0
HasEdge w f g = (i : ℕ) × (it : Item) × HasItem w i it × (it.file ≡ f) × Contains it.requests g

-- the file is in every closed set: each set that has the roots, and with each file all that its items request
abbrev pub IsInEachClosed : Workload → ℕ → Type 0
IsInEachClosed w f = (holds : ℕ → Bool) → IsClosed (IsRoot w) (HasEdge w) holds → IsTrue (holds f)

-- each file that is named is one of the files, and each symbol of a mark has flags
pub record IsSound (w : Workload) : Type 0 where
  pub roots : (f : ℕ) → IsRoot w f → f < w.files
  pub items : (i : ℕ) (it : Item) → HasItem w i it → it.file < w.files
  pub requests : (i f : ℕ) → Requests w i f → f < w.files
  pub root_marks : (m : Mark) → Contains w.root_marks m → m.symbol < length w.opening
  pub marks : (i : ℕ) (m : Mark) → Marks w i m → m.symbol < length w.opening

-- each bit of a is one of b
pub record IsWithin (a b : ℕ) : Type 0 where
  pub joined : bit_or a b ≡ b

-- the bits that the marks have for the symbol x
abbrev pub bits_for : ℕ → List Mark → ℕ
bits_for x [] = 0
bits_for x (m ∷ ms) = bit_or (if m.symbol == x then m.bits else 0) (bits_for x ms)

-- the bits that the items of these files have for it
abbrev pub item_bits : (ℕ → Bool) → ℕ → List Item → ℕ
item_bits holds x [] = 0
item_bits holds x (it ∷ its) = bit_or (if holds it.file then bits_for x it.marks else 0) (item_bits holds x its)

-- the flags that the symbol opens with, joined with the root marks and the marks of all items of these files
abbrev pub marked : Workload → (ℕ → Bool) → ℕ → ℕ
marked w holds x = bit_or (bit_or (slice_index w.opening x) (bits_for x w.root_marks)) (item_bits holds x w.items)

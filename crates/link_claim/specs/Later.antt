-- Views that only grow, and what has been read in a view.
use Rattle.std.specs.Prelude.{◌≡◌, ℕ, Contains}
use Rattle.link_closure.specs.declared.workload.Mark.{Mark}
use Rattle.link_closure.specs.declared.workload.Item.{Item}
use Rattle.link_claim.specs.declared.view.View.{View}
use Rattle.link_closure.specs.Workload.{HasItem, Requests, Marks, IsRoot}

-- the later view names the same work, and knows and lists all that the earlier one did
pub record IsLater (v later : View) : Type 0 where
  pub same : later.work ≡ v.work
  pub known : (f : ℕ) → Contains v.known f → Contains later.known f
  pub items : (i : ℕ) → Contains v.known_items i → Contains later.known_items i
  pub marks : (m : Mark) → Contains v.marks m → Contains later.marks m

-- the item is known, all that it requests is known, and its marks are listed
pub record HasRead (v : View) (i : ℕ) : Type 0 where
  pub begun : Contains v.known_items i
  pub requests : (f : ℕ) → Requests v.work i f → Contains v.known f
  pub marks : (m : Mark) → Marks v.work i m → Contains v.marks m

-- the roots are known, the root marks are listed, and every item of a known file has been read
pub record HasReadAll (v : View) : Type 0 where
  pub roots : (f : ℕ) → IsRoot v.work f → Contains v.known f
  pub root_marks : (m : Mark) → Contains v.work.root_marks m → Contains v.marks m
  pub items : (i : ℕ) (it : Item) → HasItem v.work i it → Contains v.known it.file → HasRead v i

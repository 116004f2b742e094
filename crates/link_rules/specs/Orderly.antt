-- A stage of a link at which what earlier batches settled is done, so that the work of the last batch need not do it again.
use Rattle.std.specs.Prelude.{◌≡◌, ℕ, ◌<◌, ◌≤◌, IsTrue, Contains, Some, length, slice_get}
use Rattle.link_closure.specs.Closure.{is_marked}
use Rattle.link_closure.specs.Workload.{IsWithin}
use Rattle.link_input.specs.Symbols.{Symbol, object_in, is_shared}
use Rattle.link_rules.specs.World.{Stage, is_reference}
use Rattle.link_rules.specs.Targets.{earlier_target}
use Rattle.link_rules.specs.Loading.{request_of}
use Rattle.link_rules.specs.Marking.{reference_flags, flags_before}

-- the symbol of this id, which stood for t after an earlier batch, is a reference of an object that was loaded; what it asks for was too, and t has its mark
pub record IsDone (w : Stage) (s : ℕ) (u : Symbol) (t : ℕ) : Type 0 where
  pub reference : IsTrue (is_reference u)
  pub of_loaded : (f : ℕ) → object_in u.origin ≡ Some f → IsTrue (is_marked w.earlier.loaded f)
  pub symbol : Symbol
  pub at : slice_get w.symbols t ≡ Some symbol
  pub requested : (g : ℕ) → request_of w s u ≡ Some g → IsTrue (is_marked w.earlier.loaded g)
  pub marked : IsWithin (reference_flags u (is_shared symbol.origin)) (flags_before w t symbol)

-- the symbols of objects are those of the stage's objects, marks are of these, and what earlier batches settled is done
pub record IsOrderly (w : Stage) : Type 0 where
  pub loaded : length w.earlier.loaded ≤ length w.objects
  pub objects : (x : Symbol) (f : ℕ) → Contains w.symbols x → object_in x.origin ≡ Some f → f < length w.objects
  pub done : (s t : ℕ) → earlier_target w s ≡ Some t → (u : Symbol) × (slice_get w.symbols s ≡ Some u) × IsDone w s u t

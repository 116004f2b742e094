-- What contracts see of a seat, of a flag word, and of the words once they are closed.
use Rattle.std.specs.Prelude.{◌≡◌, ℕ, ◌+◌, ◌<◌, ◌^◌, ◌==◌, ◌↔◌, Bool, IsTrue, List, length, map, take, drop, slice_index, Contains}
use Rattle.std.specs.List.{range_with_len}
use mathlib.Core.Option.{some}
use lib.ListN.{get_elem?}
use Rattle.atomic_table.specs.Seated.{TableId}
use Rattle.link_closure.specs.Closure.{IsLeastClosed, is_marked}
use Rattle.link_flags.specs.declared.value_flags.ValueFlags.{ValueFlags}
use Rattle.link_closure.specs.declared.workload.Mark.{Mark}
use Rattle.link_claim.specs.declared.view.View.{View}
use Rattle.link_closure.specs.Workload.{IsRoot, HasEdge, IsSound, marked}
use Rattle.link_claim.specs.Workload.{FitsU32, flag_base, word_count}
use Rattle.link_claim.specs.Rule.{Sharing, Holds}

-- a seat: which words it is of, and what it knows and has done
pub record Place : Type 0 where
  pub table : TableId
  pub view : View

-- a flag word: which words it is of, and whose it is
pub record FlagPlace : Type 0 where
  pub table : TableId
  pub symbol : ℕ

-- the flag words of a run of symbols: which words they are of, the first symbol, and how many there are
pub record FlagSpan : Type 0 where
  pub table : TableId
  pub start : ℕ
  pub len : ℕ

-- each of them, in rising order
abbrev pub flag_words_of : FlagSpan → List FlagPlace
flag_words_of r = map (λ s. record { table = r.table; symbol = s }) (range_with_len r.start r.len)

-- the mark of these flags for the word's symbol
abbrev pub mark_of : FlagPlace → ValueFlags → Mark
mark_of place flags = record { symbol = place.symbol; bits = flags.0 }

-- what is true of every seat's place and counts
pub record IsPlaced (table : TableId) (view : View) (files items : ℕ) : Type 0 where
  pub live : IsTrue view.live
  pub files_is : files ≡ view.work.files
  pub items_is : items ≡ length view.work.items
  pub wide : table.words ≡ word_count view.work
  pub small : word_count view.work < 2 ^ 64
  pub sound : IsSound view.work
  pub fits : FitsU32 view.work

-- the final words, and the view of the seat that they were closed with
pub record Ending : Type 0 where
  pub words : List ℕ
  pub view : View

-- the rule holds of these words with this view and others
pub record IsEnding (words : List ℕ) (view : View) : Type 0 where
  pub state : Sharing
  pub id : ℕ
  pub holds : Holds view.work state
  pub seen : get_elem? state.views id ≡ some view
  pub same : state.words ≡ words

-- which files were claimed, a mark for each
abbrev pub claimed_in : Ending → List Bool
claimed_in e = map (λ n. n == 1) (take e.view.work.files (drop 1 e.words))

-- the final flags of the symbol x
abbrev pub flags_in : Ending → ℕ → ℕ
flags_in e x = slice_index e.words (flag_base e.view.work + x)

-- the claimed files are the least closed set, just they are known, and each flag word has the marks of their items
pub record IsSettled (e : Ending) : Type 0 where
  pub least : IsLeastClosed (IsRoot e.view.work) (HasEdge e.view.work) e.view.work.files (claimed_in e)
  pub known : (f : ℕ) → Contains e.view.known f ↔ IsTrue (is_marked (claimed_in e) f)
  pub flags : (x : ℕ) → x < length e.view.work.opening → flags_in e x ≡ marked e.view.work (is_marked (claimed_in e)) x

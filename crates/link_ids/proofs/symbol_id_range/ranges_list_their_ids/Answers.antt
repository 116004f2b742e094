use Rattle.std.proofs.Common.{◌≡◌, ℕ, ◌+◌, ◌-◌, ◌<◌, length, arith, ◌∙◌, sym}
use Rattle.std.specs.Prelude.{Contains, slice_index}
use Rattle.std.specs.List.{range_with_len}
use Rattle.std.proofs.lemmas.List.FromFn.{length-range_with_len, get_or-range_with_len}
use Rattle.link_ids.specs.Span.{Span, IsInside, ids_of}
use Rattle.link_ids.proofs.symbol_id_range.ranges_list_their_ids.Goals as goal

-- each number is below the next
rises : (a n k : ℕ) → k + 1 < length (range_with_len a n) → slice_index (range_with_len a n) k < slice_index (range_with_len a n) (k + 1)
rises a n k h =
    let lt : k + 1 < n = omega (arith, length-range_with_len a n) in
    rw (get_or-range_with_len a n k 0 (omega arith), get_or-range_with_len a n (k + 1) 0 lt) (omega arith)

-- a number of the list is in the run
inside : (s : Span) (m : ℕ) → Contains (ids_of s) m → IsInside s m
inside s m has =
    let lt : has.0 < s.len = omega (arith, length-range_with_len s.start s.len, has.1) in
    let is : s.start + has.0 ≡ m = sym (get_or-range_with_len s.start s.len has.0 m lt) ∙ has.2 in
    (omega arith, omega arith)

-- a number of the run is in the list
listed : (s : Span) (m : ℕ) → IsInside s m → Contains (ids_of s) m
listed s m i =
    let lt : m - s.start < s.len = omega (arith, i.0, i.1) in
    let sum : s.start + (m - s.start) ≡ m = omega (arith, i.0) in
    (m - s.start, omega (arith, length-range_with_len s.start s.len), get_or-range_with_len s.start s.len (m - s.start) m lt ∙ sum)

pub returns : goal.returns
returns c = λ s. (rises s.start s.len, (λ m. (inside s m, listed s m)))

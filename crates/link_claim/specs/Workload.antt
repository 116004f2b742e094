-- Which workloads fit into words, and where each bit and each set of flags of a workload has its word.
use Rattle.std.specs.Prelude.{ℕ, ◌+◌, ◌<◌, ◌≤◌, ◌^◌, List, ◌++◌, length, replicate, slice_index, Contains}
use Rattle.link_closure.specs.declared.workload.Mark.{Mark}
use Rattle.link_closure.specs.declared.workload.Workload.{Workload}
use Rattle.link_closure.specs.Workload.{Marks}

-- each symbol has an id, and each set of flags is one of 32 bits
pub record FitsU32 (w : Workload) : Type 0 where
  pub symbols : length w.opening ≤ 2 ^ 32
  pub opening : (x : ℕ) → x < length w.opening → slice_index w.opening x < 2 ^ 32
  pub root_marks : (m : Mark) → Contains w.root_marks m → m.bits < 2 ^ 32
  pub marks : (i : ℕ) (m : Mark) → Marks w i m → m.bits < 2 ^ 32

-- a spare word, a claim word for each file, a begin word for each item, and a flag word for each symbol
abbrev pub begin_base : Workload → ℕ
begin_base w = 1 + w.files

abbrev pub flag_base : Workload → ℕ
flag_base w = 1 + w.files + length w.items

abbrev pub word_count : Workload → ℕ
word_count w = 1 + w.files + length w.items + length w.opening

-- the words as they begin
abbrev pub opening_words_of : Workload → List ℕ
opening_words_of w = replicate (flag_base w) 0 ++ w.opening

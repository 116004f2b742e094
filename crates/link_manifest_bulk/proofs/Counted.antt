-- A made-up link is within all limits.
use Rattle.std.proofs.Common.{◌≡◌, ℕ, zero, suc, ◌+◌, ◌*◌, ◌≤◌, [], ◌∷◌, ◌++◌, Bool, true, false, length, map, cond, refl, arith, None, length-append}
use Rattle.std.specs.Prelude.{◌%◌, ◌==◌, nat_le}
use Rattle.std.specs.List.{range_with_len}
use Rattle.std.proofs.lemmas.Bool.{le-ltb}
use Rattle.std.proofs.lemmas.List.{length-map}
use Rattle.link_input.specs.declared.too_many.TooManyKind.{TooManyKind}
use Rattle.link_input.specs.declared.too_many.TooManyKind.TheVariants.{Objects, LinkerScripts, StubLibraries, Sections, Symbols}
use Rattle.link_input.specs.declared.symbol_entry.Place.TheVariants.{Undefined}
use Rattle.link_input.specs.InputFiles.{sections_of}
use Rattle.link_input.specs.Limits.{Counts, AreWithinLimits, excess, first_excess, object_limit, file_limit, id_limit, section_total}
use Rattle.link_input.specs.Symbols.{object_symbol}
use Rattle.link_manifest_bulk.specs.Tables.{reference_to, references, global_entry}
use Rattle.link_manifest_bulk.specs.Names.{own_name}
use Rattle.link_manifest_bulk.specs.Bulk.{bulk_object}
use Rattle.link_manifest_bulk.proofs.Definitions.{object_by, symbols_in}
use Rattle.link_manifest_bulk.proofs.Remaining.{symbols_from}

-- a count that is not past its limit
none-past : (kind : TooManyKind) (limit count : ℕ) → count ≤ limit → excess kind limit count ≡ None
none-past kind limit count within = rw (le-ltb limit count within) refl

-- where no count is past its limit, there is no excess
pub no-excess : (counts : Counts) → AreWithinLimits counts → first_excess counts ≡ None
no-excess counts are = rw (
  none-past Objects object_limit counts.objects are.objects,
  none-past LinkerScripts file_limit counts.scripts are.scripts,
  none-past StubLibraries file_limit counts.stubs are.stubs,
  none-past Sections id_limit counts.sections are.sections,
  none-past Symbols id_limit counts.symbols are.symbols,
) refl

-- a reference is one symbol at most
reference-count : (members i : ℕ) → length (reference_to members i) ≤ 1
reference-count members i = by_test (nat_le i members)
  where
    by_test : (b : Bool) → length (cond b (global_entry (own_name i) Undefined ∷ []) []) ≤ 1
    by_test true = omega arith
    by_test false = omega arith

-- the references of a member are two at most
references-count : (members i : ℕ) → length (references members i) ≤ 2
references-count members i = by_test (i % 5 == 0)
  where
    by_test : (b : Bool) → length (cond b [] (reference_to members (2 * i) ++ reference_to members (2 * i + 1))) ≤ 2
    by_test true = omega arith
    by_test false = omega (
      arith,
      length-append (reference_to members (2 * i)) (reference_to members (2 * i + 1)),
      reference-count members (2 * i),
      reference-count members (2 * i + 1),
    )

-- an object has five symbols at most
symbols-count : (members i : ℕ) → length (bulk_object members i).object.symbols ≤ 5
symbols-count members i = by_first (i == 0)
  where
    by_first : (b : Bool) → length (object_by b members i).object.symbols ≤ 5
    by_first true = omega arith
    by_first false = let some = references-count members i in omega (arith, some)

-- an object has four sections at most
sections-count : (members i : ℕ) → sections_of (bulk_object members i) ≤ 4
sections-count members i = by_first (i == 0)
  where
    by_first : (b : Bool) → sections_of (object_by b members i) ≤ 4
    by_first true = omega arith
    by_first false = omega arith

-- so many objects have four times as many sections at most
pub all-sections : (members i count : ℕ) → section_total (map (bulk_object members) (range_with_len i count)) ≤ 4 * count
all-sections members i zero = omega arith
all-sections members i (suc count) = omega (arith, sections-count members i, all-sections members (i + 1) count)

-- and five times as many symbols
pub all-symbols : (members i count : ℕ) → length (symbols_from members i count) ≤ 5 * count
all-symbols members i zero = omega arith
all-symbols members i (suc count) = omega (
  arith,
  length-append (symbols_in i (bulk_object members i)) (symbols_from members (i + 1) count),
  length-map (bulk_object members i).object.symbols (object_symbol i (bulk_object members i)),
  symbols-count members i,
  all-symbols members (i + 1) count,
)

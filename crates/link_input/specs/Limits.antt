-- How many inputs ids can name.
use Rattle.std.specs.Prelude.{ℕ, ◌-◌, ◌^◌, ◌+◌, ◌*◌, ◌≤◌, nat_lt, List, [], ◌∷◌, length, Option, Some, None, if◌then◌else◌}
use Rattle.std.specs.Option.{option_or}
use Rattle.std.specs.List.{flat_map}
use Rattle.link_input.specs.declared.options.Options.{Options}
use Rattle.link_input.specs.declared.too_many.TooManyKind.{TooManyKind}
use Rattle.link_input.specs.declared.too_many.TooManyKind.TheVariants.{Objects, LinkerScripts, StubLibraries, Sections, Symbols}
use Rattle.link_input.specs.ObjectFile.{ObjectFile}
use Rattle.link_input.specs.InputFiles.{Batch, input_files, symbol_count, sections_of}

-- how many batches a link has at most
abbrev pub batch_limit : ℕ
batch_limit = 256

-- how many objects: each may be a group of its own, and of the 2^24 numbers of groups the linker scripts and the stub libraries of each batch need one, the prelude one, and the symbols that the linker adds one; two are left over
abbrev pub object_limit : ℕ
object_limit = 2 ^ 24 - 516

-- how many linker scripts, and how many stub libraries: each is a file of a group
abbrev pub file_limit : ℕ
file_limit = 256

-- how many sections of regular objects, and how many symbols
abbrev pub id_limit : ℕ
id_limit = 2 ^ 32 - 1

-- a sum over a list
abbrev pub total : {A : Type 0} → (A → ℕ) → List A → ℕ
total f [] = 0
total f (x ∷ xs) = f x + total f xs

-- how many there are of each kind
pub record Counts : Type 0 where
  pub objects : ℕ
  pub scripts : ℕ
  pub stubs : ℕ
  pub sections : ℕ
  pub symbols : ℕ

-- the sections of objects that have ids
abbrev pub section_total : List ObjectFile → ℕ
section_total objects = total sections_of objects

-- symbols, and the start and the stop symbol that each custom section may get
abbrev pub with_boundaries : Options → ℕ → ℕ
with_boundaries options symbols = symbols + 2 * length options.custom_sections

-- what is counted of some batches
abbrev pub counts_of : Options → List Batch → Counts
counts_of options batches = record {
  objects = length (flat_map (λ b. b.objects) batches);
  scripts = length (flat_map (λ b. b.scripts) batches);
  stubs = length (flat_map (λ b. b.stubs) batches);
  sections = section_total (flat_map (λ b. b.objects) batches);
  symbols = with_boundaries options (total symbol_count (input_files options batches));
}

-- a kind of which there are more than ids can name, and how many
pub record Excess : Type 0 where
  pub kind : TooManyKind
  pub count : ℕ

-- more than a limit
abbrev pub excess : TooManyKind → ℕ → ℕ → Option Excess
excess kind limit count = if nat_lt limit count then Some (record { kind = kind; count = count }) else None

-- the first kind of which there are too many
abbrev pub first_excess : Counts → Option Excess
first_excess counts =
    option_or (excess Objects object_limit counts.objects)
    (option_or (excess LinkerScripts file_limit counts.scripts)
    (option_or (excess StubLibraries file_limit counts.stubs)
    (option_or (excess Sections id_limit counts.sections)
    (excess Symbols id_limit counts.symbols))))

-- no count is past its limit
pub record AreWithinLimits (counts : Counts) : Type 0 where
  pub objects : counts.objects ≤ object_limit
  pub scripts : counts.scripts ≤ file_limit
  pub stubs : counts.stubs ≤ file_limit
  pub sections : counts.sections ≤ id_limit
  pub symbols : counts.symbols ≤ id_limit

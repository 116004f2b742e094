-- What is kept of the names that undefined references ask for.
use Rattle.std.specs.Prelude.{ℕ, ◌≡◌, ◌+◌, ◌<◌, ◌≤◌, IfSome, List, Option, length, map}
use Rattle.std.specs.Option.{option_or}
use Rattle.link_input.specs.Symbols.{Symbol}
use Rattle.link_rules.specs.Places.{Bytes}
use Rattle.link_rules.specs.Undefined.{Numbered, boundary_makers, last_alike, new_symbol}
use Rattle.link_rules.specs.World.{Stage}
use Rattle.link_resolve_undefined.specs.declared.asked_names.AskedNames.{AskedNames}
use Rattle.link_resolve_undefined.specs.declared.boundaries.SectionMarks.{SectionMarks}
use Rattle.link_resolve_undefined.specs.Boundaries.{Marks}
use Rattle.link_resolve_undefined.specs.NameIds.{id_in}

-- the stage of a link with these symbols and these custom sections
pub record IsStageOf (symbols : List Symbol) (sections : List Bytes) (w : Stage) : Type 0 where
  pub symbols_are : w.symbols ≡ symbols
  pub sections_are : w.options.custom_sections ≡ sections

-- the last reference that asks for this
abbrev pub last_in : AskedNames → Bytes → Option Bytes → Option ℕ
last_in asked name version = id_in asked.last name version

-- the new symbol that is made for this
abbrev pub new_in : AskedNames → Bytes → Option Bytes → Option ℕ
new_in asked name version = id_in asked.made name version

-- what stands for this: the new symbol, else the last reference
abbrev pub canonical_in : AskedNames → Bytes → Option Bytes → Option ℕ
canonical_in asked name version = option_or (new_in asked name version) (last_in asked name version)

-- the references for which new symbols are made, in the order of those
abbrev pub makers_in : AskedNames → List ℕ
makers_in asked = asked.makers.items

-- the id of the first new symbol
abbrev pub first_new_in : AskedNames → ℕ
first_new_in asked = asked.first_new

-- the names for which new symbols are made
abbrev pub marks_in : AskedNames → SectionMarks
marks_in asked = asked.marks

-- what stands for a name is an id below this number, and so are the new symbols
pub record AreBelow (count : ℕ) (asked : AskedNames) : Type 0 where
  pub stands : (name : Bytes) (version : Option Bytes) → IfSome (canonical_in asked name version) (λ s. s < count)
  pub new : first_new_in asked + length (makers_in asked) ≤ count

-- what is kept is of these references, which stay undefined at the stage
pub record AreAsked (asked : AskedNames) (w : Stage) (left : List Numbered) : Type 0 where
  pub last : (x : Symbol) → last_in asked x.name x.version ≡ last_alike left x
  pub made : (x : Symbol) → new_in asked x.name x.version ≡ new_symbol w (boundary_makers w left) x
  pub makers : makers_in asked ≡ map (λ u. u.0) (boundary_makers w left)
  pub first_new : first_new_in asked ≡ length w.symbols
  pub marks : Marks (marks_in asked) w.options.custom_sections

-- A name that is looked up.
use Rattle.std.specs.Prelude.{ℕ, Bool, true, false, List, if◌then◌else◌, Option, Some, None}
use Rattle.std.specs.Str.{is_utf8}
use Rattle.std.specs.Option.{option_map}
use Rattle.link_script.specs.declared.lookup.Lookup.{Lookup}

-- its bytes, its text if it is UTF-8, and that text demangled
pub record Asked : Type 0 where
  pub bytes : List ℕ
  pub text : Option (List ℕ)
  pub demangled : Option (List ℕ)

abbrev pub seen : Lookup → Asked
seen l = record { bytes = l.bytes.now; text = option_map (λ t. t.now) l.text; demangled = option_map (λ t. t.now) l.demangled }

abbrev pub asked : (List ℕ → List ℕ) → List ℕ → Asked
asked demangle name = record { bytes = name; text = if is_utf8 name then Some name else None; demangled = if is_utf8 name then Some (demangle name) else None }

-- the name, and the text, that a plain filter and one of C++ see
abbrev pub name_of : Asked → Bool → Option (List ℕ)
name_of a false = Some a.bytes
name_of a true = a.demangled

abbrev pub text_of : Asked → Bool → Option (List ℕ)
text_of a false = a.text
text_of a true = a.demangled

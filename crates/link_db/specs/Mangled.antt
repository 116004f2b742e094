-- Names that demangle to a target.
use Rattle.std.specs.Prelude.{ℕ, Bool, ◌&&◌, List}
use Rattle.std.specs.Str.{bytes_eq, is_utf8}

-- the name is text, and demangles to the target
abbrev pub stands_for : (List ℕ → List ℕ) → List ℕ → List ℕ → Bool
stands_for demangled target name = is_utf8 name && bytes_eq (demangled name) target

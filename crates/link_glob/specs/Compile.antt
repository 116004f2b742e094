-- What compiling the bytes of a pattern answers.
use Rattle.std.specs.Prelude.{◌≡◌, ℕ, List, Option, Some, None, Result, Ok, Err, if◌then◌else◌}
use Rattle.std.specs.Str.{chars, IsUtf8, is_utf8}
use Rattle.link_glob.specs.declared.compile.Dialect.{Dialect}
use Rattle.link_glob.specs.declared.fault.GlobError.{GlobError}
use Rattle.link_glob.specs.declared.fault.GlobError.TheVariants as errors
use Rattle.link_glob.specs.Glob.{GlobToken}
use Rattle.link_glob.specs.Grammar.{with_marks, IsPatternText}
use Rattle.link_glob.specs.Reading.{tokens_of}

-- The pattern is one that the bytes spell, or the refusal is the right one.
abbrev pub Compiles : Dialect → List ℕ → Result (List GlobToken) GlobError → Type 0
Compiles dialect bytes (Ok pattern) = IsPatternText dialect bytes pattern
Compiles dialect bytes (Err errors.InvalidUtf8) = ¬ (IsUtf8 bytes)
Compiles dialect bytes (Err errors.InvalidGlob) = IsUtf8 bytes × ((tokens : List GlobToken) → IsPatternText dialect bytes tokens → ⊥)
Compiles dialect bytes (Err errors.Memory) = Unit {0}

-- these tokens, or the refusal of a text that has none
abbrev pub or_invalid : Option (List GlobToken) → Result (List GlobToken) GlobError
or_invalid None = Err errors.InvalidGlob
or_invalid (Some tokens) = Ok tokens

-- the glob of some bytes, or why there is none
unfoldable pub glob_of : Dialect → List ℕ → Result (List GlobToken) GlobError
glob_of dialect bytes = if is_utf8 bytes then or_invalid (tokens_of dialect (with_marks (chars bytes))) else Err errors.InvalidUtf8

-- The refusal is the bytes' own, unless memory ran out.
abbrev pub IsRefusal : GlobError → Result (List GlobToken) GlobError → Type 0
IsRefusal errors.InvalidGlob glob = glob ≡ Err errors.InvalidGlob
IsRefusal errors.InvalidUtf8 glob = glob ≡ Err errors.InvalidUtf8
IsRefusal errors.Memory glob = Unit {0}

-- What a function returned is what the bytes give, unless memory ran out.
abbrev pub IsGlob : Result (List GlobToken) GlobError → Result (List GlobToken) GlobError → Type 0
IsGlob (Ok pattern) glob = glob ≡ Ok pattern
IsGlob (Err e) glob = IsRefusal e glob

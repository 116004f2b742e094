-- Mach-O export lists: a name or a glob on each line, as `ld -exported_symbols_list` reads them.
use Rattle.std.specs.Prelude.{◌≡◌, ◌≤◌, ℕ, ◌-◌, Bool, List, [], ◌∷◌, length, drop, ◌==◌, ◌||◌, if◌then◌else◌, Option, Some, None, Result, Ok}
use Rattle.std.specs.List.{before_first, prefix_len, list_any}
use Rattle.std.specs.Char.{is_ascii_whitespace}
use Rattle.link_glob.specs.declared.compile.Dialect.TheVariants.{MachO}
use Rattle.link_glob.specs.Compile.{glob_of}
use Rattle.link_script_syntax.specs.declared.fault.Fault.{Fault}
use Rattle.link_script_syntax.specs.declared.matcher.SymbolMatcher.{SymbolMatcher}
use Rattle.link_script_syntax.specs.declared.matcher.SymbolMatcher.TheVariants.{Exact, MatchesAll}
use Rattle.link_script_syntax.specs.Fault.{◌>>=◌}
use Rattle.link_script_syntax.specs.Token.{trimmed, glob_from, is_star}

-- what follows each LF
abbrev pub after_each_line : List ℕ → List (List ℕ)
after_each_line [] = []
after_each_line (c ∷ rest) = if c == 10 then rest ∷ after_each_line rest else after_each_line rest

-- the text from where each of its lines begins
abbrev pub line_starts : List ℕ → List (List ℕ)
line_starts text = text ∷ after_each_line text

-- LF
abbrev pub is_lf : ℕ → Bool
is_lf c = c == 10

-- `#`
abbrev pub is_number_sign : ℕ → Bool
is_number_sign c = c == 35

-- `*`, `?` or `[`
abbrev pub is_glob_byte : ℕ → Bool
is_glob_byte c = c == 42 || c == 63 || c == 91

-- the line up to a comment
abbrev pub uncommented : List ℕ → List ℕ
uncommented line = before_first is_number_sign line

-- how many blanks stand in front
abbrev pub indent : List ℕ → ℕ
indent line = prefix_len is_ascii_whitespace (uncommented line)

-- the line without its comment and the blanks round it
abbrev pub bare : List ℕ → List ℕ
bare line = trimmed (drop (indent line) (uncommented line))

-- what a line means that is not empty: all names, a glob, or the name as it stands
unfoldable pub macho_matcher : ℕ → List ℕ → Result SymbolMatcher Fault
macho_matcher left name =
    if is_star name then Ok MatchesAll else
    (if list_any is_glob_byte name then glob_from left (list_any (λ c. c == 42) name) (glob_of MachO name) else Ok (Exact name))

-- what a line means, where so many bytes are left from its beginning on
unfoldable pub line_matcher : ℕ → List ℕ → Result (Option SymbolMatcher) Fault
line_matcher left line =
    if length (bare line) == 0 then Ok None else (macho_matcher (left - indent line) (bare line) >>= λ m. Ok (Some m))

-- the matchers of one line more in front
abbrev pub with_line : Option SymbolMatcher → List SymbolMatcher → List SymbolMatcher
with_line None matchers = matchers
with_line (Some m) matchers = m ∷ matchers

-- the lines that begin there, one after the other
abbrev pub lines_of : List (List ℕ) → Result (List SymbolMatcher) Fault
lines_of [] = Ok []
lines_of (start ∷ starts) = line_matcher (length start) (before_first is_lf start) >>= λ m. lines_of starts >>= λ ms. Ok (with_line m ms)

-- the matchers of all lines
unfoldable pub macho_list : List ℕ → Result (List SymbolMatcher) Fault
macho_list text = lines_of (line_starts text)

-- the lines that begin in what is left, if anything is
abbrev pub starts_of : Option (List ℕ) → List (List ℕ)
starts_of None = []
starts_of (Some text) = line_starts text

-- how many bytes are left, if there is a text
abbrev pub size_of : Option (List ℕ) → ℕ
size_of None = 0
size_of (Some text) = length text

-- The text's first line, and the text after it, if there is one more.
pub record IsLineOf (text line : List ℕ) (after : Option (List ℕ)) : Type 0 where
  pub first : line ≡ before_first is_lf text
  pub others : starts_of after ≡ after_each_line text
  pub short : length line ≤ length text
  pub behind : size_of after ≤ length text

-- the names that are listed as they stand
abbrev pub exact_names : List SymbolMatcher → List (List ℕ)
exact_names [] = []
exact_names (Exact name ∷ matchers) = name ∷ exact_names matchers
exact_names (m ∷ matchers) = exact_names matchers

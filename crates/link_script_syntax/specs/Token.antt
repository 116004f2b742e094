-- One name or pattern of a script.
use Rattle.std.specs.Prelude.{◌≡◌, ◌≢◌, ◌<◌, ◌++◌, ℕ, ◌-◌, Bool, true, false, List, [], ◌∷◌, length, take, drop, get_or, nat_lt, ◌==◌, ◌&&◌, if◌then◌else◌, Option, Some, None, Result, Ok, Err, position}
use Rattle.std.specs.List.{suffix_len}
use Rattle.std.specs.Char.{is_ascii_whitespace}
use Rattle.link_glob.specs.declared.fault.GlobError.{GlobError}
use Rattle.link_glob.specs.declared.fault.GlobError.TheVariants as globs
use Rattle.link_glob.specs.declared.analyze.GlobPatternType.{GlobPatternType}
use Rattle.link_glob.specs.declared.analyze.GlobPatternType.TheVariants as types
use Rattle.link_glob.specs.declared.compile.Dialect.TheVariants.{Gnu}
use Rattle.link_glob.specs.Glob.{GlobToken}
use Rattle.link_glob.specs.Analyze.{pattern_type, unescaped}
use Rattle.link_glob.specs.Compile.{glob_of}
use Rattle.link_script_syntax.specs.declared.fault.Fault.{Fault}
use Rattle.link_script_syntax.specs.declared.fault.ScriptErrorKind.{ScriptErrorKind}
use Rattle.link_script_syntax.specs.declared.fault.ScriptErrorKind.TheVariants.{Syntax, InvalidUtf8String, InvalidGlobPattern}
use Rattle.link_script_syntax.specs.declared.matcher.SymbolMatcher.{SymbolMatcher}
use Rattle.link_script_syntax.specs.declared.matcher.SymbolMatcher.TheVariants.{Exact, EscapedExact, StarGlob, NonstarGlob, MatchesAll}
use Rattle.link_script_syntax.specs.declared.profile.TokenEnd.{TokenEnd}
use Rattle.link_script_syntax.specs.Fault.{◌>>=◌, refuse}
use Rattle.link_script_syntax.specs.Profile.{is_end, IsUnended}

-- without the space, tab, LF, FF and CR at the end
unfoldable pub trimmed : List ℕ → List ℕ
trimmed bytes = take (length bytes - suffix_len is_ascii_whitespace bytes) bytes

-- a fault where so many bytes are left
abbrev pub refuse_at : {A : Type 0} → ScriptErrorKind → ℕ → Result A Fault
refuse_at kind left = Err (record { left = left; kind = kind })

-- the matcher of a compiled glob, with a star or without, or its fault
abbrev pub glob_from : ℕ → Bool → Result (List GlobToken) GlobError → Result SymbolMatcher Fault
glob_from left true (Ok tokens) = Ok (StarGlob tokens)
glob_from left false (Ok tokens) = Ok (NonstarGlob tokens)
glob_from left kind (Err globs.InvalidUtf8) = refuse_at InvalidUtf8String left
glob_from left kind (Err globs.InvalidGlob) = refuse_at InvalidGlobPattern left
glob_from left kind (Err globs.Memory) = refuse_at InvalidGlobPattern left

-- the bytes as a glob
unfoldable pub glob_at : ℕ → Bool → List ℕ → Result SymbolMatcher Fault
glob_at left kind token = glob_from left kind (glob_of Gnu token)

-- what bytes of this type mean
abbrev pub matcher_by : ℕ → List ℕ → GlobPatternType → Result SymbolMatcher Fault
matcher_by left token types.Exact = Ok (Exact token)
matcher_by left token types.EscapedExact = Ok (EscapedExact (unescaped token))
matcher_by left token types.Star = glob_at left true token
matcher_by left token types.NonStar = glob_at left false token

-- two bytes or more, with a quote first and last
abbrev pub is_quoted : List ℕ → Bool
is_quoted token = nat_lt 1 (length token) && get_or token 0 0 == 34 && get_or token (length token - 1) 0 == 34

-- a bare star
abbrev pub is_star : List ℕ → Bool
is_star token = length token == 1 && get_or token 0 0 == 42

-- what a token means, where so many bytes are left from its first byte on
unfoldable pub matcher_of : ℕ → List ℕ → Result SymbolMatcher Fault
matcher_of left token =
    if is_quoted token then Ok (Exact (take (length token - 2) (drop 1 token))) else
    (if is_star token then Ok MatchesAll else matcher_by left token (pattern_type token))

-- behind a semicolon, where one stands first
abbrev pub after_semicolon : List ℕ → List ℕ
after_semicolon [] = []
after_semicolon (c ∷ rest) = if c == 59 then rest else c ∷ rest

-- a token that ends at this place, if there is one
abbrev pub token_ended : List ℕ → Option ℕ → Result (SymbolMatcher × List ℕ) Fault
token_ended text None = refuse Syntax text
token_ended text (Some end) =
    if end == 0 then refuse Syntax text else
    (matcher_of (length text) (trimmed (take end text)) >>= λ m. Ok (m, after_semicolon (drop end text)))

-- All bytes up to the first one that ends a token, at least one; then a `;` is taken if it is there. The byte that
-- ends a token is no blank and begins no comment, so nothing is skipped there.
unfoldable pub token_at : TokenEnd → List ℕ → Result (SymbolMatcher × List ℕ) Fault
token_at end text = token_ended text (position (λ c. is_end end c) text)

-- none of the bytes is this one
abbrev pub Without : ℕ → List ℕ → Type 0
Without stop [] = Unit {0}
Without stop (c ∷ bytes) = (c ≢ stop) × Without stop bytes

-- The text is a token, the first byte that ends one, and more. A token has one byte at least.
pub record IsToken (end : TokenEnd) (text : List ℕ) (m : SymbolMatcher) (rest : List ℕ) : Type 0 where
  pub bytes : List ℕ
  pub stop : ℕ
  pub after : List ℕ
  pub whole : text ≡ bytes ++ stop ∷ after
  pub some : 0 < length bytes
  pub plain : IsUnended end bytes
  pub ends : is_end end stop ≡ true
  pub means : matcher_of (length text) (trimmed bytes) ≡ Ok m
  pub follows : rest ≡ after_semicolon (stop ∷ after)

-- The grammar of Mach-O export lists, a name or a glob on each line: which matchers a text lists, and which fault it has.
use Rattle.std.specs.Prelude.{◌≡◌, ◌≢◌, ◌<◌, ℕ, Bool, true, false, List, [], ◌∷◌, ◌++◌, length, ◌==◌, Option, Some, None, Ok, ◌⊎◌}
use Rattle.std.specs.List.{list_any}
use Rattle.std.specs.Char.{is_ascii_whitespace}
use Rattle.link_glob.specs.declared.compile.Dialect.TheVariants.{MachO}
use Rattle.link_glob.specs.Compile.{glob_of}
use Rattle.link_script_syntax.specs.declared.fault.ScriptErrorKind.{ScriptErrorKind}
use Rattle.link_script_syntax.specs.declared.matcher.SymbolMatcher.{SymbolMatcher}
use Rattle.link_script_syntax.specs.declared.matcher.SymbolMatcher.TheVariants.{Exact, EscapedExact, StarGlob, NonstarGlob, MatchesAll}
use Rattle.link_script_syntax.specs.Words.{star_word}
use Rattle.link_script_syntax.specs.Blanks.{IsLine}
use Rattle.link_script_syntax.specs.Token.{Without}
use Rattle.link_script_syntax.specs.MachoList.{is_glob_byte, with_line}
use Rattle.link_script_syntax.specs.Faults.{IsGlobFault}

-- ---- lines

-- the lines of a text: no LF stands in them, and one stands between each and the next
abbrev pub AreLines : List (List ℕ) → List ℕ → Type 0
AreLines [] text = ⊥
AreLines (line ∷ []) text = (text ≡ line) × IsLine line
AreLines (line ∷ next ∷ lines) text = (after : List ℕ) × (text ≡ line ++ 10 ∷ after) × IsLine line × AreLines (next ∷ lines) after

-- all bytes are ASCII blanks: spaces, tabs, LFs, FFs and CRs
abbrev pub AreBlanks : List ℕ → Type 0
AreBlanks [] = Unit {0}
AreBlanks (c ∷ bytes) = (is_ascii_whitespace c ≡ true) × AreBlanks bytes

-- no blank stands first
abbrev pub BeginsBare : List ℕ → Type 0
BeginsBare [] = Unit {0}
BeginsBare (c ∷ bytes) = is_ascii_whitespace c ≡ false

-- no blank stands last
abbrev pub EndsBare : List ℕ → Type 0
EndsBare [] = Unit {0}
EndsBare (c ∷ []) = is_ascii_whitespace c ≡ false
EndsBare (c ∷ d ∷ bytes) = EndsBare (d ∷ bytes)

-- a comment, up to the line's end, or nothing
abbrev pub IsComment : List ℕ → Type 0
IsComment [] = Unit {0}
IsComment (c ∷ bytes) = c ≡ 35

-- what a line has up to its first `#`, without the blanks at both ends
pub record IsBare (line name : List ℕ) : Type 0 where
  pub before : List ℕ
  pub after : List ℕ
  pub comment : List ℕ
  pub whole : line ≡ before ++ (name ++ (after ++ comment))
  pub blanks_before : AreBlanks before
  pub blanks_after : AreBlanks after
  pub begins : BeginsBare name
  pub ends : EndsBare name
  pub plain : Without 35 name
  pub rest : IsComment comment

-- ---- what lines mean

-- the bytes have a `*`, `?` or `[`
abbrev pub has_glob_byte : List ℕ → Bool
has_glob_byte name = list_any is_glob_byte name

-- the bytes have a `*`
abbrev pub has_star : List ℕ → Bool
has_star name = list_any (λ c. c == 42) name

-- nothing for a line that is empty; all names for a star; a glob, with a star or without; and else the name as it stands
abbrev pub NameMeans : List ℕ → Option SymbolMatcher → Type 0
NameMeans name None = name ≡ []
NameMeans name (Some MatchesAll) = name ≡ star_word
NameMeans name (Some (StarGlob tokens)) = (name ≢ star_word) × (has_star name ≡ true) × (glob_of MachO name ≡ Ok tokens)
NameMeans name (Some (NonstarGlob tokens)) = (has_glob_byte name ≡ true) × (has_star name ≡ false) × (glob_of MachO name ≡ Ok tokens)
NameMeans name (Some (Exact exact)) = (0 < length name) × (has_glob_byte name ≡ false) × (exact ≡ name)
NameMeans name (Some (EscapedExact exact)) = ⊥

-- a line means what is left of it
abbrev pub LineMeans : List ℕ → Option SymbolMatcher → Type 0
LineMeans line m = (name : List ℕ) × IsBare line name × NameMeans name m

-- the lines list these matchers, in their order
abbrev pub AreListed : List (List ℕ) → List SymbolMatcher → Type 0
AreListed [] matchers = matchers ≡ []
AreListed (line ∷ lines) matchers = (m : Option SymbolMatcher) × (others : List SymbolMatcher) × LineMeans line m × AreListed lines others × (matchers ≡ with_line m others)

-- a Mach-O export list
abbrev pub IsMachoList : List ℕ → List SymbolMatcher → Type 0
IsMachoList text matchers = (lines : List (List ℕ)) × AreLines lines text × AreListed lines matchers

-- ---- faults

-- the first line of a text
abbrev pub IsFirstLine : List ℕ → List ℕ → Type 0
IsFirstLine line text = IsLine line × ((text ≡ line) ⊎ ((after : List ℕ) × (text ≡ line ++ 10 ∷ after)))

-- The first line is a glob that can't be compiled, refused at its first byte that is no blank.
pub record FirstLineFails (text : List ℕ) (kind : ScriptErrorKind) (at : List ℕ) : Type 0 where
  pub line : List ℕ
  pub name : List ℕ
  pub first : IsFirstLine line text
  pub bare : IsBare line name
  pub not_all : name ≢ star_word
  pub glob : has_glob_byte name ≡ true
  pub fault : IsGlobFault (glob_of MachO name) kind
  pub place : text ≡ bare.before ++ at

-- lines that mean something, and the first line behind them fails
abbrev pub FailsBehind : List (List ℕ) → List ℕ → ScriptErrorKind → List ℕ → Type 0
FailsBehind [] text kind at = FirstLineFails text kind at
FailsBehind (line ∷ lines) text kind at = (after : List ℕ) × (m : Option SymbolMatcher) × (text ≡ line ++ 10 ∷ after) × IsLine line × LineMeans line m × FailsBehind lines after kind at

-- the first line whose glob can't be compiled
abbrev pub MachoFails : List ℕ → ScriptErrorKind → List ℕ → Type 0
MachoFails text kind at = (lines : List (List ℕ)) × FailsBehind lines text kind at

-- The grammar of GNU export lists, and of names that options add: which entries a text spells.
use Rattle.std.specs.Prelude.{◌≡◌, ◌<◌, ℕ, Bool, true, false, List, [], ◌∷◌, ◌++◌, length, Option, Some, None, Ok, ◌⊎◌}
use Rattle.link_script_syntax.specs.declared.matcher.SymbolMatcher.{SymbolMatcher}
use Rattle.link_script_syntax.specs.declared.matcher.ParsedSymbolMatcher.{ParsedSymbolMatcher}
use Rattle.link_script_syntax.specs.declared.matcher.ParsedSymbolMatcher.TheVariants.{Single}
use Rattle.link_script_syntax.specs.declared.profile.ScriptProfile.{ScriptProfile}
use Rattle.link_script_syntax.specs.declared.profile.ScriptProfile.TheVariants.{Wild}
use Rattle.link_script_syntax.specs.Words.{extern_word, open_word, close_word}
use Rattle.link_script_syntax.specs.Blanks.{Skipped}
use Rattle.link_script_syntax.specs.Token.{Without, trimmed, matcher_of}
use Rattle.link_script_syntax.specs.Grammar.{NotHere, Repeats, IsEntry}

-- in a list: `};`, or an entry
abbrev pub ListTurn : ScriptProfile → List ParsedSymbolMatcher → List ℕ → Option ParsedSymbolMatcher → List ℕ → Type 0
ListTurn profile front text None rest = Skipped text (close_word ++ rest)
ListTurn profile front text (Some e) rest = (here : List ℕ) × Skipped text here × NotHere close_word here × IsEntry profile here e rest

-- a GNU export list: a `{`, entries up to `};`, and the end of the text
abbrev pub IsExportList : ScriptProfile → List ℕ → List ParsedSymbolMatcher → Type 0
IsExportList profile text entries = (inside behind : List ℕ) × Skipped text (open_word ++ inside) × Repeats (ListTurn profile) [] entries inside behind × Skipped behind []

-- The text without a `}`, or some bytes in front of its first one, are a name or pattern.
abbrev pub IsForcedToken : List ℕ → SymbolMatcher → Type 0
IsForcedToken text m =
    (Without 125 text × (matcher_of (length text) (trimmed text) ≡ Ok m))
    ⊎ ((bytes after : List ℕ) × (text ≡ bytes ++ 125 ∷ after) × (0 < length bytes) × Without 125 bytes × (matcher_of (length text) (trimmed bytes) ≡ Ok m))

-- a name that an option adds: a name or pattern, or an extern block, whatever follows it
abbrev pub IsForcedName : List ℕ → ParsedSymbolMatcher → Type 0
IsForcedName text (Single m) = NotHere extern_word text × IsForcedToken text m
IsForcedName text block = (rest : List ℕ) × IsEntry Wild text block rest

-- what is added to a list, without the semicolon that an entry of a list has, or with it, whatever follows it
abbrev pub IsAddedEntry : Bool → List ℕ → ParsedSymbolMatcher → Type 0
IsAddedEntry true text entry = IsForcedName text entry
IsAddedEntry false text entry = (rest : List ℕ) × IsEntry Wild text entry rest

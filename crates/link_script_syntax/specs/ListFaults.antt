-- Which fault a GNU export list has, or a name that an option adds, and where. A fault is a kind, and the text from its place on.
use Rattle.std.specs.Prelude.{◌≡◌, ◌<◌, ℕ, Bool, true, false, List, [], ◌∷◌, ◌++◌, length}
use Rattle.link_script_syntax.specs.declared.fault.ScriptErrorKind.{ScriptErrorKind}
use Rattle.link_script_syntax.specs.declared.fault.ScriptErrorKind.TheVariants.{Syntax}
use Rattle.link_script_syntax.specs.declared.matcher.ParsedSymbolMatcher.{ParsedSymbolMatcher}
use Rattle.link_script_syntax.specs.declared.profile.ScriptProfile.{ScriptProfile}
use Rattle.link_script_syntax.specs.declared.profile.ScriptProfile.TheVariants.{Wild}
use Rattle.link_script_syntax.specs.Words.{extern_word, open_word, close_word}
use Rattle.link_script_syntax.specs.Blanks.{Skipped, Unclosed}
use Rattle.link_script_syntax.specs.Token.{Without, trimmed}
use Rattle.link_script_syntax.specs.Grammar.{NotHere, Repeats}
use Rattle.link_script_syntax.specs.ListGrammar.{ListTurn}
use Rattle.link_script_syntax.specs.Faults.{IsBadPattern, RepeatFails, ExternFails, EntryFails, EndFails}

-- a turn of a list
pub data ListTurnFails (profile : ScriptProfile) (text : List ℕ) : ScriptErrorKind → List ℕ → Type 0 where
  -- a comment in front is never closed
  comment : (at : List ℕ) → Unclosed text at → ListTurnFails profile text Syntax at
  -- an entry fails
  entry : (here at : List ℕ) (kind : ScriptErrorKind) → Skipped text here → NotHere close_word here → EntryFails profile here kind at → ListTurnFails profile text kind at

-- a GNU export list
pub data ListFails (profile : ScriptProfile) (text : List ℕ) : ScriptErrorKind → List ℕ → Type 0 where
  -- a comment in front is never closed
  comment : (at : List ℕ) → Unclosed text at → ListFails profile text Syntax at
  -- no `{`
  no_brace : (at : List ℕ) → Skipped text at → NotHere open_word at → ListFails profile text Syntax at
  -- some turn fails
  inside : (inside at : List ℕ) (kind : ScriptErrorKind) (entries : List ParsedSymbolMatcher) → Skipped text (open_word ++ inside)
      → RepeatFails (ListTurn profile) (λ front. ListTurnFails profile) [] entries inside kind at → ListFails profile text kind at
  -- behind the closing `};` the text does not end
  behind : (inside after at : List ℕ) (kind : ScriptErrorKind) (entries : List ParsedSymbolMatcher) → Skipped text (open_word ++ inside)
      → Repeats (ListTurn profile) [] entries inside after → EndFails after kind at → ListFails profile text kind at

-- a name or pattern that needs no semicolon: all its faults stand at its first byte
pub data ForcedTokenFails (text : List ℕ) : ScriptErrorKind → List ℕ → Type 0 where
  -- no `}` comes, and the text is a pattern that can't be compiled
  whole : (kind : ScriptErrorKind) → Without 125 text → IsBadPattern (trimmed text) kind → ForcedTokenFails text kind text
  -- a `}` stands first
  empty : (after : List ℕ) → text ≡ 125 ∷ after → ForcedTokenFails text Syntax text
  -- what stands in front of the first `}` is a pattern that can't be compiled
  bad_pattern : (bytes after : List ℕ) (kind : ScriptErrorKind) → text ≡ bytes ++ 125 ∷ after → 0 < length bytes → Without 125 bytes
      → IsBadPattern (trimmed bytes) kind → ForcedTokenFails text kind text

-- a name that an option adds
pub data ForcedFails (text : List ℕ) : ScriptErrorKind → List ℕ → Type 0 where
  -- an extern block fails
  block : (rest at : List ℕ) (kind : ScriptErrorKind) → text ≡ extern_word ++ rest → ExternFails rest kind at → ForcedFails text kind at
  -- a name or pattern fails
  token : (at : List ℕ) (kind : ScriptErrorKind) → NotHere extern_word text → ForcedTokenFails text kind at → ForcedFails text kind at

-- what is added to a list, without the semicolon that an entry of a list has, or with it
abbrev pub AddedFails : Bool → List ℕ → ScriptErrorKind → List ℕ → Type 0
AddedFails true text kind at = ForcedFails text kind at
AddedFails false text kind at = EntryFails Wild text kind at

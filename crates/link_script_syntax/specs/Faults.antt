-- Which fault a text has, and where, beside the grammar of what it means. A fault is a kind, and the text from its place on.
use Rattle.std.specs.Prelude.{◌≡◌, ◌≢◌, ◌<◌, ◌+◌, ℕ, true, false, IsTrue, List, [], ◌∷◌, ◌++◌, length, slice_get, Option, Some, Result, Ok, Err, ◌⊎◌}
use Rattle.link_glob.specs.declared.fault.GlobError.{GlobError}
use Rattle.link_glob.specs.declared.fault.GlobError.TheVariants as globs
use Rattle.link_glob.specs.declared.analyze.GlobPatternType.TheVariants as types
use Rattle.link_glob.specs.declared.compile.Dialect.TheVariants.{Gnu}
use Rattle.link_glob.specs.Glob.{GlobToken}
use Rattle.link_glob.specs.Analyze.{pattern_type}
use Rattle.link_glob.specs.Compile.{glob_of}
use Rattle.link_script_syntax.specs.declared.body.Item.{Item}
use Rattle.link_script_syntax.specs.declared.body.RawVersionBody.{RawVersionBody}
use Rattle.link_script_syntax.specs.declared.fault.Language.{Language}
use Rattle.link_script_syntax.specs.declared.fault.ScriptErrorKind.{ScriptErrorKind}
use Rattle.link_script_syntax.specs.declared.fault.ScriptErrorKind.TheVariants.{Syntax, InvalidUtf8String, InvalidGlobPattern, UnknownParentVersion, UnexpectedExtern, UnsupportedExtern, TooManyVersions}
use Rattle.link_script_syntax.specs.declared.fault.ScriptFault.{ScriptFault}
use Rattle.link_script_syntax.specs.declared.fault.ScriptFault.TheVariants as faults
use Rattle.link_script_syntax.specs.declared.matcher.SymbolMatcher.{SymbolMatcher}
use Rattle.link_script_syntax.specs.declared.named.RawVersion.{RawVersion}
use Rattle.link_script_syntax.specs.declared.profile.ScriptProfile.{ScriptProfile}
use Rattle.link_script_syntax.specs.declared.profile.TokenEnd.{TokenEnd}
use Rattle.link_script_syntax.specs.Words.{extern_word, word_of, global_word, local_word, open_word, brace_word, close_word, semicolon_word}
use Rattle.link_script_syntax.specs.Blanks.{Skipped, Unclosed}
use Rattle.link_script_syntax.specs.Profile.{is_end, IsUnended, token_end}
use Rattle.link_script_syntax.specs.Token.{Without, trimmed, is_quoted, is_star}
use Rattle.link_script_syntax.specs.Block.{extern_text}
use Rattle.link_script_syntax.specs.Named.{is_name_byte, raw_names, most_versions}
use Rattle.link_script_syntax.specs.Grammar.{NotHere, NoClose, block_end, BlockTurn, BodyTurn, IsBody, IsParent, AreNameBytes, EndsName, VersionTurn}

-- ---- names and patterns

-- why a glob can't be compiled, as a fault of a script
abbrev pub IsGlobFault : Result (List GlobToken) GlobError → ScriptErrorKind → Type 0
IsGlobFault (Err globs.InvalidUtf8) kind = kind ≡ InvalidUtf8String
IsGlobFault (Err globs.InvalidGlob) kind = kind ≡ InvalidGlobPattern
IsGlobFault glob kind = ⊥

-- bytes that are a pattern, neither quoted nor a bare star, and that can't be compiled
pub record IsBadPattern (bytes : List ℕ) (kind : ScriptErrorKind) : Type 0 where
  pub unquoted : is_quoted bytes ≡ false
  pub not_all : is_star bytes ≡ false
  pub pattern : (pattern_type bytes ≡ types.Star) ⊎ (pattern_type bytes ≡ types.NonStar)
  pub fault : IsGlobFault (glob_of Gnu bytes) kind

-- a name or pattern up to its end: all its faults stand at its first byte
pub data TokenFails (end : TokenEnd) (text : List ℕ) : ScriptErrorKind → List ℕ → Type 0 where
  -- no byte ends it
  endless : IsUnended end text → TokenFails end text Syntax text
  -- nothing stands in front of the byte that ends it
  empty : (stop : ℕ) (after : List ℕ) → text ≡ stop ∷ after → is_end end stop ≡ true → TokenFails end text Syntax text
  -- what stands in front of that byte is a pattern that can't be compiled
  bad_pattern : (bytes : List ℕ) (stop : ℕ) (after : List ℕ) (kind : ScriptErrorKind) → text ≡ bytes ++ stop ∷ after → 0 < length bytes → IsUnended end bytes → is_end end stop ≡ true
      → IsBadPattern (trimmed bytes) kind → TokenFails end text kind text

-- ---- repetitions

-- Items, one after the other, and a turn behind them that fails. A turn may look at the items in front.
abbrev pub RepeatFails : {A : Type 0} → (List A → List ℕ → Option A → List ℕ → Type 0) → (List A → List ℕ → ScriptErrorKind → List ℕ → Type 0) → List A → List A → List ℕ → ScriptErrorKind → List ℕ → Type 0
RepeatFails turn fails front [] text kind at = fails front text kind at
RepeatFails turn fails front (x ∷ xs) text kind at = (after : List ℕ) × turn front text (Some x) after × RepeatFails turn fails (front ++ x ∷ []) xs after kind at

-- ---- extern blocks

-- no language stands there
abbrev pub NoLanguage : List ℕ → Type 0
NoLanguage text = (language : Language) → NotHere (word_of language) text

-- the fault that an `extern ` in a block is, by the text behind it
pub data IsNested (text : List ℕ) : ScriptErrorKind → Type 0 where
  -- a block of this language
  known : (language : Language) (behind : List ℕ) → text ≡ word_of language ++ behind → IsNested text (UnexpectedExtern language)
  -- a block of none
  unknown : NoLanguage text → IsNested text (UnsupportedExtern (extern_text text))

-- a turn of a block
pub data BlockTurnFails (text : List ℕ) : ScriptErrorKind → List ℕ → Type 0 where
  -- a comment in front is never closed
  comment : (at : List ℕ) → Unclosed text at → BlockTurnFails text Syntax at
  -- a comment behind the closing `};` is never closed
  comment_behind : (after at : List ℕ) → Skipped text (close_word ++ after) → Unclosed after at → BlockTurnFails text Syntax at
  -- a further `extern `, refused at this word
  nested : (rest : List ℕ) (kind : ScriptErrorKind) → Skipped text (extern_word ++ rest) → IsNested rest kind → BlockTurnFails text kind (extern_word ++ rest)
  -- no `};` comes
  endless : (at : List ℕ) → Skipped text at → NotHere extern_word at → NoClose at → BlockTurnFails text Syntax at
  -- a name or pattern that fails, where what is in front of the next `};` says which byte ends it
  token : (here inner after at : List ℕ) (kind : ScriptErrorKind) → Skipped text here → NotHere close_word here → NotHere extern_word here
      → here ≡ inner ++ 125 ∷ 59 ∷ after → NoClose inner → TokenFails (block_end inner) here kind at → BlockTurnFails text kind at

-- in a block some turn fails
abbrev pub BlockFails : List ℕ → ScriptErrorKind → List ℕ → Type 0
BlockFails text kind at = (ms : List SymbolMatcher) × RepeatFails BlockTurn (λ front. BlockTurnFails) [] ms text kind at

-- an extern block, where the text behind its `extern ` is this
pub data ExternFails (text : List ℕ) : ScriptErrorKind → List ℕ → Type 0 where
  -- no language
  unsupported : NoLanguage text → ExternFails text (UnsupportedExtern (extern_text text)) text
  -- a comment behind the language is never closed
  comment : (language : Language) (behind at : List ℕ) → text ≡ word_of language ++ behind → Unclosed behind at → ExternFails text Syntax at
  -- no `{`
  no_brace : (language : Language) (behind at : List ℕ) → text ≡ word_of language ++ behind → Skipped behind at → NotHere open_word at → ExternFails text Syntax at
  -- the block fails
  inside : (language : Language) (behind block at : List ℕ) (kind : ScriptErrorKind) → text ≡ word_of language ++ behind → Skipped behind (open_word ++ block)
      → BlockFails block kind at → ExternFails text kind at

-- ---- entries and bodies

-- an entry
pub data EntryFails (profile : ScriptProfile) (text : List ℕ) : ScriptErrorKind → List ℕ → Type 0 where
  -- an extern block fails
  block : (rest at : List ℕ) (kind : ScriptErrorKind) → text ≡ extern_word ++ rest → ExternFails rest kind at → EntryFails profile text kind at
  -- a name or pattern up to its end fails
  token : (at : List ℕ) (kind : ScriptErrorKind) → NotHere extern_word text → TokenFails (token_end profile) text kind at → EntryFails profile text kind at

-- a turn of a body
pub data BodyTurnFails (profile : ScriptProfile) (text : List ℕ) : ScriptErrorKind → List ℕ → Type 0 where
  -- a comment in front is never closed
  comment : (at : List ℕ) → Unclosed text at → BodyTurnFails profile text Syntax at
  -- a comment behind the closing brace is never closed
  comment_behind : (after at : List ℕ) → Skipped text (brace_word ++ after) → Unclosed after at → BodyTurnFails profile text Syntax at
  -- an entry fails
  entry : (here at : List ℕ) (kind : ScriptErrorKind) → Skipped text here → NotHere brace_word here → NotHere global_word here → NotHere local_word here
      → EntryFails profile here kind at → BodyTurnFails profile text kind at

-- a body
pub data BodyFails (profile : ScriptProfile) (text : List ℕ) : ScriptErrorKind → List ℕ → Type 0 where
  -- no `{`
  no_brace : NotHere open_word text → BodyFails profile text Syntax text
  -- behind it some turn fails
  inside : (inside at : List ℕ) (kind : ScriptErrorKind) (its : List Item) → text ≡ open_word ++ inside
      → RepeatFails (BodyTurn profile) (λ front. BodyTurnFails profile) [] its inside kind at → BodyFails profile text kind at

-- ---- named versions

-- none of the names is this one
abbrev pub IsUnknown : List (List ℕ) → List ℕ → Type 0
IsUnknown names name = (n : ℕ) → slice_get names n ≡ Some name → ⊥

-- a parent: its faults stand at its first byte
pub data ParentFails (front : List RawVersion) (text : List ℕ) : ScriptErrorKind → List ℕ → Type 0 where
  -- no semicolon comes
  endless : Without 59 text → ParentFails front text Syntax text
  -- no earlier version has its name
  unknown : (name after : List ℕ) → text ≡ name ++ 59 ∷ after → Without 59 name → 0 < length name → IsUnknown (raw_names front) name
      → ParentFails front text UnknownParentVersion text

-- the name of a version that there may still be, and what is behind it
pub record IsNameOfVersion (front : List RawVersion) (text name behind : List ℕ) : Type 0 where
  pub whole : text ≡ name ++ behind
  pub some : 0 < length name
  pub bytes : AreNameBytes name
  pub ends : EndsName behind
  pub room : length front ≢ most_versions

-- a named version behind the ones in front
pub data NamedFails (profile : ScriptProfile) (front : List RawVersion) (text : List ℕ) : ScriptErrorKind → List ℕ → Type 0 where
  -- no byte of a name
  no_name : EndsName text → NamedFails profile front text Syntax text
  -- a name, but already as many versions as there may be
  too_many : (c : ℕ) (rest : List ℕ) → text ≡ c ∷ rest → IsTrue (is_name_byte c) → length front ≡ most_versions → NamedFails profile front text TooManyVersions text
  -- a comment behind the name is never closed
  comment : (name behind at : List ℕ) → IsNameOfVersion front text name behind → Unclosed behind at → NamedFails profile front text Syntax at
  -- the body fails
  body : (name behind here at : List ℕ) (kind : ScriptErrorKind) → IsNameOfVersion front text name behind → Skipped behind here → BodyFails profile here kind at
      → NamedFails profile front text kind at
  -- the parent fails
  parent : (name behind here there at : List ℕ) (kind : ScriptErrorKind) (body : RawVersionBody) → IsNameOfVersion front text name behind → Skipped behind here
      → IsBody profile here body there → ParentFails front there kind at → NamedFails profile front text kind at
  -- a comment behind the parent's semicolon is never closed
  comment_behind : (name behind here there after at : List ℕ) (body : RawVersionBody) (parent : Option ℕ) → IsNameOfVersion front text name behind
      → Skipped behind here → IsBody profile here body there → IsParent front there parent after → Unclosed after at → NamedFails profile front text Syntax at

-- a version where the text has not ended
abbrev pub VersionTurnFails : ScriptProfile → List RawVersion → List ℕ → ScriptErrorKind → List ℕ → Type 0
VersionTurnFails profile front text kind at = (text ≢ []) × NamedFails profile front text kind at

-- ---- whole scripts

-- what should be the end of the text: only blanks and closed comments may stand there
pub data EndFails (text : List ℕ) : ScriptErrorKind → List ℕ → Type 0 where
  -- a comment is never closed
  comment : (at : List ℕ) → Unclosed text at → EndFails text Syntax at
  -- something more stands there
  more : (at : List ℕ) → Skipped text at → at ≢ [] → EndFails text Syntax at

-- a version script
pub data ScriptFails (profile : ScriptProfile) (text : List ℕ) : ScriptErrorKind → List ℕ → Type 0 where
  -- a comment in front is never closed
  comment : (at : List ℕ) → Unclosed text at → ScriptFails profile text Syntax at
  -- the anonymous form: its body fails
  body : (inside at : List ℕ) (kind : ScriptErrorKind) → Skipped text (open_word ++ inside) → BodyFails profile (open_word ++ inside) kind at → ScriptFails profile text kind at
  -- no semicolon stands behind the body
  no_semicolon : (here at : List ℕ) (body : RawVersionBody) → Skipped text here → IsBody profile here body at → NotHere semicolon_word at → ScriptFails profile text Syntax at
  -- behind the semicolon the text does not end
  behind : (here after at : List ℕ) (kind : ScriptErrorKind) (body : RawVersionBody) → Skipped text here → IsBody profile here body (semicolon_word ++ after)
      → EndFails after kind at → ScriptFails profile text kind at
  -- named versions: one of them fails
  version : (here at : List ℕ) (kind : ScriptErrorKind) (versions : List RawVersion) → Skipped text here → NotHere open_word here
      → RepeatFails (VersionTurn profile) (VersionTurnFails profile) [] versions here kind at → ScriptFails profile text kind at

-- ---- answers

-- The fault is one that the text has by the grammar, at its place. Want of memory meets anything.
abbrev pub IsFaultOf : (ScriptErrorKind → List ℕ → Type 0) → List ℕ → ScriptFault → Type 0
IsFaultOf fails text faults.Memory = Unit {0}
IsFaultOf fails text (faults.Text t) = (at : List ℕ) × fails t.kind at × (t.at + length at ≡ length text)

-- This fault is answered at its place, unless memory ran out.
abbrev pub IsRefusedWith : {X : Type 0} → ScriptErrorKind → List ℕ → List ℕ → Result X ScriptFault → Type 0
IsRefusedWith kind at text (Ok x) = ⊥
IsRefusedWith kind at text (Err faults.Memory) = Unit {0}
IsRefusedWith kind at text (Err (faults.Text t)) = (t.kind ≡ kind) × (t.at + length at ≡ length text)

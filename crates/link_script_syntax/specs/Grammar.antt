-- The grammar of version scripts (GNU ld, VERSION): which values a text spells, and what follows them.
use Rattle.std.specs.Prelude.{◌≡◌, ◌≢◌, ◌<◌, ℕ, suc, false, ◌==◌, if◌then◌else◌, IsTrue, List, [], ◌∷◌, ◌++◌, length, slice_get, Option, Some, None}
use Rattle.std.specs.List.{list_any}
use Rattle.link_script_syntax.specs.declared.body.Side.TheVariants.{Global, Local}
use Rattle.link_script_syntax.specs.declared.body.Item.{Item}
use Rattle.link_script_syntax.specs.declared.body.Item.TheVariants as items
use Rattle.link_script_syntax.specs.declared.body.RawVersionBody.{RawVersionBody}
use Rattle.link_script_syntax.specs.declared.named.RawVersion.{RawVersion}
use Rattle.link_script_syntax.specs.declared.matcher.SymbolMatcher.{SymbolMatcher}
use Rattle.link_script_syntax.specs.declared.matcher.ParsedSymbolMatcher.{ParsedSymbolMatcher}
use Rattle.link_script_syntax.specs.declared.matcher.ParsedSymbolMatcher.TheVariants.{Single, Multiple, CxxMatchers}
use Rattle.link_script_syntax.specs.declared.profile.ScriptProfile.{ScriptProfile}
use Rattle.link_script_syntax.specs.declared.profile.TokenEnd.{TokenEnd}
use Rattle.link_script_syntax.specs.declared.profile.TokenEnd.TheVariants.{Semicolon, Brace}
use Rattle.link_script_syntax.specs.declared.script.RawScript.{RawScript}
use Rattle.link_script_syntax.specs.declared.script.RawScript.TheVariants.{Anonymous, Named}
use Rattle.link_script_syntax.specs.Words.{extern_word, c_word, cxx_word, global_word, local_word, open_word, brace_word, close_word, semicolon_word}
use Rattle.link_script_syntax.specs.Blanks.{Skipped}
use Rattle.link_script_syntax.specs.Profile.{token_end}
use Rattle.link_script_syntax.specs.Token.{IsToken, Without}
use Rattle.link_script_syntax.specs.Body.{body_of}
use Rattle.link_script_syntax.specs.Named.{is_name_byte, raw_names, most_versions}

-- the text doesn't begin with the word
abbrev pub NotHere : List ℕ → List ℕ → Type 0
NotHere word text = (rest : List ℕ) → text ≡ word ++ rest → ⊥

-- Items, one after the other, and the end that a last turn reads. A turn may look at the items in front.
abbrev pub Repeats : {A : Type 0} → (List A → List ℕ → Option A → List ℕ → Type 0) → List A → List A → List ℕ → List ℕ → Type 0
Repeats turn front [] text rest = turn front text None rest
Repeats turn front (x ∷ xs) text rest = (after : List ℕ) × turn front text (Some x) after × Repeats turn (front ++ x ∷ []) xs after rest

-- no `};` in it
abbrev pub NoClose : List ℕ → Type 0
NoClose [] = Unit {0}
NoClose (c ∷ []) = Unit {0}
NoClose (c ∷ d ∷ rest) = ((c ≡ 125) × (d ≡ 59) → ⊥) × NoClose (d ∷ rest)

-- a semicolon where one stands in front of the closing `};`, and otherwise a brace
abbrev pub block_end : List ℕ → TokenEnd
block_end inner = if list_any (λ c. c == 59) inner then Semicolon else Brace

-- a name or pattern in a block: what is in front of the next `};` says which byte ends it
pub record IsBlockToken (text : List ℕ) (m : SymbolMatcher) (rest : List ℕ) : Type 0 where
  pub inner : List ℕ
  pub after : List ℕ
  pub whole : text ≡ inner ++ 125 ∷ 59 ∷ after
  pub first : NoClose inner
  pub token : IsToken (block_end inner) text m rest

-- in a block: `};` and the blanks behind it, or a name or pattern
abbrev pub BlockTurn : List SymbolMatcher → List ℕ → Option SymbolMatcher → List ℕ → Type 0
BlockTurn front text None rest = (after : List ℕ) × Skipped text (close_word ++ after) × Skipped after rest
BlockTurn front text (Some m) rest = (here : List ℕ) × Skipped text here × NotHere close_word here × NotHere extern_word here × IsBlockToken here m rest

-- an extern block of this language
abbrev pub IsExtern : List ℕ → List SymbolMatcher → List ℕ → List ℕ → Type 0
IsExtern language ms text rest = (behind inside : List ℕ) × (text ≡ extern_word ++ (language ++ behind)) × Skipped behind (open_word ++ inside) × Repeats BlockTurn [] ms inside rest

-- an entry: a name or pattern up to its end, or an extern block
abbrev pub IsEntry : ScriptProfile → List ℕ → ParsedSymbolMatcher → List ℕ → Type 0
IsEntry profile text (Single m) rest = NotHere extern_word text × IsToken (token_end profile) text m rest
IsEntry profile text (Multiple ms) rest = IsExtern c_word ms text rest
IsEntry profile text (CxxMatchers ms) rest = IsExtern cxx_word ms text rest

-- in a body: its brace and the blanks behind it, the head of a section, or an entry
abbrev pub BodyTurn : ScriptProfile → List Item → List ℕ → Option Item → List ℕ → Type 0
BodyTurn profile front text None rest = (after : List ℕ) × Skipped text (brace_word ++ after) × Skipped after rest
BodyTurn profile front text (Some (items.Side Global)) rest = Skipped text (global_word ++ rest)
BodyTurn profile front text (Some (items.Side Local)) rest = Skipped text (local_word ++ rest)
BodyTurn profile front text (Some (items.Entry e)) rest = (here : List ℕ) × Skipped text here × NotHere brace_word here × NotHere global_word here × NotHere local_word here × IsEntry profile here e rest

-- a body, whose entries are global up to the first head of a section
abbrev pub IsBody : ScriptProfile → List ℕ → RawVersionBody → List ℕ → Type 0
IsBody profile text body rest = (inside : List ℕ) × (its : List Item) × (text ≡ open_word ++ inside) × Repeats (BodyTurn profile) [] its inside rest × (body ≡ body_of its)

-- the first of the names that is this one has number n
abbrev pub IsFirstNamed : List (List ℕ) → List ℕ → ℕ → Type 0
IsFirstNamed names name n = (slice_get names n ≡ Some name) × ((j : ℕ) → j < n → slice_get names j ≡ Some name → ⊥)

-- no parent, or the number, from 1 on, of the first earlier version of that name
abbrev pub ParentIs : List RawVersion → List ℕ → Option ℕ → Type 0
ParentIs front [] parent = parent ≡ None
ParentIs front (c ∷ name) parent = (n : ℕ) × IsFirstNamed (raw_names front) (c ∷ name) n × (parent ≡ Some (suc n))

-- all bytes up to the next semicolon are the parent's name
abbrev pub IsParent : List RawVersion → List ℕ → Option ℕ → List ℕ → Type 0
IsParent front text parent rest = (name : List ℕ) × (text ≡ name ++ 59 ∷ rest) × Without 59 name × ParentIs front name parent

-- all bytes are bytes of a name
abbrev pub AreNameBytes : List ℕ → Type 0
AreNameBytes [] = Unit {0}
AreNameBytes (c ∷ name) = IsTrue (is_name_byte c) × AreNameBytes name

-- no further byte of a name
abbrev pub EndsName : List ℕ → Type 0
EndsName [] = Unit {0}
EndsName (c ∷ rest) = is_name_byte c ≡ false

-- a named version behind the ones in front, of which there are not yet as many as there may be
pub record IsNamed (profile : ScriptProfile) (front : List RawVersion) (text : List ℕ) (v : RawVersion) (rest : List ℕ) : Type 0 where
  pub behind : List ℕ
  pub at_body : List ℕ
  pub at_parent : List ℕ
  pub at_end : List ℕ
  pub whole : text ≡ v.name ++ behind
  pub some : 0 < length v.name
  pub name : AreNameBytes v.name
  pub ends : EndsName behind
  pub room : length front ≢ most_versions
  pub blanks : Skipped behind at_body
  pub body : IsBody profile at_body v.body at_parent
  pub parent : IsParent front at_parent v.parent_index at_end
  pub end : Skipped at_end rest

-- named versions up to the end of the text
abbrev pub VersionTurn : ScriptProfile → List RawVersion → List ℕ → Option RawVersion → List ℕ → Type 0
VersionTurn profile front text None rest = (text ≡ []) × (rest ≡ [])
VersionTurn profile front text (Some v) rest = IsNamed profile front text v rest

-- a version script: a body, a semicolon and the end of the text, or named versions
abbrev pub IsVersionScript : ScriptProfile → List ℕ → RawScript → Type 0
IsVersionScript profile text (Anonymous body) = (here behind : List ℕ) × Skipped text here × IsBody profile here body (semicolon_word ++ behind) × Skipped behind []
IsVersionScript profile text (Named versions) = (here : List ℕ) × Skipped text here × NotHere open_word here × Repeats (VersionTurn profile) [] versions here []

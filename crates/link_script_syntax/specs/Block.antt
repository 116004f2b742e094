-- Extern blocks.
use Rattle.std.specs.Prelude.{◌≡◌, ◌≤◌, ℕ, suc, ◌-◌, Bool, false, List, [], ◌∷◌, length, take, nat_lt, ◌==◌, ◌&&◌, if◌then◌else◌, Option, Some, None, Result, Ok, position}
use Rattle.std.specs.List.{suffix_len, position_or_len}
use Rattle.std.specs.Option.{option_map}
use Rattle.link_script_syntax.specs.declared.fault.Language.{Language}
use Rattle.link_script_syntax.specs.declared.fault.Language.TheVariants as languages
use Rattle.link_script_syntax.specs.declared.fault.Fault.{Fault}
use Rattle.link_script_syntax.specs.declared.fault.ScriptErrorKind.{ScriptErrorKind}
use Rattle.link_script_syntax.specs.declared.fault.ScriptErrorKind.TheVariants.{Syntax, UnexpectedExtern, UnsupportedExtern}
use Rattle.link_script_syntax.specs.declared.matcher.SymbolMatcher.{SymbolMatcher}
use Rattle.link_script_syntax.specs.Fault.{◌>>=◌, refuse}
use Rattle.link_script_syntax.specs.Words.{extern_word, cxx_word, c_word, close_word}
use Rattle.link_script_syntax.specs.Skip.{skip, strips, is_blank, begins_with}
use Rattle.link_script_syntax.specs.declared.profile.TokenEnd.TheVariants.{Semicolon, Brace}
use Rattle.link_script_syntax.specs.Token.{token_at}
use Rattle.link_script_syntax.specs.Many.{many}

-- the choice where there is one, and else the other value
abbrev pub or_else : {A B : Type 0} → Option A → (A → B) → B → B
or_else None f y = y
or_else (Some x) f y = f x

-- `"C++"` or `"C"`
unfoldable pub language_at : List ℕ → Option (Language × List ℕ)
language_at text =
    or_else (strips cxx_word text) (λ rest. Some (languages.Cxx, rest))
    (or_else (strips c_word text) (λ rest. Some (languages.C, rest)) None)

-- without the blanks at the end
abbrev pub without_blanks : List ℕ → List ℕ
without_blanks bytes = take (length bytes - suffix_len is_blank bytes) bytes

-- the bytes that stand in the place of a language: up to the first `{`, or all, without the blanks at the end
unfoldable pub extern_text : List ℕ → List ℕ
extern_text text = without_blanks (take (position_or_len (λ c. c == 123) text) text)

-- an `extern` in a block: its language, or the bytes in that place
unfoldable pub inner_extern : List ℕ → ScriptErrorKind
inner_extern text = or_else (language_at text) (λ x. UnexpectedExtern x.0) (UnsupportedExtern (extern_text text))

-- whether `};` stands here
abbrev pub is_close : ℕ → List ℕ → Bool
is_close c after = c == 125 && begins_with after 59

-- where `};` stands first
abbrev pub close_place : List ℕ → Option ℕ
close_place [] = None
close_place (c ∷ rest) = if is_close c rest then Some 0 else option_map (λ n. suc n) (close_place rest)

-- A `};` that was found with so many bytes left is the first one, as long as the text has not passed it.
abbrev pub StillFirst : Option ℕ → List ℕ → Type 0
StillFirst None text = Unit {0}
StillFirst (Some left) text = left ≤ length text → close_place text ≡ Some (length text - left)

-- whether a semicolon stands in front of this place
abbrev pub semicolon_before : List ℕ → ℕ → Bool
semicolon_before text place = or_else (position (λ c. c == 59) text) (λ at. nat_lt at place) false

-- one item more
abbrev pub item : {A : Type 0} → A × List ℕ → Option A × List ℕ
item x = (Some x.0, x.1)

-- a token up to a `;` before the next `};`, else up to a `}`
abbrev pub closed_token : List ℕ → ℕ → Result (Option SymbolMatcher × List ℕ) Fault
closed_token text place = token_at (if semicolon_before text place then Semicolon else Brace) text >>= λ m. Ok (Some m.0, m.1)

-- the first of these that applies: the block's end, a further `extern`, no end at all, a token
unfoldable pub block_turn : List ℕ → Result (Option SymbolMatcher × List ℕ) Fault
block_turn text = skip text >>= λ text.
    or_else (strips close_word text) (λ rest. skip rest >>= λ after. Ok (None, after))
    (or_else (strips extern_word text) (λ rest. refuse (inner_extern rest) text)
    (or_else (close_place text) (λ place. closed_token text place) (refuse Syntax text)))

-- the matchers of a block, and what follows it
unfoldable pub block_at : List ℕ → Result (List SymbolMatcher × List ℕ) Fault
block_at text = many block_turn text

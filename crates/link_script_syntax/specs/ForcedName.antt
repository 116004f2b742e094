-- A name that is exported by an option: an entry that stands alone.
use Rattle.std.specs.Prelude.{ℕ, Bool, true, false, List, length, take, ◌==◌, if◌then◌else◌, Option, Some, None, Result, Ok, position}
use Rattle.link_script_syntax.specs.declared.fault.Fault.{Fault}
use Rattle.link_script_syntax.specs.declared.fault.ScriptErrorKind.TheVariants.{Syntax}
use Rattle.link_script_syntax.specs.declared.matcher.SymbolMatcher.{SymbolMatcher}
use Rattle.link_script_syntax.specs.declared.matcher.ParsedSymbolMatcher.{ParsedSymbolMatcher}
use Rattle.link_script_syntax.specs.declared.matcher.ParsedSymbolMatcher.TheVariants.{Single}
use Rattle.link_script_syntax.specs.declared.profile.ScriptProfile.TheVariants.{Wild}
use Rattle.link_script_syntax.specs.Words.{extern_word}
use Rattle.link_script_syntax.specs.Fault.{◌>>=◌, refuse}
use Rattle.link_script_syntax.specs.Skip.{strips}
use Rattle.link_script_syntax.specs.Token.{trimmed, matcher_of}
use Rattle.link_script_syntax.specs.Block.{or_else}
use Rattle.link_script_syntax.specs.Entry.{extern_at, entry_at}

-- the bytes before a `}` at this place, at least one, or the whole text where there is none
abbrev pub forced_until : List ℕ → Option ℕ → Result SymbolMatcher Fault
forced_until text None = matcher_of (length text) (trimmed text)
forced_until text (Some end) = if end == 0 then refuse Syntax text else matcher_of (length text) (trimmed (take end text))

-- a name or pattern that needs no semicolon
unfoldable pub forced_token : List ℕ → Result SymbolMatcher Fault
forced_token text = forced_until text (position (λ c. c == 125) text)

-- an extern block, or a token that needs no `;`; nothing is skipped before it, and what follows it is not read
unfoldable pub forced_name : List ℕ → Result ParsedSymbolMatcher Fault
forced_name text =
    or_else (strips extern_word text) (λ rest. extern_at rest >>= λ e. Ok e.0)
    (forced_token text >>= λ m. Ok (Single m))

-- the entry that a text adds to a list, without the `;` that an entry of a list has, or with it
unfoldable pub added_entry : Bool → List ℕ → Result ParsedSymbolMatcher Fault
added_entry true text = forced_name text
added_entry false text = entry_at Wild text >>= λ e. Ok e.0

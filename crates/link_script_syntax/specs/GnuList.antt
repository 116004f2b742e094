-- GNU export lists: entries between braces, as GNU ld reads the files of `--dynamic-list`.
use Rattle.std.specs.Prelude.{ℕ, List, Option, Some, None, Result, Ok}
use Rattle.link_script_syntax.specs.declared.fault.Fault.{Fault}
use Rattle.link_script_syntax.specs.declared.fault.ScriptErrorKind.TheVariants.{Syntax}
use Rattle.link_script_syntax.specs.declared.matcher.ParsedSymbolMatcher.{ParsedSymbolMatcher}
use Rattle.link_script_syntax.specs.Words.{open_word, close_word}
use Rattle.link_script_syntax.specs.declared.profile.ScriptProfile.{ScriptProfile}
use Rattle.link_script_syntax.specs.Fault.{◌>>=◌, refuse}
use Rattle.link_script_syntax.specs.Skip.{skip, strips}
use Rattle.link_script_syntax.specs.Block.{or_else}
use Rattle.link_script_syntax.specs.Entry.{entry_at}
use Rattle.link_script_syntax.specs.Many.{many}
use Rattle.link_script_syntax.specs.Script.{to_end}

-- one turn of a list: its end at `};`, or an entry
unfoldable pub list_turn : ScriptProfile → List ℕ → Result (Option ParsedSymbolMatcher × List ℕ) Fault
list_turn profile text = skip text >>= λ text.
    or_else (strips close_word text) (λ rest. Ok (None, rest))
    (entry_at profile text >>= λ e. Ok (Some e.0, e.1))

-- the entries up to the end of the list, and what follows it
unfoldable pub gnu_entries : ScriptProfile → List ℕ → Result (List ParsedSymbolMatcher × List ℕ) Fault
gnu_entries profile text = many (list_turn profile) text

-- a `{`, the entries, and nothing behind their end
unfoldable pub gnu_list : ScriptProfile → List ℕ → Result (List ParsedSymbolMatcher) Fault
gnu_list profile text = skip text >>= λ text.
    or_else (strips open_word text) (λ rest. gnu_entries profile rest >>= λ entries. to_end entries.0 entries.1) (refuse Syntax text)

-- Entries.
use Rattle.std.specs.Prelude.{◌≡◌, ◌+◌, ℕ, List, length, Result, Ok, Err}
use Rattle.link_script_syntax.specs.declared.fault.Language.{Language}
use Rattle.link_script_syntax.specs.declared.fault.Language.TheVariants as languages
use Rattle.link_script_syntax.specs.declared.fault.Fault.{Fault}
use Rattle.link_script_syntax.specs.declared.fault.ScriptErrorKind.TheVariants.{Syntax, UnsupportedExtern}
use Rattle.link_script_syntax.specs.declared.matcher.SymbolMatcher.{SymbolMatcher}
use Rattle.link_script_syntax.specs.declared.matcher.ParsedSymbolMatcher.{ParsedSymbolMatcher}
use Rattle.link_script_syntax.specs.declared.matcher.ParsedSymbolMatcher.TheVariants.{Single, Multiple, CxxMatchers}
use Rattle.link_script_syntax.specs.declared.fault.ScriptFault.{ScriptFault}
use Rattle.link_script_syntax.specs.declared.fault.ScriptFault.TheVariants as faults
use Rattle.link_script_syntax.specs.Fault.{◌>>=◌, refuse, Refuses}
use Rattle.link_script_syntax.specs.Words.{extern_word, open_word}
use Rattle.link_script_syntax.specs.Skip.{skip, strips}
use Rattle.link_script_syntax.specs.declared.profile.ScriptProfile.{ScriptProfile}
use Rattle.link_script_syntax.specs.Profile.{token_end}
use Rattle.link_script_syntax.specs.Token.{token_at}
use Rattle.link_script_syntax.specs.Block.{or_else, language_at, extern_text, block_at}

-- the entry that a block of this language is
abbrev pub of_language : Language → List SymbolMatcher → ParsedSymbolMatcher
of_language languages.C ms = Multiple ms
of_language languages.Cxx ms = CxxMatchers ms

-- behind the language of a block
abbrev pub extern_block : Language → List ℕ → Result (ParsedSymbolMatcher × List ℕ) Fault
extern_block language text = skip text >>= λ text.
    or_else (strips open_word text) (λ rest. block_at rest >>= λ ms. Ok (of_language language ms.0, ms.1)) (refuse Syntax text)

-- behind `extern `
unfoldable pub extern_at : List ℕ → Result (ParsedSymbolMatcher × List ℕ) Fault
extern_at text = or_else (language_at text) (λ l. extern_block l.0 l.1) (refuse (UnsupportedExtern (extern_text text)) text)

-- an extern block, or a name or pattern up to its end
unfoldable pub entry_at : ScriptProfile → List ℕ → Result (ParsedSymbolMatcher × List ℕ) Fault
entry_at profile text = or_else (strips extern_word text) (λ rest. extern_at rest) (token_at (token_end profile) text >>= λ m. Ok (Single m.0, m.1))

-- the entry and the place behind it, or the fault at its place, unless memory ran out
abbrev pub ReadsEntry : List ℕ → Result (ParsedSymbolMatcher × ℕ) ScriptFault → Result (ParsedSymbolMatcher × List ℕ) Fault → Type 0
ReadsEntry text (Ok x) read = (rest : List ℕ) × (read ≡ Ok (x.0, rest)) × (x.1 + length rest ≡ length text)
ReadsEntry text (Err e) read = Refuses e text read

-- this entry and the place behind it, unless memory ran out
abbrev pub EntryIs : List ℕ → ParsedSymbolMatcher → List ℕ → Result (ParsedSymbolMatcher × ℕ) ScriptFault → Type 0
EntryIs text entry rest (Ok x) = (x.0 ≡ entry) × (x.1 + length rest ≡ length text)
EntryIs text entry rest (Err faults.Memory) = Unit {0}
EntryIs text entry rest (Err (faults.Text t)) = ⊥

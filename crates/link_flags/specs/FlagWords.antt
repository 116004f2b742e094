-- Words of flags, one for each symbol.
use Rattle.std.specs.Prelude.{ℕ, List, map, slice_index_or, slice_set}
use Rattle.std.specs.Int.RustNames.{bit_or}
use Rattle.std.specs.Borrow.{Lends, MutBor, Fml, Array}
use Rattle.std.specs.Vec.{vec_capacity, with_items}
use Rattle.link_flags.specs.declared.value_flags.RawFlags.{RawFlags}
use Rattle.link_flags.specs.declared.per_symbol_flags.PerSymbolFlags.{PerSymbolFlags}
use Rattle.link_flags.specs.contracts.per_symbol_flags.PerSymbolFlags as flags_row
use Rattle.link_flags.specs.contracts.value_flags.RawFlags as word_row

-- the words, in the order of the symbols
abbrev pub words_of : PerSymbolFlags → List RawFlags
words_of f = f.words.items

-- the flags that words keep, as numbers
abbrev pub numbers_of : List RawFlags → List ℕ
numbers_of words = map (λ w. w.0) words

-- how many words there is room for
abbrev pub room_of : PerSymbolFlags → ℕ
room_of f = vec_capacity f.words

-- the bits of a symbol that has a word
abbrev pub bits_at : List RawFlags → ℕ → ℕ
bits_at words symbol = (slice_index_or words symbol (record { 0 = 0 })).0

-- the words after bits were added to those of a symbol
abbrev pub with_flag : List RawFlags → ℕ → ℕ → List RawFlags
with_flag words symbol bits = slice_set words symbol (record { 0 = bit_or (bits_at words symbol) bits })

-- f with other words
abbrev pub with_words : PerSymbolFlags → List RawFlags → PerSymbolFlags
with_words f ws = record f { words = with_items f.words ws }

-- f ends with the words that are last behind r
abbrev pub LendsWords : MutBor PerSymbolFlags → MutBor (List RawFlags) → Fml
LendsWords f r = Lends flags_row.the_row (Array word_row.the_row 0) f r (with_words f.now)

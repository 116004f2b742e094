-- The words of scripts, as bytes.
use Rattle.std.specs.Prelude.{ℕ, List, [], ◌∷◌}
use Rattle.link_script_syntax.specs.declared.fault.Language.{Language}
use Rattle.link_script_syntax.specs.declared.fault.Language.TheVariants.{C, Cxx}

-- `extern ` with its blank
abbrev pub extern_word : List ℕ
extern_word = 101 ∷ 120 ∷ 116 ∷ 101 ∷ 114 ∷ 110 ∷ 32 ∷ []

-- `"C"`
abbrev pub c_word : List ℕ
c_word = 34 ∷ 67 ∷ 34 ∷ []

-- `"C++"`
abbrev pub cxx_word : List ℕ
cxx_word = 34 ∷ 67 ∷ 43 ∷ 43 ∷ 34 ∷ []

-- a language, as an extern block names it
abbrev pub word_of : Language → List ℕ
word_of C = c_word
word_of Cxx = cxx_word

-- `global:`
abbrev pub global_word : List ℕ
global_word = 103 ∷ 108 ∷ 111 ∷ 98 ∷ 97 ∷ 108 ∷ 58 ∷ []

-- `local:`
abbrev pub local_word : List ℕ
local_word = 108 ∷ 111 ∷ 99 ∷ 97 ∷ 108 ∷ 58 ∷ []

-- `{`
abbrev pub open_word : List ℕ
open_word = 123 ∷ []

-- `}`
abbrev pub brace_word : List ℕ
brace_word = 125 ∷ []

-- `};`
abbrev pub close_word : List ℕ
close_word = 125 ∷ 59 ∷ []

-- `;`
abbrev pub semicolon_word : List ℕ
semicolon_word = 59 ∷ []

-- `*`
abbrev pub star_word : List ℕ
star_word = 42 ∷ []

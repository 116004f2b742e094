-- How the fault of a script is shown.
use Rattle.std.specs.Prelude.{ℕ, List, [], ◌∷◌, ◌++◌, codes, decimal}
use Rattle.link_names.specs.NameText.{name_text}
use Rattle.link_script_syntax.specs.declared.fault.Language.{Language}
use Rattle.link_script_syntax.specs.declared.fault.Language.TheVariants.{C, Cxx}
use Rattle.link_script_syntax.specs.declared.fault.ScriptErrorKind.{ScriptErrorKind}
use Rattle.link_script_syntax.specs.declared.fault.ScriptErrorKind.TheVariants as kinds
use Rattle.link_script_syntax.specs.declared.fault.ScriptError.{ScriptError}

-- the name of a language
abbrev pub language_text : Language → List ℕ
language_text C = codes "C"
language_text Cxx = codes "C++"

-- a text between quotes
abbrev pub quoted : List ℕ → List ℕ
quoted text = (34 ∷ []) ++ text ++ (34 ∷ [])

-- what is wrong, in words
abbrev pub kind_text : ScriptErrorKind → List ℕ
kind_text kinds.Syntax = codes "Syntax error"
kind_text kinds.InvalidUtf8String = codes "Invalid utf-8 string"
kind_text kinds.InvalidGlobPattern = codes "Invalid glob pattern"
kind_text kinds.UnknownParentVersion = codes "Unknown parent version"
kind_text (kinds.UnexpectedExtern language) = codes "Unexpected extern " ++ quoted (language_text language) ++ codes " in parsing"
kind_text (kinds.UnsupportedExtern bytes) = codes "Unsupported extern " ++ quoted (name_text bytes)
kind_text kinds.TooManyVersions = codes "Too many versions"

-- the kind and the place
abbrev pub error_text : ScriptError → List ℕ
error_text error = kind_text error.kind ++ codes " at " ++ decimal error.at

-- The form of script that the Rust compiler writes: some names are global, and everything else is local.
use Rattle.std.specs.Prelude.{◌≡◌, ℕ, Bool, true, false, ◌&&◌, List, Option, Some, None, is_some, Result, Ok, Err}
use Rattle.std.specs.List.{list_any, list_all, filter_map}
use Rattle.link_script_syntax.specs.declared.matcher.SymbolMatcher.{SymbolMatcher}
use Rattle.link_script_syntax.specs.declared.matcher.SymbolMatcher.TheVariants.{Exact, MatchesAll}
use Rattle.link_script_syntax.specs.declared.matcher.ParsedSymbolMatcher.{ParsedSymbolMatcher}
use Rattle.link_script_syntax.specs.declared.matcher.ParsedSymbolMatcher.TheVariants.{Single}
use Rattle.link_script_syntax.specs.declared.body.RawVersionBody.{RawVersionBody}
use Rattle.link_script.specs.declared.rust_form.RustVersionScript.{RustVersionScript}
use Rattle.link_script.specs.declared.rust_form.RustFormError.{RustFormError}
use Rattle.link_script.specs.declared.rust_form.RustFormError.TheVariants as errors

-- a bare star outside extern blocks
abbrev pub is_bare_star : ParsedSymbolMatcher → Bool
is_bare_star (Single MatchesAll) = true
is_bare_star entry = false

-- the name of a pattern, quoted or not, that was written without backslashes
abbrev pub plain_name : SymbolMatcher → Option (List ℕ)
plain_name (Exact name) = Some name
plain_name matcher = None

-- the name of an entry that is one name, outside extern blocks
abbrev pub exact_name : ParsedSymbolMatcher → Option (List ℕ)
exact_name (Single matcher) = plain_name matcher
exact_name entry = None

abbrev pub is_exact_name : ParsedSymbolMatcher → Bool
is_exact_name entry = is_some (exact_name entry)

-- some local entry hides everything, and each global entry is one name
abbrev pub is_rust_form : RawVersionBody → Bool
is_rust_form body = list_any is_bare_star body.locals && list_all is_exact_name body.globals

-- the names of the entries that are one name, in order
abbrev pub listed_names : List ParsedSymbolMatcher → List (List ℕ)
listed_names entries = filter_map exact_name entries

-- the names that the body lists, or the body as it was where it isn't of the form
abbrev pub IsRustScript : RawVersionBody → Result RustVersionScript RustFormError → Type 0
IsRustScript body (Ok script) = (is_rust_form body ≡ true) × (script.global ≡ listed_names body.globals)
IsRustScript body (Err (errors.Body back)) = (is_rust_form body ≡ false) × (back ≡ body)
IsRustScript body (Err errors.Memory) = Unit {0}

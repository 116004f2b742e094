-- What the text of an export list says, whatever its form.
use Rattle.std.specs.Prelude.{ℕ, List, [], ◌∷◌, Result, Ok}
use Rattle.link_script.specs.declared.export_list.ExportList.{ExportList}
use Rattle.link_script_syntax.specs.declared.fault.Fault.{Fault}
use Rattle.link_script_syntax.specs.declared.matcher.ParsedSymbolMatcher.{ParsedSymbolMatcher}
use Rattle.link_script_syntax.specs.declared.matcher.ParsedSymbolMatcher.TheVariants.{Multiple}
use Rattle.link_script_syntax.specs.declared.profile.ScriptProfile.{ScriptProfile}
use Rattle.link_script.specs.ExportList.{IsListOf}
use Rattle.link_script_syntax.specs.Fault.{◌>>=◌}
use Rattle.link_script_syntax.specs.GnuList.{gnu_list}
use Rattle.link_script_syntax.specs.MachoList.{macho_list, exact_names}

-- what an export list says: its entries, and the names that must be defined
pub record ListedNames : Type 0 where
  pub entries : List ParsedSymbolMatcher
  pub required : List (List ℕ)

-- the list of no names
abbrev pub no_names : ListedNames
no_names = record { entries = []; required = [] }

-- a list of GNU ld requires no name
abbrev pub gnu_names : ScriptProfile → List ℕ → Result ListedNames Fault
gnu_names profile text = gnu_list profile text >>= λ entries. Ok (record { entries = entries; required = [] })

-- a list of Mach-O requires the names that stand in it as they are
abbrev pub macho_names : List ℕ → Result ListedNames Fault
macho_names text = macho_list text >>= λ lines. Ok (record { entries = Multiple lines ∷ []; required = exact_names lines })

-- the list has exactly the filters that are said, and requires the names that are
abbrev pub IsListNamed : ListedNames → ExportList → Type 0
IsListNamed names list = IsListOf names.entries names.required list

use Rattle.std.proofs.Common.{◌≡◌, ℕ, List, [], ◌∷◌, Result, Ok, Err, IfOk, refl, rules}
use Rattle.link_script.specs.declared.export_list.ExportList.{ExportList}
use Rattle.link_script_syntax.specs.declared.fault.ScriptFault.{ScriptFault}
use Rattle.link_script_syntax.specs.declared.matcher.ParsedSymbolMatcher.TheVariants.{Multiple}
use Rattle.link_script.specs.ExportList.{IsMachoList}
use Rattle.link_script.specs.ListedNames.{ListedNames, IsListNamed, macho_names}
use Rattle.link_script_syntax.specs.MachoList.{exact_names}
use Rattle.link_input.proofs.platform.MachLikePlatform.parse_export_list.Goals as goal

-- a list that is read as one of Mach-O is what the text says
read-list : (r : Result ExportList ScriptFault) (text : List ℕ) → IfOk r (λ list. IsMachoList text list) → IfOk r (λ list. (names : ListedNames) × (macho_names text ≡ Ok names) × IsListNamed names list)
read-list (Ok list) text is = (record { entries = Multiple is.0 ∷ []; required = exact_names is.0 }, rw is.1 refl, is.2)
read-list (Err error) text is = tt

pub returns-clause-read : goal.returns-clause-read
returns-clause-read c = search (rules, read-list)

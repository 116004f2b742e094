use Rattle.std.proofs.Common.{◌≡◌, ℕ, List, [], Result, Ok, Err, IfOk, refl, rules}
use Rattle.link_script.specs.declared.export_list.ExportList.{ExportList}
use Rattle.link_script_syntax.specs.declared.fault.ScriptFault.{ScriptFault}
use Rattle.link_script_syntax.specs.declared.profile.ScriptProfile.{ScriptProfile}
use Rattle.link_script.specs.ExportList.{IsGnuList}
use Rattle.link_script.specs.ListedNames.{ListedNames, IsListNamed, gnu_names}
use Rattle.link_input.proofs.platform.ElfLikePlatform.parse_export_list.Goals as goal

-- a list that is read as one of GNU ld is what the text says
read-list : (r : Result ExportList ScriptFault) (profile : ScriptProfile) (text : List ℕ) → IfOk r (λ list. IsGnuList profile text list) → IfOk r (λ list. (names : ListedNames) × (gnu_names profile text ≡ Ok names) × IsListNamed names list)
read-list (Ok list) profile text is = (record { entries = is.0; required = [] }, rw is.1 refl, is.2)
read-list (Err error) profile text is = tt

pub returns-clause-read : goal.returns-clause-read
returns-clause-read c = search (rules, read-list)

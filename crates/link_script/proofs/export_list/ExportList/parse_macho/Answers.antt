use Rattle.link_script_syntax.specs.MachoGrammar.{IsMachoList, MachoFails}
use Rattle.link_script_syntax.specs.MachoList.{macho_list}
use Rattle.link_script_syntax.proofs.MachoLaws.{macho_judged}
use Rattle.link_script.proofs.Refused.{is_fault, is_refused, macho_read}
use Rattle.link_script.proofs.export_list.ExportList.parse_macho.Goals as goal

pub returns-clause-faulty : goal.returns-clause-faulty
returns-clause-faulty c = let t = c.args.text.now in is_fault t (macho_list t) (IsMachoList t) (MachoFails t) (macho_judged t) c.read_macho.result c.read_macho.ensures.refused

pub returns-clause-refuses : goal.returns-clause-refuses
returns-clause-refuses c = let t = c.args.text.now in is_refused t (macho_list t) (IsMachoList t) (MachoFails t) (macho_judged t) c.read_macho.result (macho_read t c.read_macho.result c.read_macho.ensures.read) c.read_macho.ensures.refused

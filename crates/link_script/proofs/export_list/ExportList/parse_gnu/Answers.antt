use Rattle.link_script_syntax.specs.GnuList.{gnu_list}
use Rattle.link_script_syntax.specs.ListFaults.{ListFails}
use Rattle.link_script_syntax.specs.ListGrammar.{IsExportList}
use Rattle.link_script_syntax.proofs.ListLaws.{list_judged}
use Rattle.link_script.proofs.Refused.{is_fault, is_refused, gnu_read}
use Rattle.link_script.proofs.export_list.ExportList.parse_gnu.Goals as goal

pub returns-clause-faulty : goal.returns-clause-faulty
returns-clause-faulty c = let p = c.args.profile in let t = c.args.text.now in is_fault t (gnu_list p t) (IsExportList p t) (ListFails p t) (list_judged p t) c.read_gnu.result c.read_gnu.ensures.refused

pub returns-clause-refuses : goal.returns-clause-refuses
returns-clause-refuses c = let p = c.args.profile in let t = c.args.text.now in is_refused t (gnu_list p t) (IsExportList p t) (ListFails p t) (list_judged p t) c.read_gnu.result (gnu_read p t c.read_gnu.result c.read_gnu.ensures.read) c.read_gnu.ensures.refused

use Rattle.link_script_syntax.specs.GnuList.{gnu_list}
use Rattle.link_script_syntax.specs.ListFaults.{ListFails}
use Rattle.link_script_syntax.specs.ListGrammar.{IsExportList}
use Rattle.link_script_syntax.proofs.Answered.{answers_found, answers_only, answers_refused, answers_refuses}
use Rattle.link_script_syntax.proofs.ListLaws.{list_judged}
use Rattle.link_script_syntax.proofs.gnu_list.read_gnu_list.Goals as goal

pub returns-clause-found : goal.returns-clause-found
returns-clause-found c = let p = c.args.profile in let t = c.args.text.now in answers_found t (gnu_list p t) (IsExportList p t) (ListFails p t) (list_judged p t) c.read_list.result c.read_list.ensures.reads

pub returns-clause-only : goal.returns-clause-only
returns-clause-only c = let p = c.args.profile in let t = c.args.text.now in answers_only t (gnu_list p t) (IsExportList p t) (ListFails p t) (list_judged p t) c.read_list.result c.read_list.ensures.reads

pub returns-clause-refused : goal.returns-clause-refused
returns-clause-refused c = let p = c.args.profile in let t = c.args.text.now in answers_refused t (gnu_list p t) (IsExportList p t) (ListFails p t) (list_judged p t) c.read_list.result c.read_list.ensures.reads

pub returns-clause-refuses : goal.returns-clause-refuses
returns-clause-refuses c = let p = c.args.profile in let t = c.args.text.now in answers_refuses t (gnu_list p t) (IsExportList p t) (ListFails p t) (list_judged p t) c.read_list.result c.read_list.ensures.reads

use Rattle.link_script_syntax.specs.MachoGrammar.{IsMachoList, MachoFails}
use Rattle.link_script_syntax.specs.MachoList.{macho_list}
use Rattle.link_script_syntax.proofs.Answered.{answers_found, answers_only, answers_refused, answers_refuses}
use Rattle.link_script_syntax.proofs.MachoLaws.{macho_judged}
use Rattle.link_script_syntax.proofs.macho_list.read_macho_list.Goals as goal

pub returns-clause-found : goal.returns-clause-found
returns-clause-found c = let t = c.args.text.now in answers_found t (macho_list t) (IsMachoList t) (MachoFails t) (macho_judged t) c.read_lines.result c.read_lines.ensures.reads

pub returns-clause-only : goal.returns-clause-only
returns-clause-only c = let t = c.args.text.now in answers_only t (macho_list t) (IsMachoList t) (MachoFails t) (macho_judged t) c.read_lines.result c.read_lines.ensures.reads

pub returns-clause-refused : goal.returns-clause-refused
returns-clause-refused c = let t = c.args.text.now in answers_refused t (macho_list t) (IsMachoList t) (MachoFails t) (macho_judged t) c.read_lines.result c.read_lines.ensures.reads

pub returns-clause-refuses : goal.returns-clause-refuses
returns-clause-refuses c = let t = c.args.text.now in answers_refuses t (macho_list t) (IsMachoList t) (MachoFails t) (macho_judged t) c.read_lines.result c.read_lines.ensures.reads

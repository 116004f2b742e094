use Rattle.link_script_syntax.specs.ForcedName.{added_entry}
use Rattle.link_script_syntax.specs.ListFaults.{AddedFails}
use Rattle.link_script_syntax.specs.ListGrammar.{IsAddedEntry}
use Rattle.link_script_syntax.proofs.Answered.{answers_found, answers_only, answers_refused, answers_refuses}
use Rattle.link_script_syntax.proofs.ListLaws.{added_judged}
use Rattle.link_script_syntax.proofs.forced_name.read_added_entry.Goals as goal

pub returns-clause-found : goal.returns-clause-found
returns-clause-found c = let w = c.args.without_semicolon in let t = c.args.text.now in answers_found t (added_entry w t) (IsAddedEntry w t) (AddedFails w t) (added_judged w t) c.read_entry.result c.read_entry.ensures.reads

pub returns-clause-only : goal.returns-clause-only
returns-clause-only c = let w = c.args.without_semicolon in let t = c.args.text.now in answers_only t (added_entry w t) (IsAddedEntry w t) (AddedFails w t) (added_judged w t) c.read_entry.result c.read_entry.ensures.reads

pub returns-clause-refused : goal.returns-clause-refused
returns-clause-refused c = let w = c.args.without_semicolon in let t = c.args.text.now in answers_refused t (added_entry w t) (IsAddedEntry w t) (AddedFails w t) (added_judged w t) c.read_entry.result c.read_entry.ensures.reads

pub returns-clause-refuses : goal.returns-clause-refuses
returns-clause-refuses c = let w = c.args.without_semicolon in let t = c.args.text.now in answers_refuses t (added_entry w t) (IsAddedEntry w t) (AddedFails w t) (added_judged w t) c.read_entry.result c.read_entry.ensures.reads

use Rattle.link_script_syntax.specs.Faults.{ScriptFails}
use Rattle.link_script_syntax.specs.Grammar.{IsVersionScript}
use Rattle.link_script_syntax.specs.Script.{script_at}
use Rattle.link_script_syntax.proofs.Answered.{answers_found, answers_only, answers_refused, answers_refuses}
use Rattle.link_script_syntax.proofs.ScriptLaws.{script_judged}
use Rattle.link_script_syntax.proofs.script.RawScript.parse.Goals as goal

pub returns-clause-found : goal.returns-clause-found
returns-clause-found c = let p = c.args.profile in let t = c.args.text.now in answers_found t (script_at p t) (IsVersionScript p t) (ScriptFails p t) (script_judged p t) c.read_script.result c.read_script.ensures.reads

pub returns-clause-only : goal.returns-clause-only
returns-clause-only c = let p = c.args.profile in let t = c.args.text.now in answers_only t (script_at p t) (IsVersionScript p t) (ScriptFails p t) (script_judged p t) c.read_script.result c.read_script.ensures.reads

pub returns-clause-refused : goal.returns-clause-refused
returns-clause-refused c = let p = c.args.profile in let t = c.args.text.now in answers_refused t (script_at p t) (IsVersionScript p t) (ScriptFails p t) (script_judged p t) c.read_script.result c.read_script.ensures.reads

pub returns-clause-refuses : goal.returns-clause-refuses
returns-clause-refuses c = let p = c.args.profile in let t = c.args.text.now in answers_refuses t (script_at p t) (IsVersionScript p t) (ScriptFails p t) (script_judged p t) c.read_script.result c.read_script.ensures.reads

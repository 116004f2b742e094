use Rattle.link_script.proofs.Answered.{parse_found, parse_only, parse_refused, parse_refuses}
use Rattle.link_script.proofs.script.VersionScript.parse.Goals as goal

pub returns-clause-found : goal.returns-clause-found
returns-clause-found c = parse_found c.args.profile c.args.text.now c.parse_script.result c.parse_script.ensures

pub returns-clause-only : goal.returns-clause-only
returns-clause-only c = λ raw x. parse_only c.args.profile c.args.text.now raw c.parse_script.result x c.parse_script.ensures

pub returns-clause-refused : goal.returns-clause-refused
returns-clause-refused c = parse_refused c.args.profile c.args.text.now c.parse_script.result c.parse_script.ensures

pub returns-clause-refuses : goal.returns-clause-refuses
returns-clause-refuses c = λ kind at f. parse_refuses c.args.profile c.args.text.now kind at c.parse_script.result f c.parse_script.ensures

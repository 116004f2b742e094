use Rattle.std.proofs.Common.{subst}
use Rattle.link_script_syntax.specs.Fault.{Gives}
use Rattle.link_script_syntax.proofs.Skipping.{found_of, skip_is}
use Rattle.link_script_syntax.proofs.skip.skip.Goals as goal

pub returns-clause-found : goal.returns-clause-found
returns-clause-found c = found_of (λ x. x.now) c.args.text.now c.skip_run.result c.skip_run.ensures.gives

pub returns-clause-only : goal.returns-clause-only
returns-clause-only c = λ rest s. subst (λ f. Gives (λ x. x.now) c.skip_run.result f) (skip_is c.args.text.now rest s) c.skip_run.ensures.gives

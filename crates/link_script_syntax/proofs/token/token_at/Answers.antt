use Rattle.std.proofs.Common.{ℕ, List, subst}
use Rattle.link_script_syntax.specs.Fault.{Gives}
use Rattle.link_script_syntax.specs.declared.matcher.SymbolMatcher.{SymbolMatcher}
use Rattle.link_script_syntax.proofs.TokenLaws.{token_of_result, token_only}
use Rattle.link_script_syntax.proofs.token.token_at.Goals as goal

pub returns-clause-found : goal.returns-clause-found
returns-clause-found c = token_of_result (λ x. x.0) (λ x. x.1.now) c.args.end c.args.text.now c.token_run.result c.token_run.ensures.gives

pub returns-clause-only : goal.returns-clause-only
returns-clause-only c = λ m rest t. subst (λ f. Gives {Y = SymbolMatcher × List ℕ} (λ x. (x.0, x.1.now)) c.token_run.result f) (token_only c.args.end c.args.text.now m rest t) c.token_run.ensures.gives

use Rattle.std.proofs.Common.{Option, sym, subst}
use Rattle.link_rules.specs.declared.refusal.LinkError.{LinkError}
use Rattle.link_check_texts.specs.Causes.{TellsCause}
use Rattle.link_check_texts.specs.Given.{given_of, platform_of}
use Rattle.link_check_texts.proofs.Causing.{opening-is}
use Rattle.link_check_texts.proofs.opening.open_link.Goals as goal

pub returns-clause-cause : goal.returns-clause-cause
returns-clause-cause g c = λ demangle many.
    subst (λ (cause : Option LinkError). TellsCause cause c.read_in_order.result)
    (sym (opening-is (platform_of g.P.Platform) demangle (given_of c.args.world.now) c.args.num_symbols many)) c.read_in_order.ensures.cause

use Rattle.std.proofs.Common.{◌≡◌, ◌∙◌, true, false, ap, subst, sym}
use Rattle.link_db_texts.specs.Causes.{TellsCause}
use Rattle.link_rules.specs.Undefined.{Numbered, resolved}
use Rattle.link_rules.specs.Versions.{asks_version, undeclared_version}
use Rattle.link_resolve.proofs.Giving.{given-asked, given-unasked}
use Rattle.link_resolve.proofs.versions.version_given.Goals as goal

pub returns-then-asks_version-clause-cause : goal.returns-then-asks_version-clause-cause
returns-then-asks_version-clause-cause g c = λ l is.
    let s : Numbered = (c.args.id, c.args.symbol.now) in
    let asks : asks_version (resolved l) s ≡ true = sym (c.asks_version.ensures (g.D.Demangler.demangled c.args.demangler.now) l is) ∙ c.if-asks_version.true in
    subst (λ answer. TellsCause (undeclared_version answer) c.version_by_script.result) (sym (given-asked (resolved l) s asks)) (c.version_by_script.ensures.cause l.stage.rules is.rules)

pub returns-else-asks_version-clause-cause : goal.returns-else-asks_version-clause-cause
returns-else-asks_version-clause-cause g c = λ l is.
    let s : Numbered = (c.args.id, c.args.symbol.now) in
    let asks : asks_version (resolved l) s ≡ false = sym (c.asks_version.ensures (g.D.Demangler.demangled c.args.demangler.now) l is) ∙ c.if-asks_version.false in
    ap undeclared_version (given-unasked (resolved l) s asks)

pub returns-else-asks_version-clause-version : goal.returns-else-asks_version-clause-version
returns-else-asks_version-clause-version g c = λ l is.
    let s : Numbered = (c.args.id, c.args.symbol.now) in
    let asks : asks_version (resolved l) s ≡ false = sym (c.asks_version.ensures (g.D.Demangler.demangled c.args.demangler.now) l is) ∙ c.if-asks_version.false in
    given-unasked (resolved l) s asks

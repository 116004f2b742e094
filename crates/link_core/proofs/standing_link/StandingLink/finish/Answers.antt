use Rattle.std.proofs.Common.{◌≡◌, ◌∙◌, ◌⊎◌, Option, subst, sym}
use Rattle.std.specs.Option.{IsSomeAnd}
use Rattle.link_db_texts.specs.Holds.{platform_of}
use Rattle.link_rules.specs.declared.refusal.LinkError.TheVariants.{Memory}
use Rattle.link_rules.specs.Answer.{IsLinked, IsRefused}
use Rattle.link_rules.specs.World.{World}
use Rattle.link_core_answer.specs.Parts.{answer_of}
use Rattle.link_core_answer.specs.Seen as answer
use Rattle.link_core.specs.Results.{HasParts}
use Rattle.link_core.specs.Steps.{IsRefusedBehind}
use Rattle.link_core.proofs.Passing.{err-into, ok-both, ok-into}
use Rattle.link_core.proofs.Refusing.{refused-with}
use Rattle.link_core.proofs.Standing.{ends-standing}
use Rattle.link_core.proofs.standing_link.StandingLink.finish.Goals as goal

-- a batch came, so there is room
pub finish_link-requires-clause-room : goal.finish_link-requires-clause-room
finish_link-requires-clause-room g c =
    (ends-standing (platform_of g.P.Platform) (g.D.Demangler.demangled c.args.demangler.now) c.args.self c.requires.standing c.requires.some).room

pub returns-clause-linked : goal.returns-clause-linked
returns-clause-linked g c =
    let ends = ends-standing (platform_of g.P.Platform) (g.D.Demangler.demangled c.args.demangler.now) c.args.self c.requires.standing c.requires.some in
    ok-into c.finish_link.result _ _ (λ linked held. subst (λ (o : Option World). IsSomeAnd o (λ w. IsLinked w (answer_of (answer.seen linked)))) (sym ends.is) (held ends.world ends.selection ends.loaded))
    c.finish_link.ensures.linked

pub returns-clause-parts : goal.returns-clause-parts
returns-clause-parts g c =
    let ends = ends-standing (platform_of g.P.Platform) (g.D.Demangler.demangled c.args.demangler.now) c.args.self c.requires.standing c.requires.some in
    ok-both c.finish_link.result _ _ _ (λ linked kept roots. subst (λ (o : Option World). IsSomeAnd o (λ w. HasParts w (answer.seen linked))) (sym ends.is)
    (ends.selection, ends.loaded.selects, kept ends.world ends.selection ends.loaded, roots ends.world ends.selection ends.loaded))
    c.finish_link.ensures.kept c.finish_link.ensures.roots

pub returns-clause-objects : goal.returns-clause-objects
returns-clause-objects g c =
    let ends = ends-standing (platform_of g.P.Platform) (g.D.Demangler.demangled c.args.demangler.now) c.args.self c.requires.standing c.requires.some in
    ok-into c.finish_link.result _ _ (λ linked held. held ends.world ends.selection ends.loaded ∙ ends.objects) c.finish_link.ensures.objects

pub returns-clause-behind : goal.returns-clause-behind
returns-clause-behind g c =
    let ends = ends-standing (platform_of g.P.Platform) (g.D.Demangler.demangled c.args.demangler.now) c.args.self c.requires.standing c.requires.some in
    err-into c.finish_link.result _ _ (λ e held. subst (λ (o : Option World). IsSomeAnd o (λ w. IsRefusedBehind w e) ⊎ (e ≡ Memory)) (sym ends.is) (held ends.world ends.selection ends.loaded))
    c.finish_link.ensures.refused

pub returns-clause-refused : goal.returns-clause-refused
returns-clause-refused g c =
    let ends = ends-standing (platform_of g.P.Platform) (g.D.Demangler.demangled c.args.demangler.now) c.args.self c.requires.standing c.requires.some in
    err-into c.finish_link.result _ _ (λ e held. subst (λ (o : Option World). IsSomeAnd o (λ w. IsRefused w e) ⊎ (e ≡ Memory)) (sym ends.is) (refused-with ends.world e (held ends.world ends.selection ends.loaded)))
    c.finish_link.ensures.refused

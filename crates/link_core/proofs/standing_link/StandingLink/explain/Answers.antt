use Rattle.std.proofs.Common.{◌≡◌, ◌∙◌, ◌⊎◌, List, Option, subst, sym}
use Rattle.std.specs.Option.{IsSomeAnd}
use Rattle.link_db.specs.Seen.{seen}
use Rattle.link_db_texts.specs.Holds.{platform_of}
use Rattle.link_resolve_explanation.specs.Rooted.{FollowsFrom}
use Rattle.link_rules.specs.declared.explanation.FoundRoot.{FoundRoot}
use Rattle.link_rules.specs.declared.refusal.LinkError.TheVariants.{Memory}
use Rattle.link_rules.specs.Answer.{IsLinked, IsRefused}
use Rattle.link_rules.specs.Explained.{Explains, IsExplanation}
use Rattle.link_rules.specs.FoundRoots.{found_roots}
use Rattle.link_rules.specs.World.{World}
use Rattle.link_rules.proofs.AllRoots.{fewer-names, follows-from_all, passes-world}
use Rattle.link_core_answer.specs.Parts.{answer_of}
use Rattle.link_core_answer.specs.Seen as answer
use Rattle.link_core.specs.Results.{HasParts}
use Rattle.link_core.specs.Standing.{came_to}
use Rattle.link_core.specs.Steps.{IsRefusedBehind}
use Rattle.link_core.proofs.Passing.{err-into, ok-both, ok-into}
use Rattle.link_core.proofs.Refusing.{refused-with}
use Rattle.link_core.proofs.Standing.{ends-standing, noted-at}
use Rattle.link_core.proofs.standing_link.StandingLink.explain.Goals as goal

-- a batch came, so there is room
pub explain_link-requires-clause-room : goal.explain_link-requires-clause-room
explain_link-requires-clause-room g c =
    (ends-standing (platform_of g.P.Platform) (g.D.Demangler.demangled c.args.demangler.now) c.args.self c.requires.standing c.requires.some).room

pub returns-clause-linked : goal.returns-clause-linked
returns-clause-linked g c =
    let ends = ends-standing (platform_of g.P.Platform) (g.D.Demangler.demangled c.args.demangler.now) c.args.self c.requires.standing c.requires.some in
    ok-into c.explain_link.result _ _ (λ told held. subst (λ (o : Option World). IsSomeAnd o (λ w. IsLinked w (answer_of (answer.seen told.0)))) (sym ends.is) (held ends.world ends.selection ends.loaded))
    c.explain_link.ensures.linked

pub returns-clause-parts : goal.returns-clause-parts
returns-clause-parts g c =
    let ends = ends-standing (platform_of g.P.Platform) (g.D.Demangler.demangled c.args.demangler.now) c.args.self c.requires.standing c.requires.some in
    ok-both c.explain_link.result _ _ _ (λ told kept roots. subst (λ (o : Option World). IsSomeAnd o (λ w. HasParts w (answer.seen told.0))) (sym ends.is)
    (ends.selection, ends.loaded.selects, kept ends.world ends.selection ends.loaded, roots ends.world ends.selection ends.loaded))
    c.explain_link.ensures.kept c.explain_link.ensures.roots

pub returns-clause-objects : goal.returns-clause-objects
returns-clause-objects g c =
    let ends = ends-standing (platform_of g.P.Platform) (g.D.Demangler.demangled c.args.demangler.now) c.args.self c.requires.standing c.requires.some in
    ok-into c.explain_link.result _ _ (λ told held. held ends.world ends.selection ends.loaded ∙ ends.objects) c.explain_link.ensures.objects

-- by what was found at the stages that the link passed
pub returns-clause-explained : goal.returns-clause-explained
returns-clause-explained g c =
    let platform = platform_of g.P.Platform in
    let demangle = g.D.Demangler.demangled c.args.demangler.now in
    let standing = c.args.self in
    let ends = ends-standing platform demangle standing c.requires.standing c.requires.some in
    let passes = passes-world ends.world ends.selection ends.loaded.selects.ends in
    let found = noted-at platform demangle (seen standing.link.db).options standing.texts (came_to standing) standing.found ends.world c.requires.standing.noted ends.is passes.0 ends.selection passes.1 in
    let roots : c.as_slice.result.now ≡ found_roots passes.0 ends.selection.stage =
    c.as_slice.ensures.value ∙ c.in_ok-roots.ensures passes.0 ends.selection.stage found (fewer-names ends.world passes.0 ends.selection passes.1) in
    let follows = subst (λ (rs : List FoundRoot). FollowsFrom rs ends.selection) (sym roots) (follows-from_all ends.world passes.0 ends.selection passes.1) in
    ok-into c.explain_link.result _ _ (λ told held. subst (λ (o : Option World). IsSomeAnd o (λ w. IsExplanation w told.1)) (sym ends.is) (
      passes.0,
      ends.selection,
      passes.1,
      subst (λ (rs : List FoundRoot). Explains ends.selection rs told.1) roots (held ends.world ends.selection ends.loaded follows),
    )) c.explain_link.ensures.explained

pub returns-clause-behind : goal.returns-clause-behind
returns-clause-behind g c =
    let ends = ends-standing (platform_of g.P.Platform) (g.D.Demangler.demangled c.args.demangler.now) c.args.self c.requires.standing c.requires.some in
    err-into c.explain_link.result _ _ (λ e held. subst (λ (o : Option World). IsSomeAnd o (λ w. IsRefusedBehind w e) ⊎ (e ≡ Memory)) (sym ends.is) (held ends.world ends.selection ends.loaded))
    c.explain_link.ensures.refused

pub returns-clause-refused : goal.returns-clause-refused
returns-clause-refused g c =
    let ends = ends-standing (platform_of g.P.Platform) (g.D.Demangler.demangled c.args.demangler.now) c.args.self c.requires.standing c.requires.some in
    err-into c.explain_link.result _ _ (λ e held. subst (λ (o : Option World). IsSomeAnd o (λ w. IsRefused w e) ⊎ (e ≡ Memory)) (sym ends.is) (refused-with ends.world e (held ends.world ends.selection ends.loaded)))
    c.explain_link.ensures.refused

use Rattle.std.proofs.Common.{◌≡◌, ◌∙◌, ◌⊎◌, ◌<◌, List, Option, ap, arith, length, map, subst}
use Rattle.std.specs.List.{flat_map}
use Rattle.std.specs.Option.{IsSomeAnd}
use Rattle.std.proofs.lemmas.List.{length-map}
use Rattle.link_input.specs.InputFiles.{Batch, batch_of}
use Rattle.link_db_texts.specs.Holds.{platform_of}
use Rattle.link_rules.specs.declared.refusal.LinkError.TheVariants.{Memory}
use Rattle.link_rules.specs.Answer.{IsLinked, IsRefused}
use Rattle.link_rules.specs.Explained.{IsExplanation}
use Rattle.link_rules.specs.World.{World}
use Rattle.link_core_answer.specs.Parts.{answer_of}
use Rattle.link_core_answer.specs.Seen as answer
use Rattle.link_core.specs.Given.{world_of_batches}
use Rattle.link_core.specs.Results.{HasParts}
use Rattle.link_core.proofs.Passing.{err-into, ok-into, refused-through}
use Rattle.link_core.proofs.link.link_why.Goals as goal

-- a text or a batch is the cause
pub returns-in_err-standing-clause-refused : goal.returns-in_err-standing-clause-refused
returns-in_err-standing-clause-refused g c = refused-through c.from_residual.result _ c.in_err-standing.field-0.0 c.from_residual.ensures.1 c.in_err-standing.ensures.refused

-- there are some batches
pub explain-requires-clause-some : goal.explain-requires-clause-some
explain-requires-clause-some g c =
    let whole = ap (λ (bs : List Batch). length bs) c.in_ok-standing.ensures.batches in
    let many = length-map c.args.batches.items (batch_of {P = g.row.P.Denot}) in
    omega (arith, whole, many, c.requires.some)

pub returns-clause-linked : goal.returns-clause-linked
returns-clause-linked g c =
    let e = c.in_ok-standing.ensures in
    ok-into c.explain.result _ _ (λ told held. subst (λ (o : Option World). IsSomeAnd o (λ w. IsLinked w (answer_of (answer.seen told.0))))
    (λ i. world_of_batches (platform_of g.P.Platform) (g.D.Demangler.demangled c.args.demangler.now) (e.options i) (e.texts i) (e.batches i)) held) c.explain.ensures.linked

pub returns-clause-parts : goal.returns-clause-parts
returns-clause-parts g c =
    let e = c.in_ok-standing.ensures in
    ok-into c.explain.result _ _ (λ told held. subst (λ (o : Option World). IsSomeAnd o (λ w. HasParts w (answer.seen told.0)))
    (λ i. world_of_batches (platform_of g.P.Platform) (g.D.Demangler.demangled c.args.demangler.now) (e.options i) (e.texts i) (e.batches i)) held) c.explain.ensures.parts

pub returns-clause-objects : goal.returns-clause-objects
returns-clause-objects g c =
    ok-into c.explain.result _ _ (λ told held. held ∙ ap (λ (bs : List Batch). flat_map (λ (b : Batch). b.objects) bs) c.in_ok-standing.ensures.batches) c.explain.ensures.objects

pub returns-clause-explained : goal.returns-clause-explained
returns-clause-explained g c =
    let e = c.in_ok-standing.ensures in
    ok-into c.explain.result _ _ (λ told held. subst (λ (o : Option World). IsSomeAnd o (λ w. IsExplanation w told.1))
    (λ i. world_of_batches (platform_of g.P.Platform) (g.D.Demangler.demangled c.args.demangler.now) (e.options i) (e.texts i) (e.batches i)) held) c.explain.ensures.explained

pub returns-clause-refused : goal.returns-clause-refused
returns-clause-refused g c =
    let e = c.in_ok-standing.ensures in
    err-into c.explain.result _ _ (λ error held. subst (λ (o : Option World). IsSomeAnd o (λ w. IsRefused w error) ⊎ (error ≡ Memory))
    (λ i. world_of_batches (platform_of g.P.Platform) (g.D.Demangler.demangled c.args.demangler.now) (e.options i) (e.texts i) (e.batches i)) held) c.explain.ensures.refused

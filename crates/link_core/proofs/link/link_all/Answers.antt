use Rattle.std.proofs.Common.{◌≡◌, ◌∙◌, ◌⊎◌, ◌<◌, ◌++◌, List, [], ◌∷◌, Option, ap, append_assoc, arith, length, map, subst, sym}
use Rattle.std.specs.Option.{IsSomeAnd}
use Rattle.std.proofs.lemmas.List.{length-map}
use Rattle.link_flags.specs.FlagWords.{words_of}
use Rattle.link_input.specs.declared.world.Inputs.{Inputs}
use Rattle.link_input.specs.InputFiles.{Batch, batch_of}
use Rattle.link_db_texts.specs.Holds.{platform_of}
use Rattle.link_rules.specs.declared.refusal.LinkError.TheVariants.{Memory}
use Rattle.link_rules.specs.Answer.{IsRefused}
use Rattle.link_rules.specs.World.{World}
use Rattle.link_db.specs.Seen.{seen}
use Rattle.link_core.specs.Given.{world_of_batches}
use Rattle.link_core.specs.Standing.{came_to}
use Rattle.link_core.proofs.Holding.{fails-open}
use Rattle.link_core.proofs.Passing.{refused-through}
use Rattle.link_core.proofs.Standing.{all-came, few-left, refused-text}
use Rattle.link_core.proofs.link.link_all.Goals as goal

-- a text is the cause
pub returns-in_err-standing-clause-refused : goal.returns-in_err-standing-clause-refused
returns-in_err-standing-clause-refused g c =
    let many = length-map c.args.batches.items (batch_of {P = g.row.P.Denot}) in
    let some : 0 < length (map batch_of c.args.batches.items) = omega (arith, many, c.requires.some) in
    let e = c.in_err-standing.field-0.0 in
    refused-through c.from_residual.result _ e c.from_residual.ensures.1
    (refused-text (platform_of g.P.Platform) (g.D.Demangler.demangled c.args.demangler.now) c.args.scripts c.args.options (map batch_of c.args.batches.items) e some c.in_err-standing.ensures.cause)

-- no batch came
pub loop-inputs-init : goal.loop-inputs-init
loop-inputs-init g c =
    let e = c.in_ok-standing.ensures in (
      e.standing (g.D.Demangler.demangled c.args.demangler.now),
      e.options,
      e.texts,
      ap (λ (bs : List Batch). bs ++ map batch_of c.into_iter-inputs-iterator.result.rest.items) e.batches
          ∙ ap (λ (xs : List (Inputs g.row.P.Denot)). map batch_of xs) c.into_iter-inputs-iterator.ensures.into_iter_gives.0,
    )

-- fewer came than there are
pub link_next-requires-clause-few : goal.link_next-requires-clause-few
link_next-requires-clause-few g c κs within =
    let inv = c.loop-inputs.invariant in
    few-left (came_to c.loop-inputs.standing) c.loop-inputs.inputs-iterator.rest.items c.args.batches.items c.in-Some.inputs c.next.new.self.rest.items inv.3 c.in-Some.ensures.steps.0 c.requires.most

-- one batch more
pub loop-inputs-preserved : goal.loop-inputs-preserved
loop-inputs-preserved g c =
    let inv = c.loop-inputs.invariant in
    let e = c.in_ok-link_next.ensures in
    let rest = map batch_of c.next.new.self.rest.items in
    let b = batch_of c.in-Some.inputs in (
      e.standing,
      e.options ∙ inv.1,
      c.link_next.ensures.texts ∙ inv.2,
      ap (λ (bs : List Batch). bs ++ rest) e.batches
          ∙ (append_assoc (came_to c.loop-inputs.standing) (b ∷ []) rest
          ∙ (ap (λ (xs : List (Inputs g.row.P.Denot)). came_to c.loop-inputs.standing ++ map batch_of xs) (sym c.in-Some.ensures.steps.0) ∙ inv.3)),
    )

-- a batch is the cause, whatever comes behind it
pub returns-in_err-link_next-clause-refused : goal.returns-in_err-link_next-clause-refused
returns-in_err-link_next-clause-refused g c =
    let e = c.in_err-link_next.field-0.0 in
    let inv = c.loop-inputs.invariant in
    let standing = c.loop-inputs.standing in
    let platform = platform_of g.P.Platform in
    let demangle = g.D.Demangler.demangled c.args.demangler.now in
    let whole : came_to standing ++ batch_of c.in-Some.inputs ∷ map batch_of c.next.new.self.rest.items ≡ map batch_of c.args.batches.items =
    ap (λ (xs : List (Inputs g.row.P.Denot)). came_to standing ++ map batch_of xs) (sym c.in-Some.ensures.steps.0) ∙ inv.3 in
    refused-through c.from_residual-in_err-link_next.result _ e c.from_residual-in_err-link_next.ensures.1
    (subst (λ (o : Option World). IsSomeAnd o (λ w. IsRefused w e) ⊎ (e ≡ Memory)) (λ i. world_of_batches platform demangle (inv.1 i) (inv.2 i) (whole i))
    (fails-open platform demangle (seen standing.link.db).options standing.texts (came_to standing) (batch_of c.in-Some.inputs) (map batch_of c.next.new.self.rest.items) (seen standing.link.db)
    (words_of standing.link.flags) standing.link.resolver e inv.0.came c.in_err-link_next.ensures.refused))

-- all came
pub returns-clause-batches : goal.returns-clause-batches
returns-clause-batches g c =
    let rest = c.loop-inputs.inputs-iterator.rest in
    all-came (came_to c.loop-inputs.standing) rest.items c.args.batches.items (omega (arith, rest.ok.0, c.in-None.ensures.steps.0)) c.loop-inputs.invariant.3

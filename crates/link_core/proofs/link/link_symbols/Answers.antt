use Rattle.std.proofs.Common.{◌≡◌, ◌∙◌, ◌⊎◌, List, ap, append-nil, map, subst}
use Rattle.std.specs.List.{flat_map}
use Rattle.link_input.specs.declared.world.Inputs.{Inputs}
use Rattle.link_input.specs.InputFiles.{Batch, batch_of}
use Rattle.link_db_texts.specs.Holds.{platform_of}
use Rattle.link_rules.specs.declared.refusal.LinkError.TheVariants.{Memory}
use Rattle.link_core_answer.specs.Parts.{answer_of}
use Rattle.link_core_answer.specs.Seen as answer
use Rattle.link_core.specs.Results.{IsRefusedFor, KeepsParts, LinksTo}
use Rattle.link_core.proofs.Passing.{err-into, ok-into}
use Rattle.link_core.proofs.link.link_symbols.Goals as goal

-- the link of one batch
pub returns-clause-linked : goal.returns-clause-linked
returns-clause-linked g c =
    let one = ap (λ (xs : List (Inputs g.row.P.Denot)). map batch_of xs) c.in_ok-batches.ensures in
    ok-into c.link_batches.result _ _ (λ linked held. subst (λ (bs : List Batch). LinksTo (platform_of g.P.Platform) (g.D.Demangler.demangled c.args.demangler.now) c.args.options c.args.scripts bs
    (answer_of (answer.seen linked))) one held) c.link_batches.ensures.linked

pub returns-clause-parts : goal.returns-clause-parts
returns-clause-parts g c =
    let one = ap (λ (xs : List (Inputs g.row.P.Denot)). map batch_of xs) c.in_ok-batches.ensures in
    ok-into c.link_batches.result _ _ (λ linked held. subst (λ (bs : List Batch). KeepsParts (platform_of g.P.Platform) (g.D.Demangler.demangled c.args.demangler.now) c.args.options c.args.scripts bs
    (answer.seen linked)) one held) c.link_batches.ensures.parts

pub returns-clause-objects : goal.returns-clause-objects
returns-clause-objects g c =
    let one = ap (λ (xs : List (Inputs g.row.P.Denot)). map batch_of xs) c.in_ok-batches.ensures in
    ok-into c.link_batches.result _ _ (λ linked held. held ∙ (ap (λ (bs : List Batch). flat_map (λ (b : Batch). b.objects) bs) one ∙ append-nil c.args.inputs.objects)) c.link_batches.ensures.objects

pub returns-clause-refused : goal.returns-clause-refused
returns-clause-refused g c =
    let one = ap (λ (xs : List (Inputs g.row.P.Denot)). map batch_of xs) c.in_ok-batches.ensures in
    err-into c.link_batches.result _ _ (λ e held. subst (λ (bs : List Batch). IsRefusedFor (platform_of g.P.Platform) (g.D.Demangler.demangled c.args.demangler.now) c.args.options c.args.scripts bs e
    ⊎ (e ≡ Memory)) one held) c.link_batches.ensures.refused

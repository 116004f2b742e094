use Rattle.std.proofs.Common.{◌≡◌, ◌∙◌, ◌⊎◌, List, ap, arith, length, map, subst}
use Rattle.std.specs.List.{flat_map}
use Rattle.link_input.specs.InputFiles.{Batch, batch_of}
use Rattle.link_input.specs.ObjectFile.{ObjectFile}
use Rattle.link_core_answer.specs.Parts.{answer_of}
use Rattle.link_core_answer.specs.Seen as answer
use Rattle.link_db_texts.specs.Holds.{platform_of}
use Rattle.link_rules.specs.declared.refusal.LinkError.TheVariants.{Memory}
use Rattle.link_rules.specs.World.{Given, World, world_of}
use Rattle.link_core.specs.Given.{given_in_batches}
use Rattle.link_core.specs.Results.{IsRefusedFor, LinksTo}
use Rattle.link_program.specs.Described.{objects_given}
use Rattle.link_program.specs.Outcome.{IsToldOf, told_text}
use Rattle.link_program.proofs.OfWorld.{linked-text, ok-through, refused-text}
use Rattle.link_program.proofs.run.answer_to_world.Goals as goal

-- there is a batch
pub link_batches-requires-clause-some : goal.link_batches-requires-clause-some
link_batches-requires-clause-some g c = let many = ap (λ (xs : List _). length xs) c.in_ok-batches.ensures in omega (arith, many)

-- and not too many come
pub link_batches-requires-clause-most : goal.link_batches-requires-clause-most
link_batches-requires-clause-most g c = let many = ap (λ (xs : List _). length xs) c.in_ok-batches.ensures in let few = c.requires.few in omega (arith, many, few)

-- a refused link
pub returns-in-Err : goal.returns-in-Err
returns-in-Err g c =
    let world = c.args.world in
    let given : Given = given_in_batches (batch_of world.inputs) (map batch_of world.later) world.options world.scripts in
    let w : World = world_of (platform_of g.P.Platform) (λ name. name) given in
    let all = ap (λ (xs : List _). map batch_of xs) c.in_ok-batches.ensures in
    let refused = subst (λ (bs : List Batch). IsRefusedFor (platform_of g.P.Platform) (λ name. name) world.options world.scripts bs c.in-Err.error ⊎ (c.in-Err.error ≡ Memory)) all c.in-Err.ensures.refused in
    ok-through c.refusal_answer.result _ _ _ _ (λ a cause status line. refused-text w (IsToldOf w (told_text c.args.told (objects_given given))) c.in-Err.error a.status a.text.items
    refused cause status line)
    c.refusal_answer.ensures.cause c.refusal_answer.ensures.status c.refusal_answer.ensures.text

-- a link that stands
pub returns-in-Ok : goal.returns-in-Ok
returns-in-Ok g c =
    let world = c.args.world in
    let given : Given = given_in_batches (batch_of world.inputs) (map batch_of world.later) world.options world.scripts in
    let w : World = world_of (platform_of g.P.Platform) (λ name. name) given in
    let told = answer_of (answer.seen c.in-Ok.linked) in
    let all = ap (λ (xs : List _). map batch_of xs) c.in_ok-batches.ensures in
    let objects = c.in-Ok.ensures.objects ∙ ap (λ (bs : List Batch). flat_map (λ (b : Batch). b.objects) bs) all in
    let linked = subst (λ (bs : List Batch). LinksTo (platform_of g.P.Platform) (λ name. name) world.options world.scripts bs told) all c.in-Ok.ensures.linked in
    ok-through c.linked_answer.result _ _ _ _ (λ a status line same. linked-text w (told_text c.args.told (objects_given given)) told a.status a.text.items
    linked status (line ∙ ap (λ (os : List ObjectFile). told_text c.args.told os told) objects))
    c.linked_answer.ensures.status c.linked_answer.ensures.text c.linked_answer.ensures.text

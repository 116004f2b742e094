use Rattle.std.proofs.Common.{◌≡◌, ◌⊎◌, List, ap, arith, length, map, subst}
use Rattle.link_input.specs.InputFiles.{Batch, batch_of}
use Rattle.link_core_answer.specs.Parts.{answer_of}
use Rattle.link_core_answer.specs.Seen as answer
use Rattle.link_db_texts.specs.Holds.{platform_of}
use Rattle.link_rules.specs.declared.refusal.LinkError.TheVariants.{Memory}
use Rattle.link_rules.specs.World.{World, world_of}
use Rattle.link_core.specs.Given.{given_in_batches}
use Rattle.link_core.specs.Results.{IsRefusedFor, KeepsParts, LinksTo}
use Rattle.link_program.specs.Gc.{IsGcReport}
use Rattle.link_program.proofs.OfWorld.{ok-through, refused-text, sections-text}
use Rattle.link_program.proofs.TooLong.{ok-along}
use Rattle.link_program.proofs.gc.sections_of_world.Goals as goal

-- there is a batch
pub link_batches-requires-clause-some : goal.link_batches-requires-clause-some
link_batches-requires-clause-some g c = let many = ap (λ (xs : List _). length xs) c.in_ok-batches.ensures in omega (arith, many)

-- and not too many come
pub link_batches-requires-clause-most : goal.link_batches-requires-clause-most
link_batches-requires-clause-most g c = let many = ap (λ (xs : List _). length xs) c.in_ok-batches.ensures in let few = c.requires.few in omega (arith, many, few)

-- a refused link
pub returns-in-Err : goal.returns-in-Err
returns-in-Err g c =
    let world = c.args.world in
    let w : World = world_of (platform_of g.P.Platform) (λ name. name) (given_in_batches (batch_of world.inputs) (map batch_of world.later) world.options world.scripts) in
    let all = ap (λ (xs : List _). map batch_of xs) c.in_ok-batches.ensures in
    let refused = subst (λ (bs : List Batch). IsRefusedFor (platform_of g.P.Platform) (λ name. name) world.options world.scripts bs c.in-Err.error ⊎ (c.in-Err.error ≡ Memory)) all c.in-Err.ensures.refused in
    ok-through c.refusal_answer.result _ _ _ _ (λ a cause status line. refused-text w (IsGcReport w) c.in-Err.error a.status a.text.items refused cause status line)
    c.refusal_answer.ensures.cause c.refusal_answer.ensures.status c.refusal_answer.ensures.text

-- a link that stands
pub returns-in-Ok : goal.returns-in-Ok
returns-in-Ok g c =
    let world = c.args.world in
    let platform = platform_of g.P.Platform in
    let w : World = world_of platform (λ name. name) (given_in_batches (batch_of world.inputs) (map batch_of world.later) world.options world.scripts) in
    let kept = answer.seen c.in-Ok.linked in
    let all = ap (λ (xs : List _). map batch_of xs) c.in_ok-batches.ensures in
    let linked = subst (λ (bs : List Batch). LinksTo platform (λ name. name) world.options world.scripts bs (answer_of kept)) all c.in-Ok.ensures.linked in
    let parts = subst (λ (bs : List Batch). KeepsParts platform (λ name. name) world.options world.scripts bs kept) all c.in-Ok.ensures.parts in
    ok-along c.sections_answer.result _ _ _ (λ a status text. sections-text w (answer_of kept) a.status a.text.items linked status (text w linked parts))
    c.sections_answer.ensures.status c.sections_answer.ensures.text

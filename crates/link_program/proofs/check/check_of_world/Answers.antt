use Rattle.std.proofs.Common.{◌≡◌, arith, length}
use Rattle.link_input.specs.InputFiles.{batch_of}
use Rattle.link_check_texts.specs.Causes.{opening_refusal}
use Rattle.link_check_texts.specs.Given.{given_of, platform_of}
use Rattle.link_rules.specs.World.{World, world_of}
use Rattle.link_program.proofs.OfWorld.{ok-into, ok-through}
use Rattle.link_program.proofs.CheckText.{judged-so, of-one, refused-so}
use Rattle.link_program.proofs.check.check_of_world.Goals as goal

-- a claim that is judged
pub returns-in-Ok : goal.returns-in-Ok
returns-in-Ok g c =
    let world = c.args.world.now in
    let claim = c.args.claim.now in
    let w : World = world_of (platform_of g.P.Platform) (λ name. name) (given_of world) in
    let none : length world.later ≡ 0 = omega (arith, c.if-len-gt0.false, c.len.ensures) in
    ok-into c.verdict_answer.result _ _ (λ a ends. of-one batch_of w claim world.later (a.status, a.text.items) none (judged-so w claim (opening_refusal w) c.in-Ok.verdict
    (a.status, a.text.items) (c.in-Ok.ensures.cause (λ name. name)) (c.in-Ok.ensures.verdict (λ name. name)) ends))
    c.verdict_answer.ensures

-- a cause that comes before that
pub returns-in-Err : goal.returns-in-Err
returns-in-Err g c =
    let world = c.args.world.now in
    let claim = c.args.claim.now in
    let w : World = world_of (platform_of g.P.Platform) (λ name. name) (given_of world) in
    let none : length world.later ≡ 0 = omega (arith, c.if-len-gt0.false, c.len.ensures) in
    ok-through c.refusal_answer.result _ _ _ _ (λ a told status line. of-one batch_of w claim world.later (a.status, a.text.items) none (refused-so w claim (opening_refusal w)
    c.in-Err.error a.status a.text.items (c.in-Err.ensures.cause (λ name. name)) told status line))
    c.refusal_answer.ensures.cause c.refusal_answer.ensures.status c.refusal_answer.ensures.text

use Rattle.std.proofs.Common.{◌≡◌, ◌∙◌, List, length, sym, ap}
use Rattle.link_check_symbols.specs.Gathered.{link_symbols}
use Rattle.link_check_texts.specs.Given.{given_of, platform_of}
use Rattle.link_input.specs.declared.internal_symbols.InternalSymDefInfo.{InternalSymDefInfo}
use Rattle.link_input.specs.InputFiles.{batch_of}
use Rattle.link_input.specs.Symbols.{Symbol}
use Rattle.link_rules.specs.World.{first_stage, world_of}
use Rattle.link_check.proofs.checking.check_claim.Goals as goal

-- a cause before anything is loaded
pub returns-clause-cause : goal.returns-clause-cause
returns-clause-cause g c = λ demangle.
    let w = first_stage (world_of (platform_of g.P.Platform) demangle (given_of c.args.world.now)) in
    let symbols : c.as_slice-symbols.result.now ≡ w.symbols =
    c.as_slice-symbols.ensures.value
    ∙ (c.in_ok-gathered.ensures ∙ ap (λ (ds : List InternalSymDefInfo). link_symbols ds (batch_of c.args.world.now.inputs)) c.in_ok-prelude.ensures) in
    c.in-Err.ensures.cause demangle (sym (ap (λ (ss : List Symbol). length ss) symbols))

-- none
pub returns-in-Ok-clause-cause : goal.returns-in-Ok-clause-cause
returns-in-Ok-clause-cause g c = λ demangle.
    let w = first_stage (world_of (platform_of g.P.Platform) demangle (given_of c.args.world.now)) in
    let symbols : c.as_slice-symbols.result.now ≡ w.symbols =
    c.as_slice-symbols.ensures.value
    ∙ (c.in_ok-gathered.ensures ∙ ap (λ (ds : List InternalSymDefInfo). link_symbols ds (batch_of c.args.world.now.inputs)) c.in_ok-prelude.ensures) in
    c.in-Ok.ensures.cause demangle (sym (ap (λ (ss : List Symbol). length ss) symbols))

pub returns-in-Ok-clause-verdict : goal.returns-in-Ok-clause-verdict
returns-in-Ok-clause-verdict g c = λ demangle. c.in_ok-verdict_on-in-Ok.ensures demangle (c.as_slice-required.ensures ∙ c.in-Ok.ensures.required demangle)

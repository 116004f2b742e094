use Rattle.std.proofs.Common.{◌≡◌, ◌∙◌, sym, true, false, arith}
use Rattle.std.proofs.lemmas.Grind.{common_steps}
use Rattle.link_input.specs.Checks.{repeats_header}
use Rattle.link_input.proofs.FirstPlace.{first_place-drop}
use Rattle.link_input.proofs.checks.repeated_header.Goals as goal

pub returns-then-not-branch : goal.returns-then-not-branch
returns-then-not-branch c =
    let groups = c.args.groups.now in
    let group = c.index-groups-i.result in
    let left = first_place-drop (repeats_header groups) groups c.loop-i.i group c.loop-i-test.true c.index-groups-i.is in
    let before = c.loop-i.invariant.1 group.index in
    let repeats : repeats_header groups c.loop-i.i group ≡ true = grind (arith, before) in
    sym (c.loop-i.invariant.0 ∙ left ∙ rw repeats)

pub loop-i-preserved : goal.loop-i-preserved
loop-i-preserved c =
    let groups = c.args.groups.now in
    let group = c.index-groups-i.result in
    let left = first_place-drop (repeats_header groups) groups c.loop-i.i group c.loop-i-test.true c.index-groups-i.is in
    let before = c.loop-i.invariant.1 group.index in
    let repeats : repeats_header groups c.loop-i.i group ≡ false = grind (arith, before) in
    (c.loop-i.invariant.0 ∙ left ∙ rw repeats, λ q. grind (arith, common_steps, c.loop-i.invariant.1 q))

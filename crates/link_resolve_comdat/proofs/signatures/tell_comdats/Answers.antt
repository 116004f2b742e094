use Rattle.std.proofs.Common.{◌<◌, ◌∙◌, false, length, get_or, arith}
use Rattle.std.proofs.lemmas.Option.{slice_get-get_or}
use Rattle.link_rules.specs.Comdat.{groups_of}
use Rattle.link_resolve_comdat.proofs.Placed.{told-turn, told-end, length-groups_of}
use Rattle.link_resolve_comdat.proofs.signatures.tell_comdats.Goals as goal

pub loop-group-preserved : goal.loop-group-preserved
loop-group-preserved g c =
    let o = c.args.candidate.now in
    let k = c.loop-group.group in
    let kept = c.args.kept.now in
    let lt : k < length (groups_of o) = omega (arith, length-groups_of o, c.requires) in
    record { done = told-turn c.loop-group.comdats c.tell_comdat.new.comdats (groups_of o) kept k (get_or kept k false) lt (slice_get-get_or kept k false c.loop-group-test.true) c.in_ok-tell_comdat.ensures ∙ c.loop-group.invariant.done }

pub returns : goal.returns
returns g c = told-end c.loop-group.comdats _ (groups_of c.args.candidate.now) c.args.kept.now c.loop-group.group c.loop-group-test.false c.loop-group.invariant.done

use Rattle.std.proofs.Common.{◌≡◌, ◌&&◌, ◌∙◌, ap, ℕ, Bool, true, false, Some, option_map, arith}
use Rattle.std.specs.Prelude.{slice_get}
use Rattle.std.proofs.lemmas.Option.{same_Some}
use Rattle.link_input.specs.declared.object.SectionGroup.{SectionGroup}
use Rattle.link_input.specs.ObjectFile.{ObjectFile}
use Rattle.link_rules.specs.Comdat.{groups_of}
use Rattle.link_resolve_comdat.proofs.Placed.{group-of, told-nothing, told-one}
use Rattle.link_resolve_comdat.proofs.signatures.tell_comdat.Goals as goal

pub returns-then-not-group : goal.returns-then-not-group
returns-then-not-group g c =
    let o = c.args.candidate.now in
    let file : c.object-object.result.now ≡ o.1.object = c.object-object.ensures ∙ ap (λ (x : ℕ × ObjectFile). x.1.object) c.candidate.view_is in
    let group : option_map (λ x. x.group) (slice_get (groups_of o) c.args.group) ≡ Some c.group.result.now = group-of o c.object-object.result.now c.args.group file ∙ c.group.ensures.group in
    let plain : c.group.result.now.is_comdat ≡ false = grind arith in
    told-nothing c.args.comdats.now (slice_get (groups_of o) c.args.group) c.args.is_kept (λ x there.
    let same : x.group ≡ c.group.result.now = same_Some x.group c.group.result.now (rw there at group) in
    ap (λ (y : SectionGroup). y.is_comdat && c.args.is_kept) same ∙ ap (λ (b : Bool). b && c.args.is_kept) plain)

pub returns : goal.returns
returns g c =
    let o = c.args.candidate.now in
    let file : c.object-object.result.now ≡ o.1.object = c.object-object.ensures ∙ ap (λ (x : ℕ × ObjectFile). x.1.object) c.candidate.view_is in
    let group : option_map (λ x. x.group) (slice_get (groups_of o) c.args.group) ≡ Some c.group.result.now = group-of o c.object-object.result.now c.args.group file ∙ c.group.ensures.group in
    let comdat : c.group.result.now.is_comdat ≡ true = grind arith in
    let kept : c.args.is_kept ≡ true = grind arith in
    told-one c.args.comdats.now c.push.new.self (slice_get (groups_of o) c.args.group) c.in_ok-told_group.field-0 c.group.result.now c.args.is_kept c.in_ok-told_group.ensures group comdat kept c.in_ok-push.ensures.ok

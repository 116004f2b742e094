use Rattle.std.proofs.Common.{◌≡◌, ◌∙◌, ap, sym, ℕ, Some}
use Rattle.link_input.specs.ObjectFile.{ObjectFile}
use Rattle.link_rules.specs.declared.linked.KeptGroup.{KeptGroup}
use Rattle.link_rules.specs.Places.{Bytes}
use Rattle.link_resolve_comdat.proofs.Placed.{told-at}
use Rattle.link_resolve_comdat.proofs.signatures.told_group.Goals as goal

pub returns : goal.returns
returns g c =
    let o = c.args.candidate.now in
    let file : c.object-object.result.now ≡ o.1.object = c.object-object.ensures ∙ ap (λ (x : ℕ × ObjectFile). x.1.object) c.candidate.view_is in
    let name : c.signature.result.name ≡ c.in_ok-from_slice.field-0 = sym (c.in_ok-from_slice.ensures ∙ c.as_slice.ensures ∙ c.name.ensures) in
    let Told : ℕ → Bytes → KeptGroup = λ object name. record { object = object; group = c.args.group; signature = name } in
    told-at o c.object-object.result.now c.args.group c.signature.result file c.signature.ensures
    ∙ ap (λ (n : Bytes). Some (Told o.0 n)) name ∙ ap (λ (x : ℕ × ObjectFile). Some (Told x.0 c.in_ok-from_slice.field-0)) (sym c.candidate.view_is)

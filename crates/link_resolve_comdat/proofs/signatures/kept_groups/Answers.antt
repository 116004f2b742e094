use Rattle.std.proofs.Common.{◌≡◌, ◌≤◌, ◌++◌, ◌||◌, ◌&&◌, ◌∙◌, ap, sym, ℕ, Bool, List, [], ◌∷◌, length, drop, not, ◌+◌, Some, arith}
use Rattle.std.specs.Prelude.{slice_get}
use Rattle.std.specs.Str.{bytes_eq}
use Rattle.std.proofs.lemmas.List.{at_drop_all, append-nil}
use Rattle.link_input.specs.declared.object.ObjectTable.{ObjectTable}
use Rattle.link_input.specs.ObjectFile.{ObjectFile}
use Rattle.link_rules.specs.Places.{Bytes}
use Rattle.link_rules.specs.Comdat.{PlacedGroup, groups_of}
use Rattle.link_resolve_comdat.specs.InOrder.{is_met, met_with, is_kept_after, kept_in_order}
use Rattle.link_resolve_comdat.proofs.Placed.{placed-in, met-one, met-step, kept-order-step, length-groups_of}
use Rattle.link_resolve_comdat.proofs.Truth.{or-false}
use Rattle.link_resolve_comdat.proofs.signatures.kept_groups.Goals as goal

-- at the end nothing is left
all-kept : (met : Bytes → Bool) (kept all : List Bool) (groups : List PlacedGroup) (k : ℕ) → length groups ≤ k → kept ++ kept_in_order met (drop k groups) ≡ all → kept ≡ all
all-kept met kept all groups k over is = sym (append-nil kept) ∙ ap (λ (bs : List Bool). kept ++ bs) (sym (at_drop_all (kept_in_order met) groups k over)) ∙ is

all-met : (met : Bytes → Bool) (name : Bytes) (all : Bool) (groups : List PlacedGroup) (k : ℕ) → length groups ≤ k → met_with met (drop k groups) name ≡ all → met name ≡ all
all-met met name all groups k over is = sym (or-false (met name)) ∙ sym (at_drop_all (λ gs. met_with met gs name) groups k over) ∙ is

pub loop-group-preserved : goal.loop-group-preserved
loop-group-preserved g c =
    let o = c.args.candidate.now in
    let k = c.loop-group.group in
    let now = is_met c.loop-group.signatures in
    let new = is_met c.is_first_met.new.signatures in
    let file : c.object-object.result.now ≡ o.1.object = c.object-object.ensures ∙ ap (λ (x : ℕ × ObjectFile). x.1.object) c.candidate.view_is in
    let placed : PlacedGroup = record { place = (o.0, k); signature = c.signature.result.name; group = c.group.result.now } in
    let there : slice_get (groups_of o) k ≡ Some placed = placed-in o c.object-object.result.now k c.group.result.now c.signature.result file c.group.ensures.group c.signature.ensures in
    let name : c.as_slice-signature.result.now ≡ placed.signature = c.as_slice-signature.ensures ∙ c.name.ensures in
    let kept : c.in_ok-is_first_met.field-0 ≡ is_kept_after now placed =
    c.in_ok-is_first_met.ensures.kept ∙ ap (λ (n : Bytes). not placed.group.is_comdat || not (now n)) name in
    let met : (asked : Bytes) → new asked ≡ met_with now (placed ∷ []) asked =
    λ asked. met-one now placed asked (new asked) (c.in_ok-is_first_met.ensures.met asked ∙ ap (λ (n : Bytes). now asked || (placed.group.is_comdat && bytes_eq asked n)) name) in
    record {
      kept = ap (λ (bs : List Bool). bs ++ kept_in_order new (drop (k + 1) (groups_of o))) c.in_ok-push.ensures.items
          ∙ kept-order-step now new c.loop-group.kept.items (groups_of o) k placed c.in_ok-is_first_met.field-0 there kept met ∙ c.loop-group.invariant.kept;
      met = λ asked. met-step now new (groups_of o) k placed asked there (met asked) ∙ c.loop-group.invariant.met asked;
    }

pub returns-clause-kept : goal.returns-clause-kept
returns-clause-kept g c =
    let o = c.args.candidate.now in
    let groups = ap length (c.groups-group-end.ensures ∙ ap (λ (t : ObjectTable). t.groups) (c.object-object.ensures ∙ ap (λ (x : ℕ × ObjectFile). x.1.object) c.candidate.view_is)) in
    all-kept (is_met c.loop-group.signatures) c.loop-group.kept.items _ (groups_of o) c.loop-group.group (omega (arith, length-groups_of o, groups)) c.loop-group.invariant.kept

pub returns-clause-met : goal.returns-clause-met
returns-clause-met g c = λ name.
    let o = c.args.candidate.now in
    let groups = ap length (c.groups-group-end.ensures ∙ ap (λ (t : ObjectTable). t.groups) (c.object-object.ensures ∙ ap (λ (x : ℕ × ObjectFile). x.1.object) c.candidate.view_is)) in
    all-met (is_met c.loop-group.signatures) name _ (groups_of o) c.loop-group.group (omega (arith, length-groups_of o, groups)) (c.loop-group.invariant.met name)

use Rattle.std.proofs.Common.{◌≡◌, ◌∙◌, Bool, List, length, map, sym, ap}
use Rattle.std.specs.List.{range_with_len}
use Rattle.link_check_claims.specs.declared.claim.ClaimedObject.{ClaimedObject}
use Rattle.link_check_claims.specs.Claims.{claimed_group, claimed_marks, is_claimed}
use Rattle.link_check_texts.specs.Given.{given_of, platform_of}
use Rattle.link_input.specs.ObjectFile.{ObjectFile}
use Rattle.link_rules.specs.Answer.{kept_comdats}
use Rattle.link_rules.specs.Comdat.{loaded_groups}
use Rattle.link_rules.specs.Selection.{selection_of}
use Rattle.link_rules.specs.Undefined.{final_table}
use Rattle.link_rules.specs.World.{first_stage, world_of}
use Rattle.link_check.proofs.Steps.{same-difference}
use Rattle.link_check.proofs.checking.verdict_behind_loaded.Goals as goal

pub returns-then-not-are_same : goal.returns-then-not-are_same
returns-then-not-are_same g c = λ demangle named told loaded.
    let w = first_stage (world_of (platform_of g.P.Platform) demangle (given_of c.args.world.now)) in
    let marks : c.deref.result.now ≡ claimed_marks w c.args.claim.now.loaded =
    c.deref.ensures.value ∙ (c.in_ok-marks.ensures
    ∙ (ap (λ (os : List ClaimedObject). map (is_claimed os) (range_with_len 0 (length c.as_slice-objects.result.now))) c.as_slice.ensures
    ∙ ap (λ (os : List ObjectFile). map (is_claimed c.args.claim.now.loaded) (range_with_len 0 (length os))) c.as_slice-objects.ensures)) in
    let groups = c.in_ok-groups.ensures w (sym c.as_slice-objects.ensures) in
    let kept = c.in_ok-kept.ensures w c.deref.result.now groups ∙ ap (λ (ms : List Bool). map claimed_group (kept_comdats w ms)) marks in
    (loaded, λ same. c.are_same.ensures.other c.if-not-are_same.true (c.as_slice-2.ensures ∙ (same ∙ sym (c.deref-2.ensures.value ∙ kept))))

pub returns-in-Some : goal.returns-in-Some
returns-in-Some g c = λ demangle named told loaded.
    let w = first_stage (world_of (platform_of g.P.Platform) demangle (given_of c.args.world.now)) in
    let marks : c.deref.result.now ≡ claimed_marks w c.args.claim.now.loaded =
    c.deref.ensures.value ∙ (c.in_ok-marks.ensures
    ∙ (ap (λ (os : List ClaimedObject). map (is_claimed os) (range_with_len 0 (length c.as_slice-objects.result.now))) c.as_slice.ensures
    ∙ ap (λ (os : List ObjectFile). map (is_claimed c.args.claim.now.loaded) (range_with_len 0 (length os))) c.as_slice-objects.ensures)) in
    let groups = c.in_ok-groups.ensures w (sym c.as_slice-objects.ensures) in
    let kept = c.in_ok-kept.ensures w c.deref.result.now groups ∙ ap (λ (ms : List Bool). map claimed_group (kept_comdats w ms)) marks in
    let same_kept = sym c.as_slice-2.ensures ∙ (c.are_same.ensures.same c.if-not-are_same.false ∙ (c.deref-2.ensures.value ∙ kept)) in
    let again : c.deref.result.now ≡ c.deref-3.result.now = c.deref.ensures.value ∙ sym c.deref-3.ensures.value in
    let table = c.in_ok-table.ensures demangle named told (groups ∙ ap (loaded_groups w) again) ∙ ap (λ (ms : List Bool). final_table (selection_of w ms)) (sym again ∙ marks) in
    (loaded, same_kept, same-difference _ _ _ _ c.in-Some.id c.as_slice-3.ensures (c.deref-4.ensures.value ∙ table) c.in-Some.ensures.some)

pub returns : goal.returns
returns g c = λ demangle named told loaded.
    let w = first_stage (world_of (platform_of g.P.Platform) demangle (given_of c.args.world.now)) in
    let marks : c.deref.result.now ≡ claimed_marks w c.args.claim.now.loaded =
    c.deref.ensures.value ∙ (c.in_ok-marks.ensures
    ∙ (ap (λ (os : List ClaimedObject). map (is_claimed os) (range_with_len 0 (length c.as_slice-objects.result.now))) c.as_slice.ensures
    ∙ ap (λ (os : List ObjectFile). map (is_claimed c.args.claim.now.loaded) (range_with_len 0 (length os))) c.as_slice-objects.ensures)) in
    let groups = c.in_ok-groups.ensures w (sym c.as_slice-objects.ensures) in
    let kept = c.in_ok-kept.ensures w c.deref.result.now groups ∙ ap (λ (ms : List Bool). map claimed_group (kept_comdats w ms)) marks in
    let same_kept = sym c.as_slice-2.ensures ∙ (c.are_same.ensures.same c.if-not-are_same.false ∙ (c.deref-2.ensures.value ∙ kept)) in
    let again : c.deref.result.now ≡ c.deref-3.result.now = c.deref.ensures.value ∙ sym c.deref-3.ensures.value in
    let table = c.in_ok-table.ensures demangle named told (groups ∙ ap (loaded_groups w) again) ∙ ap (λ (ms : List Bool). final_table (selection_of w ms)) (sym again ∙ marks) in
    record { loaded = loaded; kept = same_kept; table = sym c.as_slice-3.ensures ∙ (c.in-None.ensures.none ∙ (c.deref-4.ensures.value ∙ table)) }

-- What a claim that holds says of the answer.
use Rattle.std.proofs.Common.{◌≡◌, ◌∙◌, List, [], Bool, false, Option, None, Some, Result, Ok, Err, ap, map, sym, subst}
use Rattle.std.specs.Prelude.{MatchOption}
use Rattle.link_rules.specs.declared.refusal.LinkError.{LinkError}
use Rattle.link_rules.specs.Answer.{BatchesEnd, EndsWith, IsLinked, kept_comdats}
use Rattle.link_rules.specs.Linked.{Linked}
use Rattle.link_rules.specs.Loading.{IsLoaded}
use Rattle.link_rules.specs.Refusals.{batch_refusal, group_refusal}
use Rattle.link_rules.specs.Selection.{Selection, selection_of}
use Rattle.link_rules.specs.Undefined.{resolved}
use Rattle.link_rules.specs.World.{World, first_stage, start_of}
use Rattle.link_check_claims.specs.declared.claim.Claim.{Claim}
use Rattle.link_check_claims.specs.Claims.{ClaimHolds, claimed_group, claimed_marks}
use Rattle.link_check_claims.proofs.Holding.{marks-loaded}

-- what ends well has no cause
no-cause : {A : Type 0} (o : Option LinkError) (l : Selection) → MatchOption o A (λ e. ◌≡◌ {A = Result Selection LinkError} (Ok l) (Err e)) → A
no-cause None l goes_on = goes_on
no-cause (Some e) l same = absurd cc

-- a world without further batches ends with what is selected at its one stage
one-stage : (world : World) (last : Selection) → world.later ≡ [] → BatchesEnd world (Ok last)
    → (marks : List Bool) × IsLoaded (first_stage world) marks × (last ≡ selection_of (first_stage world) marks)
one-stage world last none ends =
    let one = no-cause (batch_refusal false (start_of world) world.first) last
    (subst (λ cs. EndsWith false (start_of world) world.first cs (Ok last)) none ends) in
    let same = no-cause (group_refusal (selection_of (first_stage world) one.0)) last one.2 in
    (one.0, one.1, (let e : last ≡ selection_of (first_stage world) one.0 = cc in e))

module _ (world : World) (claim : Claim) (linked : Linked) (none : world.later ≡ []) (holds : ClaimHolds world claim) (is : IsLinked world linked) where
  -- what is selected is what is claimed
  same-selection : is.last ≡ selection_of (first_stage world) (claimed_marks (first_stage world) claim.loaded)
  same-selection =
      let one = one-stage world is.last none is.ends in
      one.2 ∙ ap (selection_of (first_stage world)) (sym (marks-loaded (first_stage world) claim.loaded holds.loaded one.0 one.1))

  pub same-kept : claim.kept ≡ map claimed_group linked.kept
  same-kept = holds.kept
      ∙ (ap (λ (l : Selection). map claimed_group (kept_comdats l.stage l.marks)) (sym same-selection) ∙ ap (λ (x : Linked). map claimed_group x.kept) (sym is.is))

  pub same-table : claim.table ≡ linked.table
  same-table = holds.table ∙ (ap (λ (l : Selection). (resolved l).table) (sym same-selection) ∙ ap (λ (x : Linked). x.table) (sym is.is))

use Rattle.std.proofs.Common.{◌≡◌, ◌∙◌, sym, ap, None, Some, Option, option_map, ℕ, inr, List, [], replicate}
use Rattle.link_rules.specs.declared.refusal.LinkError.TheVariants.{SectionInTwoGroups}
use Rattle.link_rules.specs.Places.{Bytes}
use Rattle.link_rules.specs.Refusals.{first_repeated}
use Rattle.link_resolve_comdat.specs.Tables.{members_of, is_noted, first_again}
use Rattle.link_resolve_comdat.proofs.Noting.{again-empty}
use Rattle.link_resolve_comdat.proofs.selection.member_table.Goals as goal

-- what is told of a table that was empty
repeated : (table : List (Option ℕ)) (count : ℕ) (members : List ℕ) (found : Option ℕ) → table ≡ replicate count None → found ≡ first_again (is_noted table) members → first_repeated [] members ≡ found
repeated table count members found empty is = sym (is ∙ ap (λ (t : List (Option ℕ)). first_again (is_noted t) members) empty ∙ again-empty count members)

pub returns-in-None-clause-cause : goal.returns-in-None-clause-cause
returns-in-None-clause-cause c =
    let once = repeated c.as_mut_slice.result.now c.args.sections (members_of c.args.groups.now) None (c.as_mut_slice.ensures.value ∙ c.in_ok-member_of.ensures) c.in-None.ensures.again in
    ap (option_map (λ section. SectionInTwoGroups c.args.file.now section)) once

pub returns-in-None-clause-once : goal.returns-in-None-clause-once
returns-in-None-clause-once c =
    repeated c.as_mut_slice.result.now c.args.sections (members_of c.args.groups.now) None (c.as_mut_slice.ensures.value ∙ c.in_ok-member_of.ensures) c.in-None.ensures.again

pub returns-in_ok-clone-in-Some-clause-cause : goal.returns-in_ok-clone-in-Some-clause-cause
returns-in_ok-clone-in-Some-clause-cause c =
    let again = repeated c.as_mut_slice.result.now c.args.sections (members_of c.args.groups.now) (Some c.in-Some.section) (c.as_mut_slice.ensures.value ∙ c.in_ok-member_of.ensures) c.in-Some.ensures.again in
    inr (ap (option_map (λ section. SectionInTwoGroups c.args.file.now section)) again
    ∙ ap (λ (file : Bytes). Some (SectionInTwoGroups file c.in-Some.section)) (sym c.in_ok-clone-in-Some.ensures.cases))

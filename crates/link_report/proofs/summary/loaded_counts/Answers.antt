use Rattle.std.proofs.Common.{rules, ◌≡◌, ◌∙◌, ◌==◌, ℕ, List, ap, not, sym}
use Rattle.std.specs.Prelude.{count_by}
use Rattle.link_closure.specs.Closure.{is_marked}
use Rattle.link_db_files.specs.Inputs.{objects_in}
use Rattle.link_input.specs.Limits.{total}
use Rattle.link_input.specs.ObjectFile.{ObjectFile}
use Rattle.link_rules.specs.declared.linked.KeptGroup.{KeptGroup}
use Rattle.link_core_answer.specs.Parts.{loaded_among}
use Rattle.link_core_answer.specs.Seen.{seen}
use Rattle.link_report.specs.Summary.{discarded_of, is_kept}
use Rattle.link_report.proofs.Counted.{discarded-told, members-told}
use Rattle.link_report.proofs.summary.loaded_counts.Goals as goal

-- what doesn't stand first among the loaded objects is counted as the answer has it
pub returns-clause-members : goal.returns-clause-members
returns-clause-members g c =
    let loaded = loaded_among (seen c.args.linked.now).known.marks (objects_in (seen c.args.linked.now).db.mapping.files.groups) in
    let are : c.deref.result.now ≡ loaded = search rules in
    c.member_count.ensures ∙ (ap (λ (os : List (ℕ × ObjectFile)). count_by (λ o. not (o.0 == 0)) os) are ∙ sym (members-told loaded))

-- the groups of each loaded object are those that its place in the answer leads to
pub returns-clause-discarded : goal.returns-clause-discarded
returns-clause-discarded g c =
    let objects = objects_in (seen c.args.linked.now).db.mapping.files.groups in
    let kept = is_kept (seen c.args.linked.now).groups.groups.kept in
    let are : c.deref-2.result.now ≡ loaded_among (seen c.args.linked.now).known.marks objects = search rules in
    let are_kept : c.kept_comdats.result.now ≡ (seen c.args.linked.now).groups.groups.kept = search rules in
    c.in_ok-discarded_count.ensures
    ∙ (ap (λ (groups : List KeptGroup). total (discarded_of (is_kept groups)) c.deref-2.result.now) are_kept
    ∙ (ap (λ (os : List (ℕ × ObjectFile)). total (discarded_of kept) os) are
    ∙ sym (discarded-told kept (λ o. is_marked (seen c.args.linked.now).known.marks o.0) objects)))
